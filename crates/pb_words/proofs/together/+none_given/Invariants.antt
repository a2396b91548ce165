use Rattle.std.proofs.Common.{length}
use Rattle.pb_words.proofs.together.+none_given.Given as goal

abbrev pub decreases-none_given : goal.decreases-none_given
decreases-none_given l = length l.given.now
