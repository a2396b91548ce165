use Rattle.std.proofs.Common.{length}
use Rattle.pb_words.proofs.together.+at_most_one.Given as goal

abbrev pub decreases-at_most_one : goal.decreases-at_most_one
decreases-at_most_one l = length l.given.now
