use Rattle.std.proofs.Common.{◌≡◌, ◌-◌, [], get_or}
use Rattle.pb_bank.specs.Words.{words_of}
use Rattle.pb_bank.proofs.words.nth_word.Given as goal

abbrev pub invariant-loop-k : goal.invariant-loop-k
invariant-loop-k l = get_or (words_of l.rest) (l.n - l.k) [] ≡ get_or (words_of l.text) l.n []
