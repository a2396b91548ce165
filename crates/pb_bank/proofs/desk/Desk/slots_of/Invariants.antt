use Rattle.std.proofs.Common.{◌≡◌, ◌<◌, length, All}
use Rattle.pb_bank.specs.Answers.{slots_after, slots_of}
use Rattle.pb_bank.specs.Words.{words_of}
use Rattle.pb_bank.proofs.desk.Desk.slots_of.Given as goal

abbrev pub invariant-loop-name : goal.invariant-loop-name
invariant-loop-name l = record {
  same : slots_of l.self (words_of l.text) ≡ slots_after l.self l.slots.items (words_of l.rest);
  below : All (λ p. p < 64) l.slots.items;
}

abbrev pub decreases-loop-name : goal.decreases-loop-name
decreases-loop-name l = length l.rest
