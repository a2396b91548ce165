use Rattle.std.proofs.Common.{◌≡◌, drop}
use Rattle.pb_bank.specs.Words.{trimmed, words_of}
use Rattle.pb_desk.proofs.words.first_word.Given as goal

abbrev pub invariant-loop-i : goal.invariant-loop-i
invariant-loop-i l = record {
  words : words_of (drop l.i l.text) ≡ words_of l.text;
  trimmed : trimmed (drop l.i l.text) ≡ trimmed l.text;
}
