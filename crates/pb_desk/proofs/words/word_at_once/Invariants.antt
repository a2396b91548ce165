use Rattle.std.proofs.Common.{◌≡◌, take, drop}
use Rattle.pb_bank.specs.Words.{words_of, cut_words}
use Rattle.pb_desk.proofs.words.word_at_once.Given as goal

abbrev pub invariant-loop-i : goal.invariant-loop-i
invariant-loop-i l = words_of l.text ≡ cut_words (take l.i l.text) (drop l.i l.text)
