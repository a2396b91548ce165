use Rattle.std.proofs.Common.{◌≡◌, ℕ, List, length, drop, sym, ap, ◌∙◌, arith}
use Rattle.std.proofs.Common.{inl, inr}
use Rattle.std.proofs.lemmas.Bool.{cases_lt}
use Rattle.std.proofs.lemmas.List.{length-drop}
use Rattle.pb_bank.specs.Words.{words_of}
use Rattle.pb_bank.proofs.WordLemmas.{no_words, first_kept}
use Rattle.pb_bank.proofs.words.first_word.Goals as goal

pub word_at_once-requires : goal.word_at_once-requires
word_at_once-requires c =
    first_kept c.args.text.now c.blanks.result c.cut_at-start.result.rest.now c.cut_at-start.ensures.rest c.blanks.ensures.ends

pub returns : goal.returns
returns c =
    let text = c.args.text.now in
    let rest = c.cut_at-start.result.rest.now in
    let same : words_of rest ≡ words_of text = ap words_of c.cut_at-start.ensures.rest ∙ c.blanks.ensures.words in
    let size : length rest ≡ length (drop c.blanks.result text) = ap (λ (x : List ℕ). length x) c.cut_at-start.ensures.rest in
    let cut = length-drop c.blanks.result text in
    let shorter = c.word_at_once.ensures.shorter in
    record {
      words = sym same ∙ c.word_at_once.ensures.words;
      shorter = omega (arith, size, cut, shorter);
      less = λ some. (let further = c.word_at_once.ensures.less some in omega (arith, size, cut, further));
      none = λ empty. sym same ∙ elim (cases_lt 0 (length rest)) [
        | inl lt ↦ (let some = c.word_at_once.ensures.some lt in absurd (omega (arith, some, empty)))
        | inr le ↦ no_words rest (omega (arith, le))
      ];
    }
