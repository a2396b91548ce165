use Rattle.std.proofs.Common.{◌≡◌, ℕ, List, true, length, drop, get_or, sym, ap, ◌∙◌, arith}
use Rattle.std.proofs.lemmas.List.{drop_all}
use Rattle.pb_bank.specs.Answers.{first_of}
use Rattle.pb_bank.specs.Words.{is_blank, words_of}
use Rattle.pb_bank.proofs.WordLemmas.{skip_blank, trim_blank}
use Rattle.pb_desk.proofs.WordFronts.{none_first}
use Rattle.pb_desk.proofs.words.first_word.Goals as goal

pub loop-i-preserved : goal.loop-i-preserved
loop-i-preserved c =
    let text = c.args.text.now in
    let i = c.loop-i.i in
    let blank : is_blank (get_or text i 0) ≡ true = sym c.is_blank.ensures ∙ c.if-not-is_blank.false in
    record {
      words = skip_blank text i (omega arith) blank ∙ c.loop-i.invariant.words;
      trimmed = trim_blank text i (omega arith) blank ∙ c.loop-i.invariant.trimmed;
    }

pub returns-clause-first : goal.returns-clause-first
returns-clause-first c =
    let text = c.args.text.now in
    let rest = c.back-2.result.now in
    let end : length text ≡ c.loop-i.i = omega arith in
    let here : rest ≡ drop c.loop-i.i text = c.back-2.ensures ∙ ap (λ k. drop k text) end in
    let empty : length rest ≡ 0 =
    ap (λ (t : List ℕ). length t) (c.back-2.ensures ∙ drop_all (length text) text (omega arith)) in
    none_first rest empty ∙ (ap (λ (t : List ℕ). first_of (words_of t)) here ∙ ap first_of c.loop-i.invariant.words)
