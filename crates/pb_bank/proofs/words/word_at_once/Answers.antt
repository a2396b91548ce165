use Rattle.std.proofs.Common.{◌≡◌, ◌<◌, length, get_or, sym, ap, ◌∙◌, arith}
use Rattle.std.proofs.lemmas.Bool.{eqb-true, eqb-false}
use Rattle.pb_bank.specs.Words.{ends_word}
use Rattle.pb_bank.proofs.WordLemmas.{comma_first, word_ends, parts_as, empty_before}
use Rattle.pb_bank.proofs.words.word_at_once.Goals as goal

pub returns-then-is_empty-clause-words : goal.returns-then-is_empty-clause-words
returns-then-is_empty-clause-words c =
    empty_before c.args.text.now (eqb-true (length c.args.text.now) 0 (sym c.is_empty.ensures ∙ c.if-is_empty.true))

pub returns-then-length-eq0-clause-words : goal.returns-then-length-eq0-clause-words
returns-then-length-eq0-clause-words c =
    let text = c.args.text.now in
    let some' : length text ≡ 0 → ⊥ = eqb-false (length text) 0 (sym c.is_empty.ensures ∙ c.if-is_empty.false) in
    let some : 0 < length text = omega (arith, some') in
    let none : c.word_length-length.result ≡ 0 = omega arith in
    let ends = c.word_length-length.ensures.ends (omega (arith, some, none)) in
    parts_as text _ _ _ _ (comma_first text some (c.requires some) (ap (λ n. ends_word (get_or text n 0)) (sym none) ∙ ends))
    c.cut_at.ensures.word c.cut_at.ensures.rest

pub returns-clause-words : goal.returns-clause-words
returns-clause-words c =
    let text = c.args.text.now in
    parts_as text _ _ _ _ (word_ends text c.word_length-length.result c.word_length-length.ensures.bound c.word_length-length.ensures.words c.word_length-length.ensures.ends)
    c.cut_at-2.ensures.word c.cut_at-2.ensures.rest
