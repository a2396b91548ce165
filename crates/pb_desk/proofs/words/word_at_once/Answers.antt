use Rattle.std.proofs.Common.{◌≡◌, ◌<◌, length, get_or, sym, ap, ◌∙◌, arith, inl, inr}
use Rattle.std.proofs.lemmas.Bool.{cases_lt}
use Rattle.std.proofs.lemmas.List.{take_all}
use Rattle.pb_bank.specs.Words.{ends_word}
use Rattle.pb_bank.proofs.WordLemmas.{comma_first, starts, word_ends, word_more}
use Rattle.pb_desk.proofs.WordFronts.{front_first, neither, none_first}
use Rattle.pb_desk.proofs.words.word_at_once.Goals as goal

pub loop-i-init : goal.loop-i-init
loop-i-init c = starts c.args.text.now

pub loop-i-preserved : goal.loop-i-preserved
loop-i-preserved c =
    let parts = neither _ _ (sym c.ends_word-ends.ensures ∙ c.if-ends.false) in
    c.loop-i.invariant ∙ word_more c.args.text.now c.loop-i.i (omega arith) parts.0 parts.1

pub returns-then-i-eq0 : goal.returns-then-i-eq0
returns-then-i-eq0 c =
    let text = c.args.text.now in
    let some : 0 < length text = omega arith in
    let none : c.loop-i.i ≡ 0 = omega arith in
    front_first text c.front.result.now 1 _ (omega arith) (omega (arith, some)) c.front.ensures
    (comma_first text some (c.requires some)
    (ap (λ n. ends_word (get_or text n 0)) (sym none) ∙ (sym c.ends_word-ends.ensures ∙ c.if-ends.true)))

pub returns-then-ends : goal.returns-then-ends
returns-then-ends c =
    let text = c.args.text.now in
    front_first text c.front-then-ends.result.now c.loop-i.i _ (omega arith) (omega arith) c.front-then-ends.ensures
    (word_ends text c.loop-i.i (omega arith) c.loop-i.invariant (λ lt. sym c.ends_word-ends.ensures ∙ c.if-ends.true))

pub returns : goal.returns
returns c =
    let text = c.args.text.now in
    let n = c.loop-i.i in
    let end : length text ≡ n = omega arith in
    elim (cases_lt 0 (length text)) [
      | inl some ↦
          front_first text text n _ (omega (arith, some, end)) (omega arith) (sym (take_all n text (omega arith)))
          (word_ends text n (omega arith) c.loop-i.invariant (λ lt. absurd (omega arith)))
      | inr none ↦ none_first text (omega (arith, none))
    ]
