use Rattle.std.proofs.Common.{◌≡◌, ◌++◌, ℕ, List, Option, Some, None, true, sym, ap, ◌∙◌, arith}
use Rattle.std.proofs.lemmas.Bool.{eq-eqb}
use Rattle.std.proofs.lemmas.List.{drop_all}
use Rattle.pb_base.proofs.Results.{on_ok}
use Rattle.pb_desk.specs.Applies.{text_again}
use Rattle.pb_desk.specs.Sessions.{KeptValue, text_of}
use Rattle.pb_desk.proofs.KeptLemmas.{text_next}
use Rattle.pb_desk.proofs.kept.put_kept.Goals as goal

pub returns-then-one-number : goal.returns-then-one-number
returns-then-one-number c =
    let kept = c.args.kept.now in
    let one = c.one-item.result in
    let is : one.number ≡ c.args.number = sym (ap (λ (k : KeptValue). k.number) c.one.view_is) ∙ c.if-one-number.true in
    let found : text_of kept c.args.number ≡ Some one.text =
    c.loop-one.invariant.same
    ∙ text_next kept c.args.number c.loop-one.one-index one true (omega arith) c.one-item.is (eq-eqb one.number c.args.number is) in
    let text : c.deref.result.now ≡ one.text = c.deref.ensures.value ∙ ap (λ (k : KeptValue). k.text) c.one.view_is in
    on_ok c.put.result _ _ c.put.ensures
    (λ p. p ∙ (ap (λ (o : List ℕ). o ++ c.deref.result.now) c.loop-one.invariant.out
    ∙ ap (λ (t : List ℕ). c.args.out.now.items ++ t) (text ∙ sym (ap text_again found))))

pub returns : goal.returns
returns c =
    let kept = c.args.kept.now in
    let none : text_of kept c.args.number ≡ None =
    c.loop-one.invariant.same
    ∙ ap (λ (k : List KeptValue). text_of k c.args.number) (drop_all c.loop-one.one-index kept (omega arith)) in
    on_ok c.put_refusal.result _ _ c.put_refusal.ensures
    (λ p. p ∙ (ap (λ (o : List ℕ). o ++ text_again None) c.loop-one.invariant.out
    ∙ sym (ap (λ (t : Option (List ℕ)). c.args.out.now.items ++ text_again t) none)))
