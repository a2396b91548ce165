use Rattle.std.proofs.Common.{map, arith, ap, sym, ◌∙◌}
use Rattle.std.proofs.lemmas.List.{take_all}
use Rattle.std.proofs.lemmas.Result.{IfOk-weaker}
use Rattle.std.proofs.lemmas.Simd.{map-map}
use Rattle.pb_tree.specs.View.{name_view}
use Rattle.pb_names.proofs.NameNumbers.{texts_more}
use Rattle.pb_names.proofs.declared.Declared.integers.Goals as goal

pub loop-name-init : goal.loop-name-init
loop-name-init g c = ap (map (λ text. text.now)) c.in_ok-texts.ensures.items

pub loop-name-preserved : goal.loop-name-preserved
loop-name-preserved g c =
    texts_more (λ text. text.now) (λ x. x.text.items) _ _ c.as_slice.result _ _ c.name-item.result c.in_ok-push.ensures.items
    c.as_slice.ensures.value (omega arith) c.name-item.is c.loop-name.invariant

pub returns : goal.returns
returns g c =
    IfOk-weaker c.index.result _ _
    (λ names same. same
    ∙ c.loop-name.invariant
    ∙ ap (map (λ x. x.text.items)) (take_all _ c.deref-name-items.result.now (omega arith) ∙ c.deref-name-items.ensures.value)
    ∙ sym (map-map (λ name. name.text) name_view c.args.integers.now.items))
    c.index.ensures
