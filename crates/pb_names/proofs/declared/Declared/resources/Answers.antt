use Rattle.std.proofs.Common.{map, arith, ap, sym, ◌∙◌}
use Rattle.std.proofs.lemmas.List.{take_all}
use Rattle.std.proofs.lemmas.Result.{IfOk-weaker}
use Rattle.pb_tree.specs.Syntax.{ResourceSyntax}
use Rattle.pb_tree.specs.View.{resource_view}
use Rattle.pb_names.proofs.NameNumbers.{declared_texts, texts_more}
use Rattle.pb_names.proofs.declared.Declared.resources.Goals as goal

pub loop-resource-init : goal.loop-resource-init
loop-resource-init g c = ap (map (λ text. text.now)) c.in_ok-texts.ensures.items

pub loop-resource-preserved : goal.loop-resource-preserved
loop-resource-preserved g c =
    texts_more (λ text. text.now) (λ x. x.name.text.items) _ _ c.as_slice.result _ _ c.resource-item.result c.in_ok-push.ensures.items
    c.as_slice.ensures.value (omega arith) c.resource-item.is c.loop-resource.invariant

pub returns : goal.returns
returns g c =
    IfOk-weaker c.index.result _ _
    (λ names same. same
    ∙ c.loop-resource.invariant
    ∙ ap (map (λ x. x.name.text.items)) (take_all _ c.deref-resource-items.result.now (omega arith) ∙ c.deref-resource-items.ensures.value)
    ∙ sym (declared_texts (λ (r : ResourceSyntax). r.name) resource_view c.args.resources.now.items))
    c.index.ensures
