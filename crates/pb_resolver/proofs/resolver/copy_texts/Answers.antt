use Rattle.std.proofs.Common.{map, arith, ap, sym, ◌∙◌}
use Rattle.std.proofs.lemmas.List.{take_all}
use Rattle.std.proofs.lemmas.Simd.{map-map}
use Rattle.pb_tree.specs.View.{name_view}
use Rattle.pb_names.proofs.NameNumbers.{texts_more}
use Rattle.pb_resolver.proofs.resolver.copy_texts.Goals as goal

pub loop-name-init : goal.loop-name-init
loop-name-init g c = ap (map (λ copy. copy.items)) c.in_ok-copies.ensures.items

pub loop-name-preserved : goal.loop-name-preserved
loop-name-preserved g c =
    texts_more (λ copy. copy.items) (λ x. x.text.items) _ _ c.in_ok-copy_text.field-0 _ _ c.name-item.result
    c.in_ok-push.ensures.items c.in_ok-copy_text.ensures (omega arith) c.name-item.is c.loop-name.invariant

pub returns : goal.returns
returns g c =
    c.loop-name.invariant
    ∙ ap (map (λ x. x.text.items)) (take_all _ c.deref-name-items.result.now (omega arith) ∙ c.deref-name-items.ensures.value)
    ∙ sym (map-map (λ name. name.text) name_view c.args.names.now.items)
