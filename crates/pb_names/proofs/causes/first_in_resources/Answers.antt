use Rattle.std.proofs.Common.{arith, map, ap, ◌∙◌}
use Rattle.std.specs.Prelude.{slice_get}
use Rattle.std.proofs.lemmas.List.{length-map}
use Rattle.pb_tree.specs.Syntax.{ResourceSyntax}
use Rattle.pb_tree.specs.View.{resource_view}
use Rattle.pb_names.specs.Causes.{InResource}
use Rattle.pb_base.proofs.Lists.{view_read}
use Rattle.pb_names.proofs.FirstCauses.{first_either, among_more, among_all}
use Rattle.pb_names.proofs.NameNumbers.{name_read, taken_names}
use Rattle.pb_names.proofs.causes.first_in_resources.Goals as goal

pub first_again-again-requires : goal.first_again-again-requires
first_again-again-requires g c =
    ap (λ names. slice_get names c.loop-i.i) c.requires
    ∙ name_read (λ (r : ResourceSyntax). r.name) (map resource_view c.args.resources.now.items) c.loop-i.i _
    (view_read resource_view _ _ _ _ c.deref-resource-items.ensures.value (omega arith) c.resource-item.is)

pub loop-i-preserved : goal.loop-i-preserved
loop-i-preserved g c =
    rw (c.earlier-first.ensures, c.earlier-here.ensures)
    (among_more InResource (map resource_view c.args.resources.now.items) c.loop-i.i
    (resource_view c.resource-item.result) _ _
    (view_read resource_view _ _ _ _ c.deref-resource-items.ensures.value (omega arith) c.resource-item.is)
    c.loop-i.invariant
    (first_either _ _ (rw (c.requires, taken_names (λ (r : ResourceSyntax). r.name)) at c.first_again-again.ensures) c.first_in_number.ensures))

pub returns : goal.returns
returns g c =
    among_all InResource _ _ _
    (omega (arith, length-map c.args.resources.now.items resource_view)) c.loop-i.invariant
