use Rattle.std.proofs.Common.{arith, map, ap, ◌∙◌}
use Rattle.std.specs.Prelude.{slice_get}
use Rattle.std.proofs.lemmas.List.{length-map}
use Rattle.pb_tree.specs.View.{name_view}
use Rattle.pb_names.specs.Causes.{InInteger}
use Rattle.pb_base.proofs.Lists.{view_read}
use Rattle.pb_names.proofs.FirstCauses.{among_more, among_all}
use Rattle.pb_names.proofs.NameNumbers.{text_read, taken_texts}
use Rattle.pb_names.proofs.causes.first_in_integers.Goals as goal

pub first_again-requires : goal.first_again-requires
first_again-requires g c =
    ap (λ names. slice_get names c.loop-i.i) c.requires
    ∙ text_read (map name_view c.args.integers.now.items) c.loop-i.i _ (view_read name_view _ _ _ _
    c.deref-name-items.ensures.value (omega arith) c.name-item.is)

pub loop-i-preserved : goal.loop-i-preserved
loop-i-preserved g c =
    rw c.earlier-first.ensures
    (among_more InInteger (map name_view c.args.integers.now.items) c.loop-i.i (name_view c.name-item.result) _ _
    (view_read name_view _ _ _ _ c.deref-name-items.ensures.value (omega arith) c.name-item.is)
    c.loop-i.invariant (rw (c.requires, taken_texts) at c.first_again.ensures))

pub returns : goal.returns
returns g c =
    among_all InInteger _ _ _
    (omega (arith, length-map c.args.integers.now.items name_view)) c.loop-i.invariant
