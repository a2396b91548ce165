use Rattle.std.proofs.Common.{arith, map, ap, ◌∙◌}
use Rattle.std.specs.Prelude.{slice_get}
use Rattle.std.proofs.lemmas.List.{length-map}
use Rattle.pb_tree.specs.Syntax.{ProcessSyntax}
use Rattle.pb_tree.specs.View.{process_view}
use Rattle.pb_names.specs.Causes.{InProcess}
use Rattle.pb_names.specs.Search.{names_in}
use Rattle.pb_base.proofs.Lists.{view_read}
use Rattle.pb_names.proofs.FirstCauses.{first_either, among_more, among_all}
use Rattle.pb_names.proofs.NameNumbers.{name_read, taken_names}
use Rattle.pb_names.proofs.causes.first_in_processes.Goals as goal

pub first_again-again-requires : goal.first_again-again-requires
first_again-again-requires g c =
    ap (λ names. slice_get names c.loop-i.i) c.in_ok-names.ensures
    ∙ name_read (λ (p : ProcessSyntax). p.name) (map process_view c.args.processes.now.items) c.loop-i.i _
    (view_read process_view _ _ _ _ c.deref-process-items.ensures.value (omega arith) c.process-item.is)

pub loop-i-preserved : goal.loop-i-preserved
loop-i-preserved g c =
    rw (c.earlier-first.ensures, c.earlier-here.ensures)
    (among_more (InProcess (names_in c.args.resources.now)) (map process_view c.args.processes.now.items) c.loop-i.i
    (process_view c.process-item.result) _ _
    (view_read process_view _ _ _ _ c.deref-process-items.ensures.value (omega arith) c.process-item.is)
    c.loop-i.invariant
    (first_either _ _ (rw (c.in_ok-names.ensures, taken_names (λ (p : ProcessSyntax). p.name)) at c.first_again-again.ensures)
    c.in_ok-inside.ensures))

pub returns : goal.returns
returns g c =
    among_all (InProcess (names_in c.args.resources.now)) _ _ _
    (omega (arith, length-map c.args.processes.now.items process_view)) c.loop-i.invariant
