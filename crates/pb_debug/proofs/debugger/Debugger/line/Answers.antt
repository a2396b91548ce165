use Rattle.std.proofs.Common.{◌∙◌, List, ap, slice_get}
use Rattle.pb_base.specs.Steppers.{State}
use Rattle.pb_base.proofs.Lists.{get_some}
use Rattle.pb_code.specs.Code.{CodeProcess}
use Rattle.pb_code.specs.Whole.{ProcessLabels}
use Rattle.pb_machine.specs.Views.{machine_view}
use Rattle.pb_debug_positions.specs.Searches.{line_in}
use Rattle.pb_debug.specs.Value.{Debugging}
use Rattle.pb_debug.proofs.Positions.{in_labels}
use Rattle.pb_debug.proofs.ResourceTexts.{state_here}
use Rattle.pb_debug.proofs.Lines.{line_is}
use Rattle.pb_debug.proofs.debugger.Debugger.line.Goals as goal

pub returns-clause-line : goal.returns-clause-line
returns-clause-line c =
    let d = c.args.self.now in
    let i = c.self.inside in
    let p = c.args.p in
    let a = c.args.arm in
    let shown = c.in_ok-process.ensures.shown in
    let of = get_some d.labels p (in_labels d c.in_ok-process.ensures.placed p _ shown) in
    line_is d p a of.0 _ c.line_of_arm.result of.1 shown
    (c.line_of_arm.ensures
    ∙ (ap (λ (ls : List ProcessLabels). line_in (slice_get ls p) (slice_get (machine_view i.walker.machine).processes p) a)
    (ap (λ (d : Debugging). d.labels) c.self.view_is)
    ∙ ap (λ (s : State CodeProcess). line_in (slice_get d.labels p) (slice_get s.processes p) a)
    (state_here i c.self.invariant d c.self.view_is)))
