use Rattle.std.proofs.Common.{◌∙◌, subst}
use Rattle.pb_base.specs.Steppers.{State}
use Rattle.pb_code.specs.Code.{CodeProcess}
use Rattle.pb_machine.specs.Steps.{IsStepBy}
use Rattle.pb_machine.specs.Views.{IsMachineBy, machine_view}
use Rattle.pb_debug.specs.Value.{Debugging, state_of}
use Rattle.pb_debug.proofs.ResourceTexts.{state_here}
use Rattle.pb_debug.proofs.debugger.Debugger.tried.Goals as goal

pub step-step-requires : goal.step-step-requires
step-step-requires c =
    let i = c.self.inside in
    (i.lending, c.in_ok-machine.ensures.machine i.lending i.verified.now c.self.invariant.walks.stands.machine)

pub returns-clause-tried : goal.returns-clause-tried
returns-clause-tried c =
    let i = c.self.inside in
    let d = c.args.self.now in
    let copied = c.in_ok-machine.ensures.machine i.lending i.verified.now c.self.invariant.walks.stands.machine in
    let new = c.step-step.new.self in
    let state = c.in_ok-machine.ensures.state ∙ state_here i c.self.invariant d c.self.view_is in
    record {
      machine = subst (λ (d : Debugging). IsMachineBy d.lending d.verified new) c.self.view_is (c.step-step.ensures.machine i.lending copied);
      steps = subst (λ (x : Debugging). IsStepBy x.lending x.verified.code (state_of d) c.args.pick c.step-step.result (machine_view new)) c.self.view_is
          (subst (λ (s : State CodeProcess). IsStepBy i.lending i.verified.now.code s c.args.pick c.step-step.result (machine_view new)) state
          (c.step-step.ensures.step i.lending copied));
    }
