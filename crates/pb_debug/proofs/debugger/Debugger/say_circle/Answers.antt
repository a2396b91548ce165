use Rattle.std.proofs.Common.{subst}
use Rattle.pb_base.specs.Steppers.{State}
use Rattle.pb_code.specs.Code.{CodeProcess}
use Rattle.pb_debug_texts.specs.Circles.{SaysCircle}
use Rattle.pb_debug.specs.Value.{Debugging, state_of}
use Rattle.pb_debug.proofs.ResourceTexts.{state_here}
use Rattle.pb_base.proofs.Results.{on_ok}
use Rattle.pb_debug.proofs.debugger.Debugger.say_circle.Goals as goal

pub say_circle-requires : goal.say_circle-requires
say_circle-requires c = (c.self.inside.lending, c.self.invariant.walks.stands.machine)

pub returns : goal.returns
returns c =
    let d = c.args.self.now in
    let i = c.self.inside in
    on_ok c.say_circle.result _ _ c.say_circle.ensures (λ said. (
      said.0,
      subst (λ (x : Debugging). SaysCircle x.verified.code (state_of d) said.0) c.self.view_is
          (subst (λ (s : State CodeProcess). SaysCircle i.verified.now.code s said.0) (state_here i c.self.invariant d c.self.view_is) said.1),
      said.2,
    ))
