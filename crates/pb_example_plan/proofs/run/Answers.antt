use Rattle.std.proofs.Common.{subst, sym}
use Rattle.pb_base.specs.declared.lending.Lending.TheVariants.{ByBanker}
use Rattle.pb_base.specs.Lines.{HasNames}
use Rattle.pb_base.specs.Steppers.{IsFinished}
use Rattle.pb_code.specs.Code.{code_over}
use Rattle.pb_machine.proofs.NeverStuck.{events_have_names}
use Rattle.pb_machine.specs.Views.{machine_view}
use Rattle.pb_example_plan.proofs.run.Goals as goal

pub event_line-requires : goal.event_line-requires
event_line-requires g c =
    let made = c.in-Did.ensures.step in
    subst (λ names. HasNames names c.in-Did.event) (sym c.names.ensures)
    (events_have_names ByBanker c.args.verified.now c.requires.verified (machine_view c.loop-made.machine) c.loop-made.invariant.reached
    made.0 c.in-Did.event _ made.1)

pub returns-in-NotEnabled-clause-over : goal.returns-in-NotEnabled-clause-over
returns-in-NotEnabled-clause-over g c =
    λ less. subst (λ s. IsFinished code_over s) (sym c.in-NotEnabled.ensures.step.1) c.in-NotEnabled.ensures.step.0
