use Rattle.std.proofs.Common.{refl, sym}
use Rattle.pb_machine.specs.Views.{machine_view}
use Rattle.pb_record.proofs.ScheduleLemmas.{looks_staying, some_made}
use Rattle.pb_record.proofs.schedule.step_arm.Goals as goal

pub returns-in-Stays-clause-step : goal.returns-in-Stays-clause-step
returns-in-Stays-clause-step c lending of =
    (looks_staying lending c.args.verified.now.code (machine_view c.args.machine.now) c.args.pick (sym c.in-Stays.ensures), refl)

pub returns-in-Silent-clause-step : goal.returns-in-Silent-clause-step
returns-in-Silent-clause-step c lending of = (
  refl,
  some_made lending c.args.verified.now.code (machine_view c.args.machine.now) _ c.args.pick c.run_silent.result c.args.max
      (sym c.in-Silent.ensures) c.requires.max (c.run_silent.ensures.made lending) c.run_silent.ensures.stops,
  c.run_silent.ensures.made lending,
)
