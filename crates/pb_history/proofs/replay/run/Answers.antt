use Rattle.std.proofs.Common.{◌<◌, arith}
use Rattle.pb_machine.specs.Views.{machine_view}
use Rattle.pb_history.proofs.SilentLooks.{all_silent, one_behind}
use Rattle.pb_history.proofs.replay.run.Goals as goal

pub returns-then-made-max-clause-run : goal.returns-then-made-max-clause-run
returns-then-made-max-clause-run c lending is =
    all_silent c.args.verified.now.code (machine_view c.args.machine.now) (machine_view c.run_silent-made.new.self) c.args.pick c.args.max
    c.run_silent-made.result (c.run_silent-made.ensures.made lending) c.if-made-max.true

pub returns-clause-run : goal.returns-clause-run
returns-clause-run c lending is =
    let few = c.run_silent-made.ensures.within in
    let other = c.if-made-max.false in
    let less : c.run_silent-made.result < c.args.max = omega (arith, few, other) in
    one_behind c.args.verified.now.code (machine_view c.args.machine.now) (machine_view c.run_silent-made.new.self) (machine_view c.step.new.self)
    c.args.pick c.args.max c.run_silent-made.result c.step.result (c.run_silent-made.ensures.made lending) less (c.run_silent-made.ensures.stops less)
    (c.step.ensures.step lending (c.run_silent-made.ensures.machine lending is))
