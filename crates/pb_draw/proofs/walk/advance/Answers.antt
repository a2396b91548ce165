use Rattle.std.proofs.Common.{◌∙◌}
use Rattle.pb_history.specs.Entries.{picks_of}
use Rattle.pb_draw.proofs.Walks.{shows_event}
use Rattle.pb_draw.proofs.walk.advance.Goals as goal
use Rattle.pb_history.proofs.Positions.{stands_next}

pub returns-clause-stands : goal.returns-clause-stands
returns-clause-stands c lending enabled stands =
    stands_next c.args.verified.now (picks_of c.args.trace.now.entries) c.args.i c.pick-pick.result c.args.machine.now
    c.step-step.new.self c.step-step.result enabled c.pick-pick.ensures stands (c.step-step.ensures.step lending stands.machine)
    (c.step-step.ensures.machine lending stands.machine)

pub returns-clause-event : goal.returns-clause-event
returns-clause-event c =
    let (lending, enabled, stands) = c.requires.stands in
    c.event_of.ensures
    ∙ shows_event lending c.args.verified.now (picks_of c.args.trace.now.entries) c.args.i c.pick-pick.result c.args.machine.now
    c.step-step.new.self c.step-step.result enabled c.pick-pick.ensures stands (c.step-step.ensures.step lending stands.machine)
