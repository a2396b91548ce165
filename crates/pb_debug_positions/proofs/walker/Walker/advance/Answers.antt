use Rattle.std.proofs.Common.{arith}
use Rattle.pb_history.specs.Entries.{picks_of}
use Rattle.pb_debug_positions.proofs.Walks.{steps_at}
use Rattle.pb_debug_positions.proofs.walker.Walker.advance.Goals as goal
use Rattle.pb_history.proofs.Positions.{stands_next}

pub overflow_add-self : goal.overflow_add-self
overflow_add-self c =
    let within = c.requires.within in
    let few = c.requires.few in
    omega (arith, within, few)

pub returns-clause-walks : goal.returns-clause-walks
returns-clause-walks c lending of = record {
  enabled = of.enabled;
  stands = stands_next c.args.verified.now (picks_of c.args.trace.now.entries) c.args.self.now.at c.pick-pick.result c.args.self.now.machine
      c.step-step.new.self c.step-step.result of.enabled c.pick-pick.ensures of.stands (c.step-step.ensures.step lending of.stands.machine)
      (c.step-step.ensures.machine lending of.stands.machine);
}

pub returns-clause-steps : goal.returns-clause-steps
returns-clause-steps c =
    let v = c.args.verified.now in
    let picks = picks_of c.args.trace.now.entries in
    let at = c.args.self.now.at in
    let pick = c.pick-pick.result in
    let m = c.args.self.now.machine in
    let result = c.step-step.result in
    let lending = c.requires.walks.0 in
    let of = c.requires.walks.1 in
    let step = c.step-step.ensures.step lending of.stands.machine in
    let next = stands_next v picks at pick m c.step-step.new.self result of.enabled c.pick-pick.ensures of.stands step
    (c.step-step.ensures.machine lending of.stands.machine) in
    steps_at v picks at pick result m c.step-step.new.self of.enabled c.pick-pick.ensures of.stands next.state step

pub step-step-requires : goal.step-step-requires
step-step-requires c = (c.requires.walks.0, c.requires.walks.1.stands.machine)
