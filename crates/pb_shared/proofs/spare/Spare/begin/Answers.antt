use Rattle.pb_machine.proofs.Spares.{fit_rooms, fit_vars}
use Rattle.pb_shared.proofs.spare.Spare.begin.Goals as goal

pub set_to-requires-clause-vars : goal.set_to-requires-clause-vars
set_to-requires-clause-vars c =
    let of = c.requires in
    fit_vars of.0 of.2 of.1 c.args.self.now.base c.args.process.now of.3.base of.4

pub set_to-requires-clause-rooms : goal.set_to-requires-clause-rooms
set_to-requires-clause-rooms c =
    let of = c.requires in
    fit_rooms of.0 of.2 of.1 c.args.self.now.base c.args.process.now of.3.base of.4

pub set_to-requires-2-clause-vars : goal.set_to-requires-2-clause-vars
set_to-requires-2-clause-vars c =
    let of = c.requires in
    fit_vars of.0 of.2 of.1 c.args.self.now.state c.args.process.now of.3.state of.4

pub set_to-requires-2-clause-rooms : goal.set_to-requires-2-clause-rooms
set_to-requires-2-clause-rooms c =
    let of = c.requires in
    fit_rooms of.0 of.2 of.1 c.args.self.now.state c.args.process.now of.3.state of.4
