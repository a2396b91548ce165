use Rattle.std.proofs.Common.{take, arith}
use Rattle.pb_banker.proofs.Found.{found_few, one_found}
use Rattle.pb_banker.proofs.Walk.{IsAvailable-taken, room_waiting}
use Rattle.pb_banker.proofs.accounts.Accounts.find.Goals as goal

pub bounds-found-count : goal.bounds-found-count
bounds-found-count c =
    let l = found_few c.args.self.now c.requires.sound c.args.found.now c.requires.found c.args.p c.requires.process c.requires.waits in
    let few = c.requires.sound.few in
    omega (arith, l, few)

pub return_loans-requires-clause-room : goal.return_loans-requires-clause-room
return_loans-requires-clause-room c =
    room_waiting c.args.self.now c.requires.sound (take c.args.found.now.count c.args.found.now.order) c.args.available.now
    c.args.found.now.waiting c.args.p c.requires.found.parts c.requires.left c.requires.process c.requires.waits

pub returns-clause-found : goal.returns-clause-found
returns-clause-found c =
    one_found c.args.self.now c.requires.sound c.args.found.now c.requires.found c.args.p c.requires.process c.requires.waits
    c.args.available.now c.requires.left c.requires.fits

pub returns-clause-left : goal.returns-clause-left
returns-clause-left c =
    let l = found_few c.args.self.now c.requires.sound c.args.found.now c.requires.found c.args.p c.requires.process c.requires.waits in
    let few = c.requires.sound.few in
    let long = c.requires.found.places in
    IsAvailable-taken c.args.self.now c.requires.sound c.args.found.now.order c.args.available.now c.return_loans.new.available
    c.args.found.now.count c.args.p (omega (arith, l, few, long)) c.requires.left c.return_loans.ensures
