use Rattle.std.proofs.Common.{take, arith}
use Rattle.pb_base.proofs.BankerLaws.{order_below}
use Rattle.pb_banker.specs.Accounts.{state_of}
use Rattle.pb_banker.proofs.Found.{asker_below, everyone_in, range_in, front_finishes, place_finishes, found_finishes, found_room}
use Rattle.pb_banker.proofs.Moves.{has_place}
use Rattle.pb_banker.proofs.accounts.Accounts.reorder.Goals as goal

pub returns-then-fits-clause-finishes : goal.returns-then-fits-clause-finishes
returns-then-fits-clause-finishes c =
    front_finishes c.args.self.now c.requires.sound c.args.asker c.args.bundle.now c.args.order.now c.requires.lent
    c.move_to_front.new.order (c.fits.ensures.0 c.if-fits.true) c.move_to_front.ensures

pub place_of-place-requires-clause-there : goal.place_of-place-requires-clause-there
place_of-place-requires-clause-there c =
    has_place c.args.self.now.processes c.args.order.now c.args.asker
    (range_in c.args.self.now c.requires.sound c.args.asker c.args.bundle.now c.args.order.now c.requires.lent)
    (asker_below c.args.self.now c.requires.sound c.args.asker c.args.bundle.now c.args.order.now c.requires.lent)

pub returns-then-still_fit-clause-finishes : goal.returns-then-still_fit-clause-finishes
returns-then-still_fit-clause-finishes c =
    let few = c.requires.sound.few in
    let long = c.told-order in
    place_finishes c.args.self.now c.requires.sound c.args.asker c.args.bundle.now c.args.order.now c.requires.lent
    c.place_of-place.result c.place_of-place.ensures.within c.place_of-place.ensures.has (omega (arith, few, long))
    c.if-still_fit.ensures

pub put_first-requires-clause-below : goal.put_first-requires-clause-below
put_first-requires-clause-below c =
    λ k d l.
    let all = everyone_in c.args.self.now c.requires.sound c.args.asker c.args.bundle.now c.args.order.now c.requires.lent in
    let b = order_below (state_of c.args.self.now) (take c.args.self.now.processes c.args.order.now) all k d l in
    let few = c.requires.sound.well_formed.few_processes in
    omega (arith, b, few)

pub put_first-requires-clause-room : goal.put_first-requires-clause-room
put_first-requires-clause-room c =
    found_room c.args.self.now c.requires.sound c.args.asker c.args.bundle.now c.args.order.now c.requires.lent
    c.search_for-found.result c.search_for-found.ensures.found

pub returns-clause-finishes : goal.returns-clause-finishes
returns-clause-finishes c =
    found_finishes c.args.self.now c.requires.sound c.args.asker c.args.bundle.now c.args.order.now c.requires.lent
    c.search_for-found.result c.put_first.new.order c.search_for-found.ensures.found c.if-found-asker.false c.put_first.ensures
