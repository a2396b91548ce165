use Rattle.std.proofs.Common.{◌≡◌, ◌≤◌, ◌<◌, ◌+◌, ◌-◌, length, arith}
use Rattle.pb_banker.proofs.Moves.{cut_at, has_place, moved_to_back, put_at_end}
use Rattle.pb_banker.proofs.places.put_last.Goals as goal

pub place_of-place-requires-clause-there : goal.place_of-place-requires-clause-there
place_of-place-requires-clause-there c = has_place c.args.count c.args.order.now c.args.p c.requires.everyone c.if-p-count.true

pub returns-then-p-count : goal.returns-then-p-count
returns-then-p-count c =
    let long : c.args.count ≤ length c.args.order.now = omega (arith, c.requires.few, c.told-order) in
    let same : c.args.p + 1 + (c.args.count - (c.args.p + 1)) ≡ c.args.count = (let l = c.if-p-count.true in omega (arith, l)) in
    rw same
    (moved_to_back c.args.count c.args.order.now c.args.p c.place_of-place.result c.rotate_left.new.self
    (cut_at c.args.count c.args.order.now c.args.p c.place_of-place.result c.requires.everyone long
    c.place_of-place.ensures.within c.place_of-place.ensures.has)
    long c.rotate_left.ensures.after)

pub returns-else-p-count : goal.returns-else-p-count
returns-else-p-count c =
    let at : c.args.p ≡ c.args.count = (let l = c.if-p-count.false in let m = c.requires.slot in omega (arith, l, m)) in
    let room : c.args.count < length c.args.order.now =
    (let l = c.requires.room in let e = c.told-order in let m = c.if-p-count.false in omega (arith, l, e, m)) in
    let next : c.args.p + 1 + (c.args.count - (c.args.p + 1)) ≡ c.args.count + 1 = omega (arith, at) in
    rw (next, at) (put_at_end c.args.count c.args.order.now c.requires.everyone room)
