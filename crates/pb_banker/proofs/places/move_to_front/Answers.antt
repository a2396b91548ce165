use Rattle.std.proofs.Common.{◌≡◌, ◌≤◌, ◌+◌, ◌-◌, List, ℕ, length, take, drop, ◌++◌, arith, ap, ◌∙◌}
use Rattle.std.proofs.lemmas.List.{length-take-le}
use Rattle.pb_banker.proofs.Moves.{cut_at, has_place, moved_to_front}
use Rattle.pb_banker.proofs.places.move_to_front.Goals as goal

pub place_of-place-requires-clause-there : goal.place_of-place-requires-clause-there
place_of-place-requires-clause-there c = has_place c.args.count c.args.order.now c.args.p c.requires.everyone c.requires.process

pub returns : goal.returns
returns c =
    let k : ℕ = c.place_of-place.result in
    let order : List ℕ = c.args.order.now in
    let long : c.args.count ≤ length c.args.order.now = omega (arith, c.requires.few, c.told-order) in
    let within = c.place_of-place.ensures.within in
    let some : length (take (c.place_of-place.result + 1) c.args.order.now) - 1 ≡ c.place_of-place.result =
    (let e = length-take-le (c.place_of-place.result + 1) c.args.order.now (omega (arith, within, long)) in omega (arith, e)) in
    moved_to_front c.args.count c.args.order.now c.args.p c.place_of-place.result c.rotate_right.new.self
    (cut_at c.args.count c.args.order.now c.args.p c.place_of-place.result c.requires.everyone long
    c.place_of-place.ensures.within c.place_of-place.ensures.has)
    long
    (c.rotate_right.ensures.after
    ∙ ap (λ (m : ℕ). drop m (take (c.place_of-place.result + 1) c.args.order.now) ++ take m (take (c.place_of-place.result + 1) c.args.order.now)) some)
