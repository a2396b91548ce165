use Rattle.std.proofs.Common.{arith}
use Rattle.pb_banker.proofs.Moves.{place_below}
use Rattle.pb_banker.proofs.places.place_of.Goals as goal

pub returns-clause-within : goal.returns-clause-within
returns-clause-within c =
    let at = place_below c.args.count c.args.order.now c.args.p c.requires.there in
    absurd (c.loop-k.invariant at.0 (let l = at.1 in omega (arith, l, c.loop-k-test.false)) at.2)

pub returns-clause-has : goal.returns-clause-has
returns-clause-has c =
    let at = place_below c.args.count c.args.order.now c.args.p c.requires.there in
    absurd (c.loop-k.invariant at.0 (let l = at.1 in omega (arith, l, c.loop-k-test.false)) at.2)
