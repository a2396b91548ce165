use Rattle.std.proofs.Common.{[], ◌∷◌, ap, arith}
use Rattle.pb_draw.specs.Bars.{open_holds}
use Rattle.pb_draw.proofs.OpenHolds.{holds_append}
use Rattle.pb_draw.proofs.bars.held_with.Goals as goal

pub returns-clause-counted : goal.returns-clause-counted
returns-clause-counted c = λ arm t le.
    let kept = c.in_ok-still.ensures.same arm t le in
    let pushed = ap (open_holds arm t) c.in_ok-push.ensures.items in
    let added = holds_append arm t c.in_ok-still.still.items (c.args.bar.now ∷ []) in
    omega (arith, kept, pushed, added)
