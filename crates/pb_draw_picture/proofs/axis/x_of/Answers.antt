use Rattle.std.proofs.Common.{◌≡◌, ◌<◌, ◌+◌, ◌-◌, ℕ, Some, arith, subst}
use Rattle.std.specs.Prelude.{slice_get}
use Rattle.std.proofs.lemmas.Grind.{common_steps}
use Rattle.pb_draw_picture.specs.declared.knot.Knot.{Knot}
use Rattle.pb_draw_picture.proofs.AxisLemmas.{axis_at}
use Rattle.pb_base.proofs.Lists.{item_at}
use Rattle.pb_draw_picture.proofs.axis.x_of.Goals as goal

pub returns-clause-x : goal.returns-clause-x
returns-clause-x c =
    let low = c.loop-low.low in
    let high = c.loop-low.high in
    let at : Knot = c.index-knots-low.result in
    let some : 0 < low = grind (arith, common_steps) in
    let same : low ≡ high = grind (arith, common_steps) in
    let there : slice_get c.args.knots.now (low - 1) ≡ Some at =
    item_at c.args.knots.now (low - 1) at (omega (arith, some, c.loop-low.invariant.within, c.loop-low.invariant.order))
    c.index-knots-low.is in
    let next : low - 1 + 1 ≡ low = omega (arith, some) in
    let found = axis_at c.args.knots.now at (low - 1) c.args.position c.requires there
    (c.loop-low.invariant.before (low - 1) at next there)
    (λ (d : Knot). λ (e : slice_get c.args.knots.now (low - 1 + 1) ≡ Some d). c.loop-low.invariant.after d
    (subst (λ (m : ℕ). slice_get c.args.knots.now m ≡ Some d) (let t : low - 1 + 1 ≡ high = omega (arith, next, same) in t) e)) in
    grind (arith, common_steps, found)
