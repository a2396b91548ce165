use Rattle.std.proofs.Common.{◌≡◌, ◌+◌, ◌++◌, [], ◌∷◌, ℕ, List, take, sym, ap, ◌∙◌, subst, arith}
use Rattle.std.specs.Prelude.{min}
use Rattle.std.proofs.Math.Nat.{min-le_left, min-le_right}
use Rattle.pb_base.proofs.Lists.{item_at, take_next}
use Rattle.pb_draw.specs.declared.drawing.Lane.{Lane}
use Rattle.pb_draw_picture.specs.Rows.{AreRowsOf, IsPile}
use Rattle.pb_draw_picture.specs.declared.row.Row.{Row}
use Rattle.pb_draw_picture.specs.declared.sizes.TheConstants.{LOWEST, TOP}
use Rattle.pb_draw_picture.proofs.RowLemmas.{pile_push, rows_push}
use Rattle.pb_draw_picture.proofs.rows.rows_of.Goals as goal

pub loop-i-preserved : goal.loop-i-preserved
loop-i-preserved c =
    let lanes = c.args.lanes.now in
    let lane = c.index-lanes-i.result in
    let row = c.row_at-row.result in
    let next : take (c.loop-i.i + 1) lanes ≡ take c.loop-i.i lanes ++ lane ∷ [] = take_next lanes c.loop-i.i lane (item_at lanes c.loop-i.i lane c.loop-i-test.true c.index-lanes-i.is) in
    let pushed : c.push.new.self.items ≡ c.loop-i.rows.items ++ row ∷ [] = c.in_ok-push.ensures.items in
    let height = c.height.ensures.low in
    let left = min-le_left (c.loop-i.end + c.height.result) LOWEST in
    let low = c.loop-i.invariant.low in
    let end = c.min-end.ensures in
    record {
      rows = subst (λ (rs : List Row). AreRowsOf (take (c.loop-i.i + 1) lanes) c.args.bars.now rs) (sym pushed)
          (subst (λ (ls : List Lane). AreRowsOf ls c.args.bars.now (c.loop-i.rows.items ++ row ∷ [])) (sym next)
          (rows_push c.args.bars.now (take c.loop-i.i lanes) c.loop-i.rows.items lane row c.loop-i.invariant.rows
          c.row_at-row.ensures.row));
      pile = subst (λ (rs : List Row). IsPile TOP rs c.min-end.result) (sym pushed)
          (pile_push c.loop-i.rows.items row TOP c.loop-i.end c.min-end.result c.loop-i.invariant.pile c.row_at-row.ensures.y
          (end ∙ ap (λ (h : ℕ). min (c.loop-i.end + h) LOWEST) c.height.ensures.height));
      low = omega (arith, height, left, low, end);
      lowest = omega (arith, end, min-le_right (c.loop-i.end + c.height.result) LOWEST);
    }
