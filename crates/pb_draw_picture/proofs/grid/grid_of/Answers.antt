use Rattle.std.proofs.Common.{◌<◌, ◌+◌, List, length, refl, ap, subst, arith}
use Rattle.pb_draw.specs.declared.drawing.Bar.{Bar}
use Rattle.pb_draw.specs.declared.drawing.Lane.{Lane}
use Rattle.pb_draw_picture.specs.Places.{places_of}
use Rattle.pb_draw_picture.specs.declared.sizes.TheConstants.{LOWEST, TOP}
use Rattle.pb_draw_picture.specs.Rows.{AreRowsOf}
use Rattle.pb_draw_picture.proofs.RowLemmas.{no_line, rows_stacked}
use Rattle.pb_draw_picture.proofs.grid.grid_of.Goals as goal

pub returns-clause-rows : goal.returns-clause-rows
returns-clause-rows c = λ different few.
    let low = c.in_ok-rows.ensures.low in
    let many = ap (λ (lanes : List Lane). length lanes) c.deref-2.ensures.value in
    let high : c.in_ok-rows.bottom < LOWEST = omega (arith, low, few, many) in
    rows_stacked c.args.drawing.now.bars.items
    (places_of (record {
      knots = c.in_ok-knots.knots;
      end = c.from.result + 1;
      rows = c.in_ok-rows.rows;
      bottom = c.in_ok-rows.bottom;
    })) c.args.drawing.now.lanes.items c.in_ok-rows.rows.items
    TOP c.in_ok-rows.bottom refl
    (subst (λ (lanes : List Lane). AreRowsOf lanes c.args.drawing.now.bars.items c.in_ok-rows.rows.items) c.deref-2.ensures.value
    (subst (λ (bars : List Bar). AreRowsOf c.deref-2.result.now bars c.in_ok-rows.rows.items) c.deref-3.ensures.value
    c.in_ok-rows.ensures.rows)) c.in_ok-rows.ensures.pile (omega arith) high different

pub returns-clause-others : goal.returns-clause-others
returns-clause-others c = λ arm none.
    no_line c.args.drawing.now.bars.items c.args.drawing.now.lanes.items c.in_ok-rows.rows.items
    (subst (λ (lanes : List Lane). AreRowsOf lanes c.args.drawing.now.bars.items c.in_ok-rows.rows.items) c.deref-2.ensures.value
    (subst (λ (bars : List Bar). AreRowsOf c.deref-2.result.now bars c.in_ok-rows.rows.items) c.deref-3.ensures.value
    c.in_ok-rows.ensures.rows)) arm none
