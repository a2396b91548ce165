use Rattle.std.proofs.Common.{◌≡◌, ◌<◌, ◌≤◌, ◌+◌, ◌-◌, ℕ, Some, drop, take, take_all, length, length-drop, ap, ◌∙◌, arith}
use Rattle.std.specs.Prelude.{option_to_list, slice_get}
use Rattle.pb_base.proofs.Lists.{item_at}
use Rattle.pb_base.specs.declared.pick.Pick.{Pick}
use Rattle.pb_draw.specs.Bars.{bar_for, open_holds}
use Rattle.pb_draw.specs.declared.drawing.Mark.{Mark}
use Rattle.pb_draw.proofs.OpenHolds.{bars_next, holds_append, same_bar, taken_by}
use Rattle.pb_draw.proofs.bars.bars_of.Goals as goal

pub loop-i-preserved : goal.loop-i-preserved
loop-i-preserved c =
    let marks = c.args.marks.now in
    let i = c.loop-i.i in
    let m = c.index-marks-i.result in
    let bars = c.loop-i.bars.items in
    let made = option_to_list c.bar_for-bar.result in
    let rest = drop (i + 1) marks in
    let here : slice_get marks i ≡ Some m = item_at marks i m c.loop-i-test.true c.index-marks-i.is in
    let earlier : (j : ℕ) (n : Mark) → j < i → slice_get marks j ≡ Some n → n.at ≤ m.at =
    λ j n lt there. let before : n.at < m.at = c.requires.ordered j i n m lt there here in omega (arith, before) in
    let agree : (arm : Pick) → open_holds arm m.at c.as_slice.result.now ≡ open_holds arm m.at bars =
    λ arm. ap (open_holds arm m.at) c.as_slice.ensures.value ∙ c.loop-i.invariant.held arm m.at earlier in
    let many = length-drop (i + 1) marks in
    let tail : take (length marks - (i + 1)) rest ≡ rest = take_all (length marks - (i + 1)) rest (omega (arith, many)) in
    let same : made ≡ bar_for bars m.at m.what rest =
    c.bar_for-bar.ensures.bar
    ∙ (ap (bar_for c.as_slice.result.now m.at m.what) tail ∙ same_bar c.as_slice.result.now bars m.at m.what rest agree) in
    let few = c.loop-i.invariant.few in
    let more = c.in_ok-held.ensures.few in
    record {
      same = bars_next marks i m bars made c.add_bar.new.bars.items c.loop-i-test.true c.index-marks-i.is c.loop-i.invariant.same same
          c.in_ok-add_bar.ensures;
      held = λ arm t early.
          let last : m.at ≤ t = early i m (omega arith) here in
          let so_far : open_holds arm t c.loop-i.held.items ≡ open_holds arm t bars =
          c.loop-i.invariant.held arm t (λ j n lt there. early j n (omega (arith, lt)) there) in
          let now = c.in_ok-held.ensures.counted arm t (taken_by c.bar_for-bar.result m.at t c.bar_for-bar.ensures.taken last) in
          let all : open_holds arm t c.add_bar.new.bars.items ≡ open_holds arm t bars + open_holds arm t made =
          ap (open_holds arm t) c.in_ok-add_bar.ensures ∙ holds_append arm t bars made in
          omega (arith, so_far, now, all);
      few = omega (arith, few, more);
    }
