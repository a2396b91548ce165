use Rattle.std.proofs.Common.{◌≡◌, ◌≤◌, ◌^◌, drop, max}
use Rattle.pb_draw_picture.specs.Rows as spec
use Rattle.pb_draw_picture.proofs.rows.room_for.Given as goal

-- with the holds to come it is the room for all
abbrev pub invariant-loop-bar : goal.invariant-loop-bar
invariant-loop-bar l = record {
  room : spec.room_for l.pick l.bars ≡ max l.room (spec.room_for l.pick (drop l.bar-index l.bars));
  few : l.room ≤ 2 ^ 32;
}
