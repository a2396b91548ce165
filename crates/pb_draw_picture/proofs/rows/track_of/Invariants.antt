use Rattle.std.proofs.Common.{◌≡◌, drop}
use Rattle.pb_draw_picture.specs.Places as spec
use Rattle.pb_draw_picture.proofs.rows.track_of.Given as goal

-- no row so far is of the arm
abbrev pub invariant-loop-row : goal.invariant-loop-row
invariant-loop-row l = spec.track_of l.rows l.pick ≡ spec.track_of (drop l.row-index l.rows) l.pick
