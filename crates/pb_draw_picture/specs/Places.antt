-- Where things are in a picture: from left to right by time, from top to bottom by arm.
use Rattle.std.specs.Prelude.{ℕ, ◌+◌, ◌*◌, Bool, cond, ◌==◌, ◌&&◌, List, [], ◌∷◌, Option, Some, None}
use Rattle.pb_base.specs.declared.pick.Pick.{Pick}
use Rattle.pb_draw.specs.declared.drawing.Bar.{Bar}
use Rattle.pb_draw_picture.specs.Axis.{x_at}
use Rattle.pb_draw_picture.specs.declared.grid.Grid.{Grid}
use Rattle.pb_draw_picture.specs.declared.row.Row.{Row}
use Rattle.pb_draw_picture.specs.declared.sizes.TheConstants.{ABOVE, BETWEEN, HOLD, TRACK}

-- the places of a picture
pub record Places : Type 0 where
  -- where a position begins: position i is after the first i picks
  pub x : ℕ → ℕ
  -- where the time of the run ends
  pub right : ℕ
  -- the top of the line of an arm
  pub line : Pick → ℕ
  -- where the rows of the arms end
  pub bottom : ℕ

-- where the next step of a curve begins, or the picture ends
abbrev pub end_of : Places → Option ℕ → ℕ
end_of places None = places.right
end_of places (Some position) = places.x position

-- where the bar of a hold is: below the line of its arm, and one below the other by their depths
abbrev pub hold_y : Places → Bar → ℕ
hold_y places bar = places.line bar.pick + TRACK + BETWEEN + bar.depth * HOLD

abbrev pub is_arm : Pick → Pick → Bool
is_arm a b = (a.process == b.process) && (a.arm == b.arm)

abbrev pub track_in : Row → ℕ
track_in row = row.y + ABOVE

-- the line of an arm: that of the first row that is its
abbrev pub track_of : List Row → Pick → ℕ
track_of [] pick = 0
track_of (row ∷ rows) pick = cond (is_arm row.pick pick) (track_in row) (track_of rows pick)

-- the places that a grid has
abbrev pub places_of : Grid → Places
places_of grid = record {
  x = x_at grid.knots.items;
  right = x_at grid.knots.items grid.end;
  line = track_of grid.rows.items;
  bottom = grid.bottom;
}
