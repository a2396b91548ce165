-- The rows of a picture: one below the other, each with room for the holds of its arm.
use Rattle.std.specs.Prelude.{◌≡◌, ◌<◌, ℕ, ◌+◌, ◌*◌, min, max, Bool, false, cond, List, [], ◌∷◌, Some, slice_get}
use Rattle.std.specs.List.{list_any}
use Rattle.pb_base.specs.declared.pick.Pick.{Pick}
use Rattle.pb_draw.specs.declared.drawing.Bar.{Bar}
use Rattle.pb_draw.specs.declared.drawing.Lane.{Lane}
use Rattle.pb_draw_picture.specs.Lanes.{is_ever_live}
use Rattle.pb_draw_picture.specs.Places.{Places, is_arm}
use Rattle.pb_draw_picture.specs.declared.row.Row.{Row}
use Rattle.pb_draw_picture.specs.declared.sizes.TheConstants.{ABOVE, BELOW, BETWEEN, HOLD, LOWEST, TRACK}

-- how high a row with room for some holds is: its line, and its holds below it
abbrev pub height_for : (holds : ℕ) → ℕ
height_for holds = ABOVE + TRACK + BETWEEN + holds * HOLD + BELOW

-- for how many holds an arm needs room because of a hold: for it, if it is its own, and for those in which it is
abbrev pub room_of : Pick → Bar → ℕ
room_of arm bar = cond (is_arm arm bar.pick) (bar.depth + 1) 0

-- for how many holds, one below the other, an arm needs room: for as many as its deepest hold
abbrev pub room_for : Pick → List Bar → ℕ
room_for arm [] = 0
room_for arm (bar ∷ bars) = max (room_of arm bar) (room_for arm bars)

-- ---- rows as they are made

-- an arm that is never live has a row of no height
abbrev pub height_in : Row → ℕ
height_in row = cond row.shown (height_for row.deepest) 0

-- the row of a lane
pub record IsRowOf (lane : Lane) (bars : List Bar) (row : Row) : Type 0 where
  pub arm : row.pick ≡ lane.pick
  pub shown : row.shown ≡ is_ever_live lane
  pub room : row.deepest ≡ room_for lane.pick bars

-- each lane has its row
abbrev pub AreRowsOf : List Lane → List Bar → List Row → Type 0
AreRowsOf [] bars [] = Unit {0}
AreRowsOf [] bars (row ∷ rows) = ⊥
AreRowsOf (lane ∷ lanes) bars [] = ⊥
AreRowsOf (lane ∷ lanes) bars (row ∷ rows) = IsRowOf lane bars row × AreRowsOf lanes bars rows

-- each row begins where the one before it ends, and the last ends at the foot
abbrev pub IsPile : (top : ℕ) → List Row → (foot : ℕ) → Type 0
IsPile top [] foot = top ≡ foot
IsPile top (row ∷ rows) foot = (row.y ≡ top) × IsPile (min (top + height_in row) LOWEST) rows foot

-- ---- rows as they are seen

-- how high the row of a lane is: an arm that is never live has none
abbrev pub height_of : List Bar → Lane → ℕ
height_of bars lane = cond (is_ever_live lane) (height_for (room_for lane.pick bars)) 0

-- the rows of these lanes, of which the arms have these holds, are one below the other: each begins where the one before it
-- ends, and the last ends at the foot
abbrev pub AreStacked : Places → List Bar → (top : ℕ) → List Lane → (foot : ℕ) → Type 0
AreStacked places bars top [] foot = top ≡ foot
AreStacked places bars top (lane ∷ lanes) foot =
    (places.line lane.pick ≡ top + ABOVE) × AreStacked places bars (top + height_of bars lane) lanes foot

-- an arm that has no lane has no line
abbrev pub has_lane : Pick → List Lane → Bool
has_lane arm lanes = list_any (λ lane. is_arm lane.pick arm) lanes

abbrev pub HaveNoLine : Places → List Lane → Type 0
HaveNoLine places lanes = (arm : Pick) → has_lane arm lanes ≡ false → places.line arm ≡ 0

-- each hold is within the row of its arm
abbrev pub AreWithin : List Bar → Type 0
AreWithin bars = (k : ℕ) (bar : Bar) → slice_get bars k ≡ Some bar → bar.depth < room_for bar.pick bars
