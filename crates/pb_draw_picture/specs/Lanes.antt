-- The lines of the arms, and their names: of each arm that is ever live one, and the same again along its line.
use Rattle.std.specs.Prelude.{ℕ, zero, suc, ◌+◌, ◌-◌, ◌*◌, ◌/◌, Bool, true, false, cond, List, [], ◌∷◌, ◌++◌, Some, None, Option}
use Rattle.std.specs.List.{flat_map, list_any}
use Rattle.pb_base.specs.Lines.{NameTable, pick_text}
use Rattle.pb_draw.specs.declared.drawing.Lane.{Lane}
use Rattle.pb_draw.specs.declared.drawing.LaneStep.{LaneStep}
use Rattle.pb_draw.specs.declared.drawing.Standing.{Standing}
use Rattle.pb_draw.specs.declared.drawing.Standing.TheVariants.{Away, Going, KeptBack, Short}
use Rattle.pb_draw_picture.specs.declared.picture.LabelKind.TheVariants.{Again, Name}
use Rattle.pb_draw_picture.specs.declared.picture.Rect.{Rect}
use Rattle.pb_draw_picture.specs.declared.picture.RectKind.TheVariants as line
use Rattle.pb_draw_picture.specs.Places.{Places, end_of}
use Rattle.pb_draw_picture.specs.Shapes.{Text, if_wide, rect_to}
use Rattle.pb_draw_picture.specs.declared.sizes.TheConstants.{AGAIN_UP, MARGIN, TRACK}

abbrev pub is_live : Standing → Bool
is_live Away = false
is_live Going = true
is_live Short = true
is_live (KeptBack rest) = true

-- an arm is ever live
abbrev pub is_ever_live : Lane → Bool
is_ever_live lane = list_any (λ s. is_live s.standing) lane.steps.items

-- the line of an arm in a state, 8 pixels high: none unless it is live, and none here while the banker keeps something back (Waits.antt)
abbrev pub line_in : Standing → (x to y : ℕ) → List Rect
line_in Away x to y = []
line_in Going x to y = if_wide (rect_to line.Going x to y 8)
line_in Short x to y = if_wide (rect_to line.Short x to y 8)
line_in (KeptBack rest) x to y = []

-- where the first of some steps is, if there is one
abbrev pub next_of : List LaneStep → Option ℕ
next_of [] = None
next_of (s ∷ steps) = Some s.at

-- the line of an arm, in each state up to the next
abbrev pub lines_in : Places → (y : ℕ) → List LaneStep → List Rect
lines_in places y [] = []
lines_in places y (s ∷ steps) =
    line_in s.standing (places.x s.at) (end_of places (next_of steps)) y ++ lines_in places y steps

-- each arm has its line in its own row
abbrev pub lines : Places → List Lane → List Rect
lines places lanes = flat_map (λ lane. lines_in places (places.line lane.pick) lane.steps.items) lanes

-- its name before it
abbrev pub name_of_lane : NameTable → Places → Lane → Text
name_of_lane names places lane =
    record { kind = Name; x = MARGIN; y = places.line lane.pick + TRACK; text = pick_text names lane.pick }

-- its name once more, above it, at place k: the places are 800 pixels apart
abbrev pub name_again : NameTable → Places → Lane → (k : ℕ) → Text
name_again names places lane k =
    record { kind = Again; x = k * 800; y = places.line lane.pick - AGAIN_UP; text = pick_text names lane.pick }

-- the same at the first n places after the start
abbrev pub names_again : NameTable → Places → Lane → (n : ℕ) → List Text
names_again names places lane zero = []
names_again names places lane (suc n) = names_again names places lane n ++ name_again names places lane (suc n) ∷ []

-- the names of an arm: none if it is never live, and else one before its line and one at each place up to where the time
-- of the run ends
abbrev pub names_of_lane : NameTable → Places → Lane → List Text
names_of_lane names places lane =
    cond (is_ever_live lane) (name_of_lane names places lane ∷ names_again names places lane (places.right / 800)) []

abbrev pub lane_names : NameTable → Places → List Lane → List Text
lane_names names places lanes = flat_map (names_of_lane names places) lanes
