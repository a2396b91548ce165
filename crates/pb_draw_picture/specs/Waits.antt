-- Arms that are kept back: of each of them, as long as the same processes could not finish, its line with their names.
use Rattle.std.specs.Prelude.{ℕ, ◌-◌, nat_lt, cond, List, [], ◌∷◌, ◌++◌, Option, Some, None}
use Rattle.std.specs.List.{flat_map}
use Rattle.pb_base.specs.Lines.{NameTable}
use Rattle.pb_base.specs.declared.pick.Pick.{Pick}
use Rattle.pb_draw.specs.declared.drawing.Lane.{Lane}
use Rattle.pb_draw.specs.declared.drawing.LaneStep.{LaneStep}
use Rattle.pb_draw.specs.declared.drawing.Standing.{Standing}
use Rattle.pb_draw.specs.declared.drawing.Standing.TheVariants.{Away, Going, KeptBack, Short}
use Rattle.pb_draw_picture.specs.declared.picture.RectKind.TheVariants as line
use Rattle.pb_draw_picture.specs.Lanes.{next_of}
use Rattle.pb_draw_picture.specs.Places.{Places, end_of}
use Rattle.pb_draw_picture.specs.Shapes.{Stretch, rect_to}
use Rattle.pb_draw_picture.specs.Texts.{kept_text, room_text}
use Rattle.pb_draw_picture.specs.declared.sizes.TheConstants.{WAIT_UP}

-- the line of an arm that is kept back from one place to another, since these could not finish: there is room for
-- their names up to a third place
abbrev pub wait_at : NameTable → Pick → (x to free y : ℕ) → (rest : List ℕ) → Stretch
wait_at names arm x to free y rest = record {
  rect = rect_to line.KeptBack x to y 8;
  title = kept_text names arm rest;
  label = room_text names (free - x) rest;
  label_x = x;
  label_y = y - WAIT_UP;
}

-- where the first of some steps is in which an arm is kept back, if there is one
abbrev pub kept_or : Standing → (at : ℕ) → Option ℕ → Option ℕ
kept_or Away at later = later
kept_or Going at later = later
kept_or Short at later = later
kept_or (KeptBack rest) at later = Some at

abbrev pub next_kept : List LaneStep → Option ℕ
next_kept [] = None
next_kept (s ∷ steps) = kept_or s.standing s.at (next_kept steps)

-- what there is of it in a state, before these further steps: nothing if it is not kept back, or if it has no width.
-- There is room for the names up to where it is kept back next
abbrev pub wait_in : NameTable → Places → Pick → Standing → (x to : ℕ) → List LaneStep → List Stretch
wait_in names places arm Away x to later = []
wait_in names places arm Going x to later = []
wait_in names places arm Short x to later = []
wait_in names places arm (KeptBack rest) x to later =
    cond (nat_lt x to) (wait_at names arm x to (end_of places (next_kept later)) (places.line arm) rest.items ∷ []) []

-- the lines of an arm, in each state up to the next
abbrev pub waits_in : NameTable → Places → Pick → List LaneStep → List Stretch
waits_in names places arm [] = []
waits_in names places arm (s ∷ steps) =
    wait_in names places arm s.standing (places.x s.at) (end_of places (next_of steps)) steps ++ waits_in names places arm steps

-- each arm has its own, in its own row
abbrev pub waits : NameTable → Places → List Lane → List Stretch
waits names places lanes = flat_map (λ lane. waits_in names places lane.pick lane.steps.items) lanes
