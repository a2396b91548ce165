-- Time, from left to right.
use Rattle.std.specs.Prelude.{◌≡◌, ◌<◌, ◌≤◌, ℕ, ◌+◌, ◌-◌, ◌*◌, ◌/◌, min, max, cond, nat_le, List, [], ◌∷◌, Some, length, slice_get}
use Rattle.std.specs.Fmt.{decimal}
use Rattle.pb_base.specs.Lines.{NameTable}
use Rattle.pb_code.specs.Whole.{ProcessLabels}
use Rattle.pb_draw.specs.Marks.{AreInOrder}
use Rattle.pb_draw.specs.declared.drawing.Mark.{Mark}
use Rattle.pb_draw_picture.specs.Texts.{caption_of}
use Rattle.pb_draw_picture.specs.declared.knot.Knot.{Knot}
use Rattle.pb_draw_picture.specs.declared.sizes.TheConstants.{SIDE}

-- the places of positions: position i is after the first i picks, and begins at `x i`. A later position is
-- not further left; and the event of a mark, which begins at the position after its pick, is left of all that
-- comes later by its width at least
pub record IsAxis (marks : List Mark) (x : ℕ → ℕ) : Type 0 where
  pub forward : (i j : ℕ) → i ≤ j → x i ≤ x j
  pub apart : AreInOrder marks → (k j : ℕ) (m : Mark) → slice_get marks k ≡ Some m → m.at + 1 < j → x (m.at + 1) + SIDE ≤ x j

-- how wide the first n of some silent picks are: 6 pixels each; more than 15 of them are as wide together as 15
abbrev pub squeezed : (n of : ℕ) → ℕ
squeezed n of = cond (nat_le of 15) (min n of * 6) (min n of * 90 / of)

-- where a position begins that is at this event, or among the silent picks after it
abbrev pub x_in : Knot → (i : ℕ) → ℕ
x_in k i = cond (nat_le i k.position) k.x (k.x + k.width + squeezed (i - k.position - 1) k.silent)

-- the same among the events from this one on: at the last that is not after it
abbrev pub x_from : Knot → List Knot → (i : ℕ) → ℕ
x_from k [] i = x_in k i
x_from k (next ∷ knots) i = cond (nat_le next.position i) (x_from next knots i) (x_in k i)

abbrev pub x_at : List Knot → (i : ℕ) → ℕ
x_at [] i = 0
x_at (k ∷ knots) i = x_from k knots i

-- an event begins after all that comes before it
pub record IsBehind (next k : Knot) : Type 0 where
  pub later : k.position < next.position
  pub right : k.x + k.width + squeezed k.silent k.silent ≤ next.x

abbrev pub IsChainFrom : Knot → List Knot → Type 0
IsChainFrom k [] = Unit {0}
IsChainFrom k (next ∷ knots) = IsBehind next k × IsChainFrom next knots

-- each event begins after the one before it, and the first is the start
abbrev pub IsChain : List Knot → Type 0
IsChain [] = Unit {0}
IsChain (k ∷ knots) = (k.position ≡ 0) × IsChainFrom k knots

-- ---- the events of a drawing

-- how wide the pick of a mark is: as wide as its text, or as its number, with room for 100 characters at most
abbrev pub width_of : NameTable → List ProcessLabels → Mark → ℕ
width_of names labels m =
    16 + min (max (length (caption_of names labels m.pick m.line m.what)) (length (decimal m.at))) 100 * 7

-- an event at a position, which begins at a place and is so wide, and after it the silent picks up to another position
pub record IsKnot (position x width next : ℕ) (k : Knot) : Type 0 where
  pub position_is : k.position ≡ position
  pub x_is : k.x ≡ x
  pub width_is : k.width ≡ width
  pub silent_is : k.silent ≡ next - position - 1

-- the events from one on that is at a position, begins at a place and is so wide, to the end of a run of some picks:
-- those of these marks, each after the one before it; marks at one position are one event
pub data AreKnotsFrom (names : NameTable) (labels : List ProcessLabels) (picks : ℕ) : (position x width : ℕ) → List Mark → List Knot → Type 0 where
  last : (position x width : ℕ) (k : Knot) → IsKnot position x width (max picks position + 1) k
      → AreKnotsFrom names labels picks position x width [] (k ∷ [])
  one_more : (position x width : ℕ) (m : Mark) (marks : List Mark) (k : Knot) (knots : List Knot) → position < m.at + 1
      → IsKnot position x width (m.at + 1) k
      → AreKnotsFrom names labels picks (m.at + 1) (k.x + k.width + squeezed k.silent k.silent) (width_of names labels m) marks knots
      → AreKnotsFrom names labels picks position x width (m ∷ marks) (k ∷ knots)
  same : (position x width : ℕ) (m : Mark) (marks : List Mark) (knots : List Knot) → m.at + 1 ≤ position
      → AreKnotsFrom names labels picks position x width marks knots
      → AreKnotsFrom names labels picks position x width (m ∷ marks) knots

-- the events of a run of some picks with these marks: the start, which is 48 pixels wide, and then those of the marks
abbrev pub AreKnots : NameTable → List ProcessLabels → (picks left : ℕ) → List Mark → List Knot → Type 0
AreKnots names labels picks left marks knots = AreKnotsFrom names labels picks 0 left 48 marks knots

-- ---- where time begins

-- how many characters the longest of some names has
abbrev pub longest : List (List ℕ) → ℕ
longest [] = 0
longest (name ∷ names) = max (length name) (longest names)

-- to the right of all names, with room for 32 characters at most
abbrev pub left_of : NameTable → ℕ
left_of names = min (max (longest names.processes) (longest names.resources)) 32 * 7 + 100
