-- The holds of a run: a bar from each grant up to where it is given back, with how deep it is in other holds of its arm.
use Rattle.std.specs.Prelude.{◌≡◌, ◌<◌, ℕ, ◌+◌, ◌-◌, nat_lt, Bool, true, cond, ◌&&◌, ◌==◌, List, [], ◌∷◌, ◌++◌, Option, Some, None, slice_get}
use Rattle.pb_base.specs.declared.event.Event.{Event}
use Rattle.pb_base.specs.declared.event.Event.TheVariants.{Granted, Returned, Printed, Faulted, Finished}
use Rattle.pb_base.specs.declared.pick.Pick.{Pick}
use Rattle.pb_history.specs.Entries.{are_same}
use Rattle.pb_draw.specs.declared.bars.Turn.{Turn}
use Rattle.pb_draw.specs.declared.bars.Turn.TheVariants.{Opens, Closes, Breaks, Other}
use Rattle.pb_draw.specs.declared.drawing.Bar.{Bar}
use Rattle.pb_draw.specs.declared.drawing.Happening.{Happening}
use Rattle.pb_draw.specs.declared.drawing.Happening.TheVariants as happening
use Rattle.pb_draw.specs.declared.drawing.Mark.{Mark}

-- what an event is to the last hold of an arm: a grant of that arm opens one inside it, a return of that arm
-- closes it, and a fault of its process ends it
abbrev pub hold_turn : Pick → Event → Turn
hold_turn arm (Granted pick bundle) = cond (are_same arm pick) Opens Other
hold_turn arm (Returned pick bundle) = cond (are_same arm pick) Closes Other
hold_turn arm (Printed pick value) = Other
hold_turn arm (Faulted pick kind) = cond (arm.process == pick.process) Breaks Other
hold_turn arm (Finished process) = Other

-- a read and an assignment are nothing to it
abbrev pub turn_in : Pick → Happening → Turn
turn_in arm (happening.Did event) = hold_turn arm event
turn_in arm (happening.Read x value) = Other
turn_in arm (happening.Assigned x value) = Other

-- the number of the pick by which an arm gives back a hold that it has before these marks, with `inner`
-- further holds inside it; none if no mark does
abbrev pub given_back : Pick → (inner : ℕ) → List Mark → Option ℕ
given_back arm inner [] = None
given_back arm inner (m ∷ marks) = elim (turn_in arm m.what) [
  | Opens ↦ given_back arm (inner + 1) marks
  | Closes ↦ cond (inner == 0) (Some m.at) (given_back arm (inner - 1) marks)
  | Breaks ↦ Some m.at
  | Other ↦ given_back arm inner marks
]

-- a pick is before the one that gives a hold back, if one does
abbrev pub is_before : (at : ℕ) → (returned : Option ℕ) → Bool
is_before at None = true
is_before at (Some returned) = nat_lt at returned

-- a hold is of this arm, and open at a pick: neither that pick nor one before it gives it back
abbrev pub is_open : (arm : Pick) → (at : ℕ) → Bar → Bool
is_open arm at bar = are_same bar.pick arm && is_before at bar.returned

-- how many of these holds are of this arm and open at a pick
abbrev pub open_holds : (arm : Pick) → (at : ℕ) → List Bar → ℕ
open_holds arm at [] = 0
open_holds arm at (bar ∷ bars) = cond (is_open arm at bar) 1 0 + open_holds arm at bars

-- the bar of a mark, after these earlier bars and before these further marks: a grant has one, from its pick on. Its depth
-- is the number of the earlier holds of its arm that are open at that pick
abbrev pub bar_of : (earlier : List Bar) → (at : ℕ) → Event → List Mark → List Bar
bar_of earlier at (Granted pick bundle) later =
    record { pick = pick; bundle = bundle; taken = at; returned = given_back pick 0 later; depth = open_holds pick at earlier } ∷ []
bar_of earlier at (Returned pick bundle) later = []
bar_of earlier at (Printed pick value) later = []
bar_of earlier at (Faulted pick kind) later = []
bar_of earlier at (Finished process) later = []

-- a read and an assignment have none
abbrev pub bar_for : (earlier : List Bar) → (at : ℕ) → Happening → List Mark → List Bar
bar_for earlier at (happening.Did event) later = bar_of earlier at event later
bar_for earlier at (happening.Read x value) later = []
bar_for earlier at (happening.Assigned x value) later = []

-- a bar for each grant among these marks, up to the pick that gives it back, after these earlier bars
abbrev pub bars_from : (earlier : List Bar) → List Mark → List Bar
bars_from earlier [] = []
bars_from earlier (m ∷ marks) =
    bar_for earlier m.at m.what marks ++ bars_from (earlier ++ bar_for earlier m.at m.what marks) marks

abbrev pub bars_of : List Mark → List Bar
bars_of marks = bars_from [] marks

-- of two holds of an arm of which the earlier is open when the later is taken, the later is deeper
abbrev pub AreNested : List Bar → Type 0
AreNested bars = (j k : ℕ) (a b : Bar) → j < k → slice_get bars j ≡ Some a → slice_get bars k ≡ Some b
    → are_same a.pick b.pick ≡ true → is_before b.taken a.returned ≡ true → a.depth < b.depth
