-- Which names may stand at an offset, and which new name a name may get.
use Rattle.std.specs.Prelude.{◌≡◌, ℕ, zero, suc, ◌==◌, ◌&&◌, not, nat_le, Bool, true, false, List, Option, Some, None}
use Rattle.std.specs.List.{count_by, list_any}
use Rattle.std.specs.Str.{bytes_eq}
use Rattle.pb_code.specs.Limits.{IsName}
use Rattle.pb_outline.specs.Places.{Place, same_kind}
use Rattle.pb_outline.specs.declared.place.Kind.{Kind}
use Rattle.pb_outline.specs.declared.place.Kind.TheVariants.{Resource, Process, Integer}
use Rattle.pb_outline.specs.declared.rename.RenameFault.{RenameFault}
use Rattle.pb_outline.specs.declared.rename.RenameFault.TheVariants as fault

-- the place declares a process, at the offset or before it
abbrev pub begins_process : ℕ → Place → Bool
begins_process offset place = same_kind place.kind Process && nat_le place.at offset

-- the last of some numbers below n
abbrev pub last_below : ℕ → Option ℕ
last_below zero = None
last_below (suc n) = Some n

-- the number of the process in which an offset is: the last one whose name begins at it or before it
abbrev pub process_at : ℕ → List Place → Option ℕ
process_at offset places = last_below (count_by (begins_process offset) places)

-- in this process names of that kind may stand
abbrev pub may_stand : Option ℕ → Kind → Bool
may_stand (Some p) Resource = true
may_stand (Some p) (Integer q) = p == q
may_stand _ _ = false

-- the place declares a name that may stand in this process
abbrev pub is_in_scope : Option ℕ → Place → Bool
is_in_scope process place = place.declares && may_stand process place.kind

-- another name of the same kind as this one has these bytes
abbrev pub takes : Place → List ℕ → Place → Bool
takes one name other =
    same_kind one.kind other.kind && (bytes_eq name other.text && not (bytes_eq one.text other.text))

-- the name is that of something else where this one is declared
abbrev pub is_taken : Place → List ℕ → List Place → Bool
is_taken one name places = list_any (takes one name) places

-- what a refusal of a new name says: it is no name, or it is taken; memory may run out with any
abbrev pub Refuses : Place → List ℕ → List Place → RenameFault → Type 0
Refuses one name places fault.NotAName = ¬ IsName name
Refuses one name places fault.Taken = is_taken one name places ≡ true
Refuses one name places fault.NoMemory = Unit {0}
