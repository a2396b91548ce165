-- What a search for a name returns: its first number. Names that may be the same have one slot, and the names
-- of one slot follow one another by number. No public contract of pb_resolver cites this file.
use Rattle.std.specs.Prelude.{◌≡◌, ◌≢◌, ℕ, suc, ◌+◌, ◌-◌, ◌*◌, ◌<◌, ◌≤◌, List, length, get_or, slice_get}
use Rattle.std.specs.Prelude.{Option, Some, None, bit_and}
use Rattle.pb_names.specs.Program.{Name}

-- the least number of a name, or none if it is not there
abbrev pub IsFirstNumber : List Name → Name → Option ℕ → Type 0
IsFirstNumber names name None = (k : ℕ) → slice_get names k ≢ Some name
IsFirstNumber names name (Some i) =
    (slice_get names i ≡ Some name) × ((k : ℕ) → k < i → slice_get names k ≢ Some name)

-- the slot of a name, from 0 to the greatest one, by its length, its first byte and its last two
unfoldable pub slot : ℕ → Name → ℕ
slot greatest name =
    bit_and
    (length name + 7 * get_or name 0 0 + 11 * get_or name (length name - 2) 0 + get_or name (length name - 1) 0)
    greatest

-- the first name of a slot from a number on has the other number; if there is none, that is past all names
pub record IsNext (names : List Name) (greatest s from to : ℕ) : Type 0 where
  pub after : from ≤ to
  pub none : (k : ℕ) (name : Name) → from ≤ k → k < to → slice_get names k ≡ Some name → slot greatest name ≢ s
  pub here : (name : Name) → slice_get names to ≡ Some name → slot greatest name ≡ s

-- the names from a number on: the first of each slot, and after each name the next of its slot
pub record IsLinked (names : List Name) (greatest from : ℕ) (firsts nexts : List ℕ) : Type 0 where
  pub slots : length firsts ≡ suc greatest
  pub links : length nexts ≡ length names
  pub first : (s : ℕ) → s ≤ greatest → IsNext names greatest s from (get_or firsts s 0)
  pub next : (k : ℕ) (name : Name) → from ≤ k → slice_get names k ≡ Some name
      → IsNext names greatest (slot greatest name) (suc k) (get_or nexts k 0)
