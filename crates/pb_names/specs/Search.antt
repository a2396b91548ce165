-- What looking through a program returns: the cause of least offset. No public contract of pb_resolver cites this
-- file.
use Rattle.std.specs.Prelude.{◌≡◌, ◌≤◌, nat_le, cond, List, map, Option, Some, None}
use Rattle.pb_names.specs.Causes.{Causes}
use Rattle.pb_names.specs.Program as plain
use Rattle.pb_names.specs.declared.causes.Cause.{Cause}
use Rattle.pb_names.specs.declared.declared.Declared.{Declared}

-- the names of a list, by number
abbrev pub names_in : {A : Type 0} → Declared A → List plain.Name
names_in declared = map (λ text. text.now) declared.texts.items

-- one of these causes, and none of them is at an earlier offset; none if there is none
pub record IsFirst (causes : Causes) (told : Option Cause) : Type 0 where
  pub stands : (cause : Cause) → told ≡ Some cause → causes cause
  pub least : (cause other : Cause) → told ≡ Some cause → causes other → cause.at ≤ other.at
  pub none : told ≡ None → (cause : Cause) → ¬ causes cause

-- the cause of the lesser offset
abbrev pub earlier_of : Option Cause → Option Cause → Option Cause
earlier_of None b = b
earlier_of (Some x) None = Some x
earlier_of (Some x) (Some y) = cond (nat_le x.at y.at) (Some x) (Some y)

-- there are none of these causes
pub record IsFree (causes : Causes) : Type 0 where
  pub free : (cause : Cause) → ¬ causes cause
