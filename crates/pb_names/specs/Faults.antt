-- Why a program has no numbered form, and which of several faults is told: what it has too many of comes
-- first, then the cause of least offset.
use Rattle.std.specs.Prelude.{ℕ, ◌≤◌, ⊤}
use Rattle.pb_tree.specs.Syntax.{ProgramSyntax}
use Rattle.pb_names.specs.Causes.{InProgram}
use Rattle.pb_names.specs.Limits.{IsTooMany, IsWithinLimits}
use Rattle.pb_names.specs.declared.causes.Cause.{Cause}
use Rattle.pb_names.specs.declared.causes.Wrong.{Wrong}
use Rattle.pb_names.specs.declared.causes.Wrong.TheVariants as wrong
use Rattle.pb_names.specs.declared.fault.NameFault.{NameFault}
use Rattle.pb_names.specs.declared.fault.NameFault.TheVariants.{TooMany, Twice, Unknown, Amount, Repeated}
use Rattle.pb_names.specs.declared.fault.NameFault.TheVariants.{NoMemory}

-- the cause is in a program within its limits, and none is at an earlier offset
pub record IsFirstCause (program : ProgramSyntax) (cause : Cause) : Type 0 where
  pub within : IsWithinLimits program
  pub stands : InProgram program cause
  pub first : (other : Cause) → InProgram program other → cause.at ≤ other.at

-- the fault that tells of a cause
abbrev pub told : Wrong → ℕ → NameFault
told wrong.Twice at = Twice at
told wrong.Unknown at = Unknown at
told wrong.Amount at = Amount at
told wrong.Repeated at = Repeated at

-- the fault `NoMemory` may come at any time
abbrev pub IsFault : ProgramSyntax → NameFault → Type 0
IsFault program (TooMany kind) = IsTooMany program kind
IsFault program (Twice at) = IsFirstCause program (record { at = at; wrong = wrong.Twice })
IsFault program (Unknown at) = IsFirstCause program (record { at = at; wrong = wrong.Unknown })
IsFault program (Amount at) = IsFirstCause program (record { at = at; wrong = wrong.Amount })
IsFault program (Repeated at) = IsFirstCause program (record { at = at; wrong = wrong.Repeated })
IsFault program NoMemory = ⊤
