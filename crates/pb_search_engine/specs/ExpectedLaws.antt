-- The laws of what is said of what is asked of code, and of the program of a text.
use Rattle.std.specs.Prelude.{◌≡◌, ◌⊎◌, ℕ, Bool, true, false, List}
use Rattle.pb_base.specs.declared.lending.Lending.{Lending}
use Rattle.pb_code.specs.Whole.{Code, ProcessLabels}
use Rattle.pb_codegen.specs.Compiled.{IsCompiled}
use Rattle.pb_codegen.specs.Numbered.{IsReadAs}
use Rattle.pb_command_io.specs.declared.status.Status.{Status}
use Rattle.pb_command_io.specs.declared.status.Status.TheVariants.{Done, Unexpected}
use Rattle.pb_names.specs.Program.{Program}
use Rattle.pb_search_stages.specs.Traces.{Outcome}
use Rattle.pb_search_stages.specs.declared.print.Print.{Print}
use Rattle.pb_search_fair.specs.CodeRuns.{HasFairRun}
use Rattle.pb_search_engine.specs.Expected.{EndsAsExpected, IsAsExpected, IsWanted}
use Rattle.pb_search_engine.specs.Requirements.{AreMet}
use Rattle.pb_search_engine.specs.SaysExpected.{SaysOfAsked}
use Rattle.pb_search_engine.specs.Sayings.{Saying}
use Rattle.pb_search_engine.specs.SourceFair.{HasFairRunOfProgram}
use Rattle.pb_search_engine.specs.SourceOutcomes.{IsPrintedBySource, without_prints}
use Rattle.pb_search_engine.specs.SourceRequirements.{AreMetBy}
use Rattle.pb_search_engine.specs.SourceRuns.{IsDeadlockOfProgram, SourceIsBounded, SourceIsEndless, Stuck}
use Rattle.pb_search_engine.specs.declared.requirements.Requirement.{Requirement}

-- all runs of the code are as expected, or, if only fair runs count, each run that ends is, and each fair run ends
abbrev pub IsAsExpectedBy : (fair : Bool) → Lending → (any_order : Bool) → (wanted : List Print) → Code → Type 0
IsAsExpectedBy false lending any_order wanted code = IsAsExpected lending any_order wanted code
IsAsExpectedBy true lending any_order wanted code =
    EndsAsExpected lending any_order wanted code × ¬ HasFairRun (without_prints lending) code

-- the code is as it is asked: each requirement is met, and all runs that count are as expected
abbrev pub IsAsAsked : (fair : Bool) → Lending → (any_order : Bool) → List Requirement → (wanted : List Print) → Code → Type 0
IsAsAsked fair lending any_order requirements wanted code =
    AreMet code requirements × IsAsExpectedBy fair lending any_order wanted code

-- status 0 says that each requirement is met and all runs that count are as expected, and status 10 that it is not so
abbrev pub AnswersAreRight : Type 0
AnswersAreRight =
    (fair : Bool) (lending : Lending) (any_order : Bool) (requirements : List Requirement) (wanted : List Print) (code : Code)
    (labels : List ProcessLabels) (states : ℕ) (said : List Saying) (status : Status)
    → SaysOfAsked fair lending any_order requirements wanted code labels states said status
    → (status ≡ Done → IsAsAsked fair lending any_order requirements wanted code)
    × (status ≡ Unexpected → ¬ IsAsAsked fair lending any_order requirements wanted code)

-- the source can end with an outcome that is not wanted
abbrev pub EndsOtherwise : Lending → (any_order : Bool) → (wanted : List Print) → Program → Code → Type 0
EndsOtherwise lending any_order wanted program code =
    (outcome : Outcome) × IsPrintedBySource lending program code.claims outcome × (¬ IsWanted any_order wanted outcome)

-- the source can come to a deadlock
abbrev pub HasDeadlock : Lending → Program → Code → Type 0
HasDeadlock lending program code = (stuck : Stuck) × IsDeadlockOfProgram lending program code.claims stuck

-- each run of the source that counts ends: there is a number of steps that none exceeds, or, if only fair runs count,
-- none of these goes on for ever
abbrev pub SourceEnds : (fair : Bool) → Lending → Program → Code → Type 0
SourceEnds false lending program code = SourceIsBounded lending program code.claims
SourceEnds true lending program code = ¬ HasFairRunOfProgram lending program code.claims

-- all that the source does is as expected: each way in which it can end is wanted, with what it prints on the way; it
-- comes to no deadlock; and each of its runs that counts ends
pub record DoesAsExpected (fair : Bool) (lending : Lending) (any_order : Bool) (wanted : List Print) (program : Program) (code : Code)
    : Type 0 where
  pub ends : (outcome : Outcome) → IsPrintedBySource lending program code.claims outcome → IsWanted any_order wanted outcome
  pub no_deadlock : ¬ HasDeadlock lending program code
  pub all_end : SourceEnds fair lending program code

-- what the status tells of a program, by its source: if it is 0 each requirement is met and all that it does is as
-- expected; and if it is 10 a requirement is not met, or one way in which it can end is not wanted, or it can come to a
-- deadlock, or it has runs of any length
pub record TellsOfProgram (fair : Bool) (lending : Lending) (any_order : Bool) (requirements : List Requirement) (wanted : List Print)
    (program : Program) (code : Code) (status : Status) : Type 0 where
  pub done : status ≡ Done
      → AreMetBy program code.claims requirements × DoesAsExpected fair lending any_order wanted program code
  pub unexpected : status ≡ Unexpected
      → (¬ AreMetBy program code.claims requirements) ⊎ EndsOtherwise lending any_order wanted program code
      ⊎ HasDeadlock lending program code ⊎ SourceIsEndless lending program code.claims

-- so it is of what is said of what is asked of the code of a text, with the program that the text spells, under its claims
abbrev pub AnswersAreRightOfPrograms : Type 0
AnswersAreRightOfPrograms =
    (text : List ℕ) (code : Code) (labels : List ProcessLabels) → IsCompiled text code labels
    → (program : Program) × IsReadAs text program code.claims
    × ((fair : Bool) (lending : Lending) (any_order : Bool) (requirements : List Requirement) (wanted : List Print) (states : ℕ)
    (said : List Saying) (status : Status) → SaysOfAsked fair lending any_order requirements wanted code labels states said status
    → TellsOfProgram fair lending any_order requirements wanted program code status)
