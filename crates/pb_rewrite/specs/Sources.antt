-- What contracts see of all processes together, and when a source may be made and stepped.
use Rattle.std.specs.Prelude.{◌≡◌, ℕ, ◌<◌, ◌≤◌, length, map, slice_get, slice_index, Some, All}
use Rattle.pb_banker.specs.Value.{BankerValue}
use Rattle.pb_base.specs.declared.limits.TheConstants.{MAX_AMOUNT, MAX_RESOURCES}
use Rattle.pb_base.specs.Banker.{cell, row_of}
use Rattle.pb_base.specs.Steppers.{Bank, State, Table}
use Rattle.pb_names.specs.Meaning.{AreClaims}
use Rattle.pb_names.specs.Program.{Process, Program, capital_of, IsWellNumbered}
use Rattle.pb_names.specs.Source.{SourceProcess}
use Rattle.pb_names.specs.Resolves.{Resolves}
use Rattle.pb_tree.specs.Syntax.{ProgramSyntax}
use Rattle.pb_rewrite.specs.Sound.{AreSound, BlockNames}
use Rattle.pb_rewrite.specs.View.{bank_view, process_view}
use Rattle.pb_rewrite.specs.declared.source.Source.{Source}

-- all processes, and all loans
abbrev pub source_view : {A : Type 0} → Source A → State SourceProcess
source_view s = record { processes = map process_view s.processes.items; loans = s.banker.state.loans }

-- the banker that lends to them
abbrev pub source_banker : {A : Type 0} → Source A → BankerValue
source_banker s = s.banker

-- the capital and the claims that its banker knows
abbrev pub source_bank : {A : Type 0} → Source A → Bank
source_bank s = bank_view s.banker.state

-- it is where steps have led it
abbrev pub IsSource : {A : Type 0} → Source A → Type 0
IsSource s = AreSound s.banker.state (source_view s).processes

-- each claim is within the capital
abbrev pub FitsCapital : Program → Table → Type 0
FitsCapital program claims =
    (p r : ℕ) → p < length claims → r < length program.resources
    → cell claims p r ≤ slice_index (capital_of program) r

-- the program is within the limits, its arms are well numbered, and each hold names resources that are there;
-- the claims are those of this number of processes on this number of resources, each within the capital
pub record FitsClaims (program : Program) (claims : Table) : Type 0 where
  pub some : 1 ≤ length program.processes
  pub few_resources : length program.resources ≤ MAX_RESOURCES
  pub small : All (λ n. n ≤ MAX_AMOUNT) (capital_of program)
  pub numbered : (p : ℕ) (process : Process) → slice_get program.processes p ≡ Some process
      → IsWellNumbered process
  pub names : (p : ℕ) (process : Process) → slice_get program.processes p ≡ Some process
      → BlockNames (length program.resources) process.body
  pub height : length claims ≡ length program.processes
  pub width : (p : ℕ) → p < length claims → length (row_of claims p) ≡ length program.resources
  pub within : FitsCapital program claims

-- a program that was resolved from a tree fits its claims, if these are within its capital
abbrev pub ResolvedProgramsFit : Type 0
ResolvedProgramsFit =
    (written : ProgramSyntax) (program : Program) (claims : Table) → Resolves written program
    → AreClaims program claims → FitsCapital program claims → FitsClaims program claims
