-- Fair runs of a program, by what its source does; and that they all end if those of its code do.
use Rattle.std.specs.Prelude.{ℕ, List, map}
use Rattle.pb_base.specs.declared.lending.Lending.{Lending}
use Rattle.pb_base.specs.Steppers.{Table, opening}
use Rattle.pb_code.specs.Whole.{Code, ProcessLabels}
use Rattle.pb_codegen.specs.Compiled.{IsCompiled}
use Rattle.pb_codegen.specs.Numbered.{IsReadAs}
use Rattle.pb_names.specs.Meaning.{source_bank_by}
use Rattle.pb_names.specs.Program.{Program}
use Rattle.pb_names.specs.Source.{source_process}
use Rattle.pb_search_fair.specs.CodeRuns.{HasFairRun, TellsFairRuns}
use Rattle.pb_search_fair.specs.FairRuns.{FairRun}
use Rattle.pb_search_fair.specs.declared.runs.FairRuns.TheVariants.{AllEnd}
use Rattle.pb_search_engine.specs.SourceOutcomes.{SourceLeads, without_prints}

-- a run of the source from its start, by one enabled pick after another, that never ends, and in which no arm is
-- enabled from some point on and never picked again
abbrev pub HasFairRunOfProgram : Lending → Program → Table → Type 0
HasFairRunOfProgram lending program claims =
    FairRun (SourceLeads lending program claims)
    (opening (source_bank_by lending program claims) (map source_process program.processes))

-- if some fair run of the program never ends, some fair run of its code does not; so if it is told that every fair run
-- of the code ends, every fair run of the program does
pub record FairRunsEnd (program : Program) (lending : Lending) (code : Code) : Type 0 where
  pub kept : HasFairRunOfProgram lending program code.claims → HasFairRun (without_prints lending) code
  pub told : (states : ℕ) → TellsFairRuns (without_prints lending) code states AllEnd
      → ¬ HasFairRunOfProgram lending program code.claims

-- so it is of the code of a text, with the program that the text spells, whoever lends
abbrev pub FairRunsOfProgramsEnd : Type 0
FairRunsOfProgramsEnd =
    (text : List ℕ) (code : Code) (labels : List ProcessLabels) → IsCompiled text code labels
    → (program : Program) × IsReadAs text program code.claims × ((lending : Lending) → FairRunsEnd program lending code)
