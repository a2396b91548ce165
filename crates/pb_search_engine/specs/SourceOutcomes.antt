-- How a program can end, by what its source does; and that its code ends in the same ways.
use Rattle.std.specs.Prelude.{◌≡◌, ◌↔◌, ℕ, false, List, [], ◌∷◌, map, Contains, is_none}
use Rattle.pb_base.specs.declared.pick.Pick.{Pick}
use Rattle.pb_base.specs.declared.event.Event.{Event}
use Rattle.pb_base.specs.declared.event.Event.TheVariants as event
use Rattle.pb_base.specs.Steppers.{Table, IsGranted, IsFinished, Makes, State, opening}
use Rattle.pb_code.specs.Whole.{Code, ProcessLabels}
use Rattle.pb_codegen.specs.Compiled.{IsCompiled}
use Rattle.pb_codegen.specs.Numbered.{IsReadAs}
use Rattle.pb_search_stages.specs.Configurations.{Comes}
use Rattle.pb_search_stages.specs.Reaching.{Configuration, Ends, ProcessOutcome, outcome_of}
use Rattle.pb_search.specs.Outcomes.{AreOutcomes, Found}
use Rattle.pb_search_stages.specs.Reduction.{LeadsTo}
use Rattle.pb_base.specs.declared.lending.Lending.{Lending}
use Rattle.pb_search_stages.specs.declared.print.Mode.{Mode}
use Rattle.pb_search_stages.specs.declared.print.Print.{Print}
use Rattle.pb_search_stages.specs.Traces.{Outcome, Trace, TraceEnds, trace_outcome}
use Rattle.pb_names.specs.Meaning.{source_bank_by}
use Rattle.pb_names.specs.Program.{Program}
use Rattle.pb_names.specs.Source.{SourceProcess, source_over, source_process, source_step}
use Rattle.pb_search_engine.specs.Expected.{printing}

-- the pick is enabled, and leads the source from one state to the other, under this lending and these claims
abbrev pub SourceLeads : Lending → Program → Table → State SourceProcess → Pick → State SourceProcess → Type 0
SourceLeads lending program claims s pick next =
    LeadsTo (IsGranted (source_bank_by lending program claims)) source_step s pick next

-- the picks, each enabled in turn, lead the source here from its start
abbrev pub SourceComes : Lending → Program → Table → List Pick → State SourceProcess → Type 0
SourceComes lending program claims picks s =
    Comes (SourceLeads lending program claims)
    (opening (source_bank_by lending program claims) (map source_process program.processes)) picks s

-- the picks lead to an ending: every process has ended or faulted
abbrev pub SourceEnds : Lending → Program → Table → List Pick → State SourceProcess → Type 0
SourceEnds lending program claims picks end = SourceComes lending program claims picks end × IsFinished source_over end

-- how a process of the source can end: one that faulted has no run
abbrev pub source_outcome : SourceProcess → ProcessOutcome
source_outcome process = record { integers = process.vars; faulted = is_none process.run }

-- how all processes of the source have ended in this state
abbrev pub source_outcome_of : State SourceProcess → List ProcessOutcome
source_outcome_of end = map source_outcome end.processes

-- the source can end with this outcome under this lending
abbrev pub IsOutcomeOfProgram : Lending → Program → Table → List ProcessOutcome → Type 0
IsOutcomeOfProgram lending program claims outcome =
    (picks : List Pick) × (end : State SourceProcess)
    × SourceEnds lending program claims picks end × (outcome ≡ source_outcome_of end)

-- the code can end with this outcome under this lending
abbrev pub IsOutcomeOfCode : Lending → Code → List ProcessOutcome → Type 0
IsOutcomeOfCode lending code outcome =
    (picks : List Pick) × (end : Configuration) × Ends lending code picks end × (outcome ≡ outcome_of end)

-- what events print, in their order
abbrev pub prints_in : List Event → List Print
prints_in [] = []
prints_in (event.Granted pick bundle ∷ events) = prints_in events
prints_in (event.Returned pick bundle ∷ events) = prints_in events
prints_in (event.Printed pick value ∷ events) = record { pick = pick; value = value } ∷ prints_in events
prints_in (event.Faulted pick kind ∷ events) = prints_in events
prints_in (event.Finished process ∷ events) = prints_in events

-- the source can end so under this lending, and its events print this on the way
abbrev pub IsPrintedBySource : Lending → Program → Table → Outcome → Type 0
IsPrintedBySource lending program claims outcome =
    (picks : List Pick) × (events : List Event) × (end : State SourceProcess)
    × Makes (source_bank_by lending program claims) source_step
    (opening (source_bank_by lending program claims) (map source_process program.processes)) picks events end
    × IsFinished source_over end
    × (outcome ≡ record { processes = source_outcome_of end; prints = prints_in events })

-- the code can end with this outcome and these prints under this lending
abbrev pub IsPrintedByCodeBy : Lending → Code → Outcome → Type 0
IsPrintedByCodeBy lending code outcome =
    (picks : List Pick) × (end : Trace) × TraceEnds (printing lending) code picks end × (outcome ≡ trace_outcome end)

-- under this lending, with no prints
abbrev pub without_prints : Lending → Mode
without_prints lending = record { lending = lending; prints = false }

-- the code has the outcomes of the program, and no others; and a list of the outcomes of the code, without their
-- prints, is one of those of the program: each that is listed is one, and none is missing. So it is with prints
pub record HasOutcomesOf (program : Program) (lending : Lending) (code : Code) : Type 0 where
  pub same : (outcome : List ProcessOutcome)
      → IsOutcomeOfCode lending code outcome ↔ IsOutcomeOfProgram lending program code.claims outcome
  pub listed : (found : List Found) → AreOutcomes (without_prints lending) code found → (outcome : List ProcessOutcome)
      → Contains (map (λ f. f.outcome.processes) found) outcome ↔ IsOutcomeOfProgram lending program code.claims outcome
  pub same_printed : (outcome : Outcome)
      → IsPrintedByCodeBy lending code outcome ↔ IsPrintedBySource lending program code.claims outcome
  pub listed_printed : (found : List Found) → AreOutcomes (printing lending) code found → (outcome : Outcome)
      → Contains (map (λ f. f.outcome) found) outcome ↔ IsPrintedBySource lending program code.claims outcome

-- so it is of the code of a text, with the program that the text spells, under its claims, whoever lends
abbrev pub OutcomesAreThoseOfTheProgram : Type 0
OutcomesAreThoseOfTheProgram =
    (text : List ℕ) (code : Code) (labels : List ProcessLabels) → IsCompiled text code labels
    → (program : Program) × IsReadAs text program code.claims × ((lending : Lending) → HasOutcomesOf program lending code)
