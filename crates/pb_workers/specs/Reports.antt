-- What workers report.
use Rattle.std.specs.Prelude.{◌≡◌, ℕ, ◌<◌, ◌≤◌, List, length}
use Rattle.pb_base.specs.declared.limits.TheConstants.{MAX_PICKS, MAX_QUANTUM, MAX_WORKERS}
use Rattle.pb_base.specs.Steppers.{State, IsFinished}
use Rattle.pb_code.specs.Code.{CodeProcess, code_over}
use Rattle.pb_code.specs.Whole.{Code, code_opening}
use Rattle.pb_history.specs.Entries.{Entry}
use Rattle.pb_history.specs.Leads.{Leads}
use Rattle.pb_shared.specs.declared.outcome.Outcome.{Outcome}
use Rattle.pb_shared.specs.declared.outcome.Outcome.TheVariants.{Done, Limit}
use Rattle.pb_workers.specs.declared.report.Report.{Report}

-- the numbers are in their ranges
abbrev pub InRange : ℕ → ℕ → ℕ → Type 0
InRange workers quantum limit =
    (0 < workers) × (workers ≤ MAX_WORKERS) × (0 < quantum) × (quantum ≤ MAX_QUANTUM) × (limit ≤ MAX_PICKS)

-- how a run ended: every process over, or not so after just as many picks as the limit says
abbrev pub EndsAs : Outcome → ℕ → List Entry → State CodeProcess → Type 0
EndsAs Done limit entries end = IsFinished code_over end
EndsAs Limit limit entries end = (IsFinished code_over end → ⊥) × (length entries ≡ limit)

-- the trace has picks of this code and what each made, one after another from the start, no more than the
-- limit says, and ends as the outcome says
pub record IsReport (code : Code) (limit : ℕ) (report : Report) : Type 0 where
  pub end : State CodeProcess
  pub leads : Leads code (code_opening code) report.trace.entries end
  pub few : length report.trace.entries ≤ limit
  pub ends : EndsAs report.outcome limit report.trace.entries end
