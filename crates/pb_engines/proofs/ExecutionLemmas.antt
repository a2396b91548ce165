-- From what is said of code to what `exec` says.
use Rattle.std.proofs.Common.{ℕ, ◌≤◌, List, length}
use Rattle.pb_base.specs.declared.limits.TheConstants.{MAX_INPUT}
use Rattle.pb_code.specs.Whole.{Code, ProcessLabels}
use Rattle.pb_accept.specs.Claims.{SaysOfAny}
use Rattle.pb_voice.specs.Inputs.{read}
use Rattle.pb_accept.specs.Loading.{IsLoaded}
use Rattle.pb_accept.specs.Sayings.{Saying}
use Rattle.pb_engines.specs.Executions.{SaysOfExecution, executed}
use Rattle.pb_engines.specs.Runs.{SaysOfCodeRun}
use Rattle.pb_command_io.specs.declared.status.Status.{Status}
use Rattle.pb_voice.specs.Tellings.{Speaks}

-- a run of the code that the bytes give
pub code_is_run : {T : Type 0} (tells breaks : T → Saying → T → Type 0) (old new : T) (answered : Status) (steps : ℕ) (bytes : List ℕ)
    (code : Code) (labels : List ProcessLabels) → length bytes ≤ MAX_INPUT → IsLoaded bytes code labels
    → Speaks tells breaks (SaysOfCodeRun code steps) old new answered → Speaks tells breaks (SaysOfAny (SaysOfExecution steps) bytes) old new answered
code_is_run tells breaks old new answered steps bytes code labels short loaded (said, status, (events, n, run), ends) =
    (said, status, read said status short (executed code labels loaded events n said status run), ends)
