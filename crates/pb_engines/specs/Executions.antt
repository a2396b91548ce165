-- What `exec` says of an input, as data, and with which status.
use Rattle.std.specs.Prelude.{◌≡◌, ℕ, List, [], ◌∷◌, Some}
use Rattle.pb_base.specs.declared.event.Event.{Event}
use Rattle.pb_code.specs.Whole.{Code, ProcessLabels}
use Rattle.pb_accept.specs.Loading.{IsLoaded, IsLoadFault}
use Rattle.pb_accept.specs.Causes.{load_cause}
use Rattle.pb_accept.specs.Sayings.{Saying, NoCode}
use Rattle.pb_accept.specs.declared.cause.Cause.{Cause}
use Rattle.pb_accept.specs.declared.load.LoadFault.{LoadFault}
use Rattle.pb_engines.specs.Runs.{SaysOfRun}
use Rattle.pb_command_io.specs.declared.status.Status.{Status}
use Rattle.pb_command_io.specs.declared.status.Status.TheVariants.{Refused}

-- the bytes give no safe code; or they give some, of which some run is told
pub data SaysOfExecution (steps : ℕ) (bytes : List ℕ) : List Saying → Status → Type 0 where
  no_code : (fault : LoadFault) (cause : Cause) → IsLoadFault bytes fault → load_cause fault ≡ Some cause
      → SaysOfExecution steps bytes (NoCode fault ∷ []) Refused
  executed : (code : Code) (labels : List ProcessLabels) → IsLoaded bytes code labels
      → (events : List Event) (n : ℕ) (said : List Saying) (given : Status)
      → SaysOfRun code steps events n said given
      → SaysOfExecution steps bytes said given
