-- What `run` says of an input, as data, and with which status.
use Rattle.std.specs.Prelude.{◌≡◌, ◌≢◌, ◌≤◌, ◌++◌, ℕ, List, [], ◌∷◌, length}
use Rattle.pb_base.specs.declared.event.Event.{Event}
use Rattle.pb_base.specs.Steppers.{State}
use Rattle.pb_code.specs.Code.{CodeProcess}
use Rattle.pb_code.specs.Whole.{Code, ProcessLabels}
use Rattle.pb_codegen.specs.Compiled.{IsCompiled, IsRefused}
use Rattle.pb_codegen.specs.declared.fault.CompileFault.{CompileFault}
use Rattle.pb_codegen.specs.declared.fault.CompileFault.TheVariants as fault
use Rattle.pb_names.specs.Meaning.{SourceCan}
use Rattle.pb_accept.specs.ToldEvents.{HasFault, shown}
use Rattle.pb_accept.specs.Sayings.{Saying, Ended, Limit, NoMemory, Refused, Threads}
use Rattle.pb_accept.specs.declared.ending.Ending.TheVariants.{Over}
use Rattle.pb_record.specs.CodeRuns.{IsDone, Run}
use Rattle.pb_command_io.specs.declared.status.Status.{Status}
use Rattle.pb_command_io.specs.declared.status.Status.TheVariants as status

-- what is said of a run of n picks with these events: each of them, and at its end that all is over, or that all
-- steps were used up before; or, of no run, that it is out of memory, or that a thread could not be started
pub data SaysOfRun (code : Code) (steps : ℕ) (events : List Event) : ℕ → List Saying → Status → Type 0 where
  done : (end : State CodeProcess) (run : Run code events end) → length run.picks ≤ steps → IsDone end
      → ¬ HasFault end
      → SaysOfRun code steps events (length run.picks) (shown code.names events ++ Ended Over ∷ []) status.Done
  faulted : (end : State CodeProcess) (run : Run code events end) → length run.picks ≤ steps → IsDone end
      → HasFault end
      → SaysOfRun code steps events (length run.picks) (shown code.names events ++ Ended Over ∷ []) status.Fault
  at_limit : (end : State CodeProcess) (run : Run code events end) → ¬ IsDone end → length run.picks ≡ steps
      → SaysOfRun code steps events (length run.picks) (shown code.names events ++ Limit steps ∷ []) status.Limit
  no_memory : events ≡ [] → SaysOfRun code steps events 0 (NoMemory ∷ []) status.Memory
  no_threads : events ≡ [] → SaysOfRun code steps events 0 (Threads ∷ []) status.Threads

-- what is said of a text: it is refused; or it is accepted, and some run of its code is told, of which the
-- program can make the same events with as many picks
pub data SaysOfTextRun (steps : ℕ) (bytes : List ℕ) : List Saying → Status → Type 0 where
  refused : (f : CompileFault) → f ≢ fault.Memory → IsRefused bytes f → SaysOfTextRun steps bytes (Refused f ∷ []) status.Refused
  accepted : (code : Code) (labels : List ProcessLabels) (compiled : IsCompiled bytes code labels)
      (events : List Event) (n : ℕ) (said : List Saying) (given : Status)
      → SaysOfRun code steps events n said given → SourceCan compiled.program events n
      → SaysOfTextRun steps bytes said given

-- what is said of some run of the code
abbrev pub SaysOfCodeRun : Code → ℕ → List Saying → Status → Type 0
SaysOfCodeRun code steps said given =
    (events : List Event) × (n : ℕ) × SaysOfRun code steps events n said given
