-- What `record` says of an input, as data, and with which status.
use Rattle.std.specs.Prelude.{◌≡◌, ◌≢◌, ◌<◌, ◌≤◌, ℕ, List, [], ◌∷◌, Option, None, length}
use Rattle.pb_base.specs.declared.lending.Lending.{Lending}
use Rattle.pb_base.specs.declared.limits.TheConstants.{MAX_INPUT}
use Rattle.pb_base.specs.Steppers.{State}
use Rattle.pb_code.specs.Code.{CodeProcess}
use Rattle.pb_code.specs.Whole.{Code, ProcessLabels}
use Rattle.pb_codegen.specs.Compiled.{IsCompiled, IsRefused}
use Rattle.pb_codegen.specs.declared.fault.CompileFault.{CompileFault}
use Rattle.pb_codegen.specs.declared.fault.CompileFault.TheVariants as fault
use Rattle.pb_history.specs.declared.counted.CountedPick.{CountedPick}
use Rattle.pb_record.specs.Recorded.{IsRecorded}
use Rattle.pb_accept.specs.ReplayLines.{IsEnding}
use Rattle.pb_accept.specs.RunTexts.{IsEnded, with_picks}
use Rattle.pb_accept.specs.Sayings.{Saying, LongOutput, Recorded, Refused, Threads}
use Rattle.pb_accept.specs.declared.ending.Ending.{Ending}
use Rattle.pb_accept.specs.declared.ending.Ending.TheVariants.{Over, Stuck, Open}
use Rattle.pb_command_io.specs.declared.status.Status.{Status}
use Rattle.pb_command_io.specs.declared.status.Status.TheVariants as status

-- the status of a run that is written, by how its picks end: that of a deadlock, if they end in one
abbrev pub recorded_status : Ending → Status
recorded_status Over = status.Done
recorded_status Stuck = status.Deadlock
recorded_status Open = status.Done

-- the picks are those of a run of the code under this lending, which is written with this status
pub record IsRecordedWith (lending : Lending) (code : Code) (steps : ℕ) (seed : Option ℕ) (picks : List CountedPick) (given : Status)
    : Type 0 where
  pub end : State CodeProcess
  pub recorded : IsRecorded lending code steps seed picks end
  pub ending : Ending
  pub ends : IsEnding lending code end ending
  pub told : given ≡ recorded_status ending

-- what is said of the code of a text: the text with the picks of a run under this lending; or that this would be
-- too long for an input; or, without a seed, that a thread could not be started
pub data SaysOfRecording (lending : Lending) (code : Code) (steps : ℕ) (seed : Option ℕ) (bytes : List ℕ)
    : List Saying → Status → Type 0 where
  written : (ended : List ℕ) (picks : List CountedPick) (given : Status) → IsEnded bytes ended
      → IsRecordedWith lending code steps seed picks given → length (with_picks ended code.names picks) ≤ MAX_INPUT
      → SaysOfRecording lending code steps seed bytes (Recorded ended code.names picks ∷ []) given
  too_long : (ended : List ℕ) (picks : List CountedPick) (end : State CodeProcess) → IsEnded bytes ended
      → IsRecorded lending code steps seed picks end → MAX_INPUT < length (with_picks ended code.names picks)
      → SaysOfRecording lending code steps seed bytes (LongOutput ∷ []) status.Refused
  no_threads : seed ≡ None → SaysOfRecording lending code steps seed bytes (Threads ∷ []) status.Threads

-- what is said of a text: it is refused; or it is accepted, and a run of its code under this lending is recorded
pub data SaysOfRecord (lending : Lending) (steps : ℕ) (seed : Option ℕ) (bytes : List ℕ) : List Saying → Status → Type 0 where
  refused : (f : CompileFault) → f ≢ fault.Memory → IsRefused bytes f
      → SaysOfRecord lending steps seed bytes (Refused f ∷ []) status.Refused
  accepted : (code : Code) (labels : List ProcessLabels) → IsCompiled bytes code labels
      → (said : List Saying) (given : Status) → SaysOfRecording lending code steps seed bytes said given
      → SaysOfRecord lending steps seed bytes said given
