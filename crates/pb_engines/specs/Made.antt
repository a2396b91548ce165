-- What is said of a text and the picks that were made of a run of its code, or of why there are none.
use Rattle.std.specs.Prelude.{◌≡◌, ◌≢◌, ℕ, List, [], ◌∷◌, All, IfOk, IfSome, Option, Some, None, Result, Ok, Err}
use Rattle.pb_accept.specs.Sayings.{Saying, LongOutput, NoMemory, Threads}
use Rattle.pb_accept.specs.ToldRuns.{SaysOfRecorded}
use Rattle.pb_base.specs.Lines.{HasProcess, NameTable}
use Rattle.pb_command_io.specs.declared.status.Status.{Status}
use Rattle.pb_command_io.specs.declared.status.Status.TheVariants as status
use Rattle.pb_engines.specs.declared.record.Recorded.{Recorded}
use Rattle.pb_workers.specs.declared.fault.RunFault.{RunFault}
use Rattle.pb_workers.specs.declared.fault.RunFault.TheVariants as fault

-- the text with these picks; or, if they are too many, that this would be too long for an input; or that a thread could
-- not be started; or out of memory
pub data SaysOfMade (bytes : List ℕ) (names : NameTable) (made : Result (Option Recorded) RunFault) : List Saying → Status → Type 0 where
  made_picks : (r : Recorded) → made ≡ Ok (Some r) → (said : List Saying) (given : Status)
      → SaysOfRecorded bytes names r.picks.items r.status said given → SaysOfMade bytes names made said given
  too_many : made ≡ Ok None → SaysOfMade bytes names made (LongOutput ∷ []) status.Refused
  no_threads : (f : RunFault) → made ≡ Err f → f ≢ fault.NoMemory → SaysOfMade bytes names made (Threads ∷ []) status.Threads
  no_memory : SaysOfMade bytes names made (NoMemory ∷ []) status.Memory

-- each pick is of a process that has a name, and the status is none of a device
abbrev pub CanBeTold : NameTable → Result (Option Recorded) RunFault → Type 0
CanBeTold names made = IfOk made (λ o. IfSome o (λ r.
    All (λ c. HasProcess names c.pick.process) r.picks.items × (r.status ≢ status.Device)))
