-- What is said at the end of a run. No public contract cites this file.
use Rattle.std.specs.Prelude.{◌≡◌, ℕ, List, Some, slice_get}
use Rattle.pb_accept.specs.Sayings.{Saying, Ended, Limit}
use Rattle.pb_accept.specs.declared.ending.Ending.TheVariants.{Over}
use Rattle.pb_base.specs.declared.event.Event.{Event}
use Rattle.pb_base.specs.declared.event.Event.TheVariants.{Faulted}
use Rattle.pb_base.specs.declared.operators.FaultKind.{FaultKind}
use Rattle.pb_base.specs.declared.pick.Pick.{Pick}
use Rattle.pb_command_io.specs.declared.status.Status.{Status}
use Rattle.pb_command_io.specs.declared.status.Status.TheVariants as status
use Rattle.pb_shared.specs.declared.outcome.Outcome.{Outcome}
use Rattle.pb_shared.specs.declared.outcome.Outcome.TheVariants as outcome

-- some event is a fault
abbrev pub ShowsFault : List Event → Type 0
ShowsFault events =
    (i : ℕ) × (pick : Pick) × (kind : FaultKind) × (slice_get events i ≡ Some (Faulted pick kind))

-- what is said after these events: all is over, or the steps were used up before
pub data SaysOfOutcome (events : List Event) (steps : ℕ) : Outcome → Saying → Status → Type 0 where
  all_done : ¬ ShowsFault events → SaysOfOutcome events steps outcome.Done (Ended Over) status.Done
  some_fault : ShowsFault events → SaysOfOutcome events steps outcome.Done (Ended Over) status.Fault
  used_up : SaysOfOutcome events steps outcome.Limit (Limit steps) status.Limit
