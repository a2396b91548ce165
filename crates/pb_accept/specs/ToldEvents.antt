-- The events of a run as they are told, and when a process has faulted.
use Rattle.std.specs.Prelude.{◌≡◌, ℕ, List, map, slice_get, Some, true}
use Rattle.pb_accept.specs.Sayings.{Saying, Shows}
use Rattle.pb_base.specs.declared.event.Event.{Event}
use Rattle.pb_base.specs.Lines.{NameTable}
use Rattle.pb_base.specs.Steppers.{State}
use Rattle.pb_code.specs.Code.{CodeProcess}

-- the events of a run, in their order
abbrev pub shown : NameTable → List Event → List Saying
shown names events = map (Shows names) events

-- some process has faulted
abbrev pub HasFault : State CodeProcess → Type 0
HasFault end =
    (p : ℕ) × (process : CodeProcess) × (slice_get end.processes p ≡ Some process) × (process.faulted ≡ true)
