-- Where a request moves the run, and what is told of that.
use Rattle.std.specs.Prelude.{◌≡◌, ℕ, zero, suc, ◌+◌, ◌-◌, List, ◌++◌, length, Option, Some, None, codes, Bool, false, cond, nat_eq, nat_lt, not, slice_get}
use Rattle.serde_json.specs.Data.{Data}
use Rattle.std.specs.Str.{bytes_eq}
use Rattle.pb_base.specs.Lines.{line, name_of}
use Rattle.pb_base.specs.declared.pick.Pick.{Pick}
use Rattle.pb_debug.specs.Value.{Debugging}
use Rattle.pb_debug_positions.specs.Searches.{IsFirst, IsLast}
use Rattle.pb_debug_stops.specs.Stops.{Arrives, Moves}
use Rattle.pb_adapter_requests.specs.Requests.{Place}
use Rattle.pb_adapter_requests.specs.Responses.{event_data}
use Rattle.pb_adapter_requests.specs.declared.kind.Kind.{Kind}
use Rattle.pb_adapter_requests.specs.declared.kind.Kind.TheVariants as kind
use Rattle.pb_adapter_values.specs.Values.{arm_name, body_at, saying_at, thread_number}
use Rattle.pb_adapter.specs.declared.moves.Stop.{Stop}

-- a position, and why the run stops there
pub record StopPlace : Type 0 where
  pub position : ℕ
  pub reason : List ℕ

-- a stop at this position, for this reason
abbrev pub stop_at : ℕ → List ℕ → StopPlace
stop_at i reason = record { position = i; reason = reason }

-- just after a pick that was looked for, with its reason; if there is none, somewhere else
abbrev pub stop_of : Option ℕ → (reason : List ℕ) → StopPlace → StopPlace
stop_of None reason other = other
stop_of (Some k) reason other = stop_at (k + 1) reason

-- the first and the last position of the run
abbrev pub start_stop : StopPlace
start_stop = stop_at 0 (codes "entry")

abbrev pub end_stop : Debugging → StopPlace
end_stop d = stop_at (length d.picks) (codes "end")

-- a pick brings an arm of its process to a line with a breakpoint; it moves an arm to another line
abbrev pub Comes : Debugging → (lines : List ℕ) → (k : ℕ) → Type 0
Comes d lines = Arrives d.verified.code d.labels d.picks lines

abbrev pub MovesArm : Debugging → Place → (k : ℕ) → Type 0
MovesArm d at = Moves d.verified.code d.labels d.picks at.process at.arm

-- where the run stops: on by a search it is the first position after this one, back by a search the last
-- before it, just after such a pick
abbrev pub StopsAt : Debugging → (lines : List ℕ) → Place → Kind → StopPlace → Type 0
StopsAt d lines at kind.ReverseContinue stop =
    (found : Option ℕ) × IsLast (Comes d lines) 0 (d.position - 1) found
    × (stop ≡ stop_of found (codes "breakpoint") start_stop)
StopsAt d lines at kind.Step stop =
    (found : Option ℕ) × IsFirst (MovesArm d at) d.position (length d.picks) found
    × (stop ≡ stop_of found (codes "step") (end_stop d))
StopsAt d lines at kind.StepBack stop =
    (found : Option ℕ) × IsLast (MovesArm d at) 0 (d.position - 1) found
    × (stop ≡ stop_of found (codes "step") start_stop)
StopsAt d lines at kind.Restart stop = stop ≡ start_stop
StopsAt d lines at kind.ConfigurationDone stop = stop ≡ stop_at d.position (codes "entry")
StopsAt d lines at kind.Pause stop = stop ≡ stop_at d.position (codes "pause")
StopsAt d lines at kind.Continue stop = ⊥
StopsAt d lines at kind.Initialize stop = ⊥
StopsAt d lines at kind.Launch stop = ⊥
StopsAt d lines at kind.SetBreakpoints stop = ⊥
StopsAt d lines at kind.SetEvents stop = ⊥
StopsAt d lines at kind.Disconnect stop = ⊥
StopsAt d lines at kind.Terminate stop = ⊥
StopsAt d lines at kind.Threads stop = ⊥
StopsAt d lines at kind.StackTrace stop = ⊥
StopsAt d lines at kind.Scopes stop = ⊥
StopsAt d lines at kind.Variables stop = ⊥
StopsAt d lines at kind.Evaluate stop = ⊥
StopsAt d lines at kind.Unknown stop = ⊥

-- the thread of the arm of the pick just before a position; at the start that of the first body
abbrev pub thread_of : Option Pick → ℕ
thread_of None = 1
thread_of (Some pick) = thread_number pick.process pick.arm

-- the pick just before a position, if there is one
abbrev pub pick_before : List Pick → ℕ → Option Pick
pick_before picks zero = None
pick_before picks (suc k) = slice_get picks k

-- what the event says: where the run stands, and why
abbrev pub stopped_body : Debugging → List ℕ → Data
stopped_body d reason = body_at d.position reason (thread_of (pick_before d.picks d.position))

-- the event that the run has stopped
abbrev pub stopped_data : (seq : ℕ) → Debugging → List ℕ → Data
stopped_data seq d reason = event_data seq (codes "stopped") (stopped_body d reason)

-- whether the run has moved to just after an event, and no pick that was looked for comes before that of the event
abbrev pub is_event_first : (before after : ℕ) → Option ℕ → Bool
is_event_first before after None = not (nat_eq after before)
is_event_first before after (Some k) = cond (nat_eq after before) false (not (nat_lt (k + 1) after))

-- why the run stops at the end of its picks: some arms wait in a circle, or none do, by the answer to `circle`
abbrev pub end_reason : (text : List ℕ) → List ℕ
end_reason text = cond (bytes_eq text (line (codes "no circle"))) (codes "end") (codes "waits")

-- the event of a thread, with a text that says more
abbrev pub saying_data : (seq : ℕ) → Debugging → (reason : List ℕ) → (thread : ℕ) → (text : List ℕ) → Data
saying_data seq d reason thread text = event_data seq (codes "stopped") (saying_at d.position reason thread text)

-- the event where the picks end
abbrev pub end_data : (seq : ℕ) → Debugging → (text : List ℕ) → Data
end_data seq d text = saying_data seq d (end_reason text) (thread_of (pick_before d.picks d.position)) text

-- the command by which a session tries a pick of an arm
abbrev pub pick_words : Debugging → Place → List ℕ
pick_words d at = codes "pick " ++ arm_name (name_of d.verified.code.names.processes at.process) at.arm

-- an arm that was tried has made a step, or waits
abbrev pub tried_reason : (before after : ℕ) → List ℕ
tried_reason before after = cond (nat_eq after before) (codes "waits") (codes "step")

-- the same, as the program has it
abbrev pub stop_view : Stop → StopPlace
stop_view s = record { position = s.position; reason = s.reason.now }
