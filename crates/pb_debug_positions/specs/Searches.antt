-- What is looked for along the picks, and where it is found.
use Rattle.std.specs.Prelude.{◌≡◌, ℕ, ℤ, ◌+◌, ◌<◌, ◌≤◌, Bool, false, IsTrue, List, get_or, Option, Some, None, slice_get}
use Rattle.pb_base.specs.declared.event.Event.{Event}
use Rattle.pb_base.specs.declared.pick.Pick.{Pick}
use Rattle.pb_base.specs.declared.step.Step.{Step}
use Rattle.pb_base.specs.declared.step.Step.TheVariants.{Silent, Did, NotEnabled}
use Rattle.pb_base.specs.Steppers.{Effect, event_of, move_of}
use Rattle.pb_code.specs.Code.{Thread, Idle, Live, Ended, CodeProcess, code_step, thread}
use Rattle.pb_code.specs.Whole.{Code, ProcessLabels}
use Rattle.pb_history.specs.Positions.{state_after}
use Rattle.pb_debug_positions.specs.declared.search.Watch.{Watch}
use Rattle.pb_debug_positions.specs.declared.search.Watch.TheVariants as watch

-- pick k leads to the next position, and shows this event, or nothing if there is none: who lends decides only
-- whether it is enabled
pub record LeadsOn (code : Code) (picks : List Pick) (k : ℕ) (shown : Option Event) : Type 0 where
  pub pick : Pick
  pub there : slice_get picks k ≡ Some pick
  pub effect : Effect
  pub steps : move_of (code_step code.processes) (state_after code picks k) pick
      ≡ Some (record { next = state_after code picks (k + 1); effect = effect })
  pub shows : event_of pick effect ≡ shown

-- what pick k, which is enabled, comes to
abbrev pub StepsAt : Code → List Pick → ℕ → Step → Type 0
StepsAt code picks k Silent = LeadsOn code picks k None
StepsAt code picks k (Did event) = LeadsOn code picks k (Some event)
StepsAt code picks k NotEnabled = ⊥

-- pick k shows this event
abbrev pub Shows : Code → List Pick → ℕ → Event → Type 0
Shows code picks k event = LeadsOn code picks k (Some event)

-- an integer of a process, if both are there
abbrev pub value_in : Option CodeProcess → ℕ → Option ℤ
value_in None x = None
value_in (Some process) x = slice_get process.vars x

-- an integer of a process at position k
abbrev pub value_at : Code → List Pick → (k p x : ℕ) → Option ℤ
value_at code picks k p x = value_in (slice_get (state_after code picks k).processes p) x

-- the line of an arm: that of the place where it is, if it is live
abbrev pub thread_line : List (Option ℕ) → Thread → Option ℕ
thread_line lines Idle = None
thread_line lines (Live place stack) = get_or lines place None
thread_line lines Ended = None

-- the line of an arm of a process, if both are there, the arm is live, and its place has one
abbrev pub line_in : Option ProcessLabels → Option CodeProcess → ℕ → Option ℕ
line_in None process a = None
line_in (Some labels) None a = None
line_in (Some labels) (Some process) a = thread_line labels.lines (thread process.threads a)

-- the line of an arm of a process at position k
abbrev pub arm_line_at : Code → List ProcessLabels → List Pick → (k p a : ℕ) → Option ℕ
arm_line_at code labels picks k p a = line_in (slice_get labels p) (slice_get (state_after code picks k).processes p) a

-- whether a process is there and has faulted
abbrev pub faulted_in : Option CodeProcess → Bool
faulted_in None = false
faulted_in (Some process) = process.faulted

-- whether a process has faulted at position k
abbrev pub faulted_at : Code → List Pick → (k p : ℕ) → Bool
faulted_at code picks k p = faulted_in (slice_get (state_after code picks k).processes p)

-- pick k does what is looked for: it shows an event; it changes an integer of a process;
-- an arm is at a line after it, and is not before it; a process has faulted after it, and not before it
abbrev pub Does : Code → List ProcessLabels → List Pick → Watch → ℕ → Type 0
Does code labels picks watch.Event k = (event : Event) × Shows code picks k event
Does code labels picks (watch.Integer p x) k = value_at code picks k p x ≡ value_at code picks (k + 1) p x → ⊥
Does code labels picks (watch.Line p a n) k =
    (arm_line_at code labels picks k p a ≡ Some n → ⊥) × (arm_line_at code labels picks (k + 1) p a ≡ Some n)
Does code labels picks (watch.Fault p) k =
    (IsTrue (faulted_at code picks k p) → ⊥) × IsTrue (faulted_at code picks (k + 1) p)

-- the first number, from one on and below another, of which this holds; none if there is none
abbrev pub IsFirst : (ℕ → Type 0) → (from past : ℕ) → Option ℕ → Type 0
IsFirst Holds from past None = (k : ℕ) → from ≤ k → k < past → Holds k → ⊥
IsFirst Holds from past (Some k) =
    (from ≤ k) × (k < past) × Holds k × ((j : ℕ) → from ≤ j → j < k → Holds j → ⊥)

-- the last such number
abbrev pub IsLast : (ℕ → Type 0) → (from past : ℕ) → Option ℕ → Type 0
IsLast Holds from past None = (k : ℕ) → from ≤ k → k < past → Holds k → ⊥
IsLast Holds from past (Some k) =
    (from ≤ k) × (k < past) × Holds k × ((j : ℕ) → k < j → j < past → Holds j → ⊥)
