-- What is told of the state at the position.
use Rattle.std.specs.Prelude.{ℕ, zero, suc, ◌-◌, ℤ, nat_lt, nat_eq, cond, Bool, true, false}
use Rattle.std.specs.Prelude.{List, [], ◌∷◌, ◌++◌, length, Option, Some, None, codes, reverse, slice_get}
use Rattle.serde_json.specs.Data.{Data}
use Rattle.pb_base.specs.Lines.{name_of}
use Rattle.pb_code.specs.Code.{CodeProcess, thread}
use Rattle.pb_code.specs.Whole.{ProcessLabels}
use Rattle.pb_machine.specs.Views.{operands_of_thread}
use Rattle.pb_debug.specs.Value.{Debugging, bank_state, state_of}
use Rattle.pb_debug_positions.specs.Searches.{line_in}
use Rattle.pb_adapter_requests.specs.Counting.{first_column, shown_line}
use Rattle.pb_adapter_requests.specs.declared.counting.Counting.{Counting}
use Rattle.pb_adapter_requests.specs.Requests.{Place, place_of}
use Rattle.pb_adapter_requests.specs.Responses.{listed}
use Rattle.pb_adapter_values.specs.Values.{arm_name, arms_of, cash_list, frame_data, integers_list, loans_list}
use Rattle.pb_adapter_values.specs.Values.{operands_list, scopes_data, thread_number}

-- the arms of the processes below number n
abbrev pub threads_below : List (List ℕ) → List CodeProcess → ℕ → List Data
threads_below names ps zero = []
threads_below names ps (suc n) = threads_below names ps n ++ arms_of (name_of names n) n (slice_get ps n)

-- the arms of all processes, as the answer to a request for threads
abbrev pub threads_data : Debugging → Data
threads_data d = listed (codes "threads")
    (threads_below d.verified.code.names.processes (state_of d).processes (length (state_of d).processes))

-- whether there is such an arm
abbrev pub has_arm : Option CodeProcess → ℕ → Bool
has_arm None a = false
has_arm (Some process) a = nat_lt a (length process.threads)

-- 0 stands for no line
abbrev pub line_or_none : Option ℕ → ℕ
line_or_none None = 0
line_or_none (Some line) = line

-- the one frame of an arm, or none if there is no such arm
abbrev pub frames_if : Bool → Data → List Data
frames_if false frame = []
frames_if true frame = frame ∷ []

-- the answer to a request for the stack of an arm
abbrev pub stack_data : Debugging → (path : List ℕ) → Counting → Place → Data
stack_data d path counting at = listed (codes "stackFrames") (frames_if (has_arm (slice_get (state_of d).processes at.process) at.arm)
    (frame_data path (arm_name (name_of d.verified.code.names.processes at.process) at.arm) (thread_number at.process at.arm)
    (shown_line counting (line_or_none (line_in (slice_get d.labels at.process) (slice_get (state_of d).processes at.process) at.arm)))
    (first_column counting)))

-- the names of the integers of a process, if there is such a process
abbrev pub integers_of : Option ProcessLabels → List (List ℕ)
integers_of None = []
integers_of (Some labels) = labels.integers

-- the values of the integers of a process, if there is such a process
abbrev pub vars_of : Option CodeProcess → List ℤ
vars_of None = []
vars_of (Some process) = process.vars

-- those of a process at the position; none if there is no such process
abbrev pub integers_at : Debugging → ℕ → List Data
integers_at d p = integers_list (integers_of (slice_get d.labels p)) (vars_of (slice_get (state_of d).processes p))

-- those of an arm at the position; none if there is no such process
abbrev pub operands_in : Option CodeProcess → ℕ → List ℤ
operands_in None a = []
operands_in (Some process) a = reverse (operands_of_thread (thread process.threads a))

-- the operands of an arm at the position, as they are shown
abbrev pub operands_at : Debugging → Place → List Data
operands_at d at = operands_list (operands_in (slice_get (state_of d).processes at.process) at.arm)

-- what can be shown of an arm
abbrev pub scopes_at : Debugging → Place → Data
scopes_at d at = scopes_data (has_arm (slice_get (state_of d).processes at.process) at.arm) at.process at.arm

-- what a reference names: the integers or the loans of a process, the cash, or the operands of an arm
abbrev pub variables_list : Debugging → ℕ → List Data
variables_list d n =
    cond (nat_eq n 0) []
    (cond (nat_lt n 65) (integers_at d (n - 1))
    (cond (nat_lt n 129) (loans_list d.verified.code.names.resources (bank_state d) (n - 65))
    (cond (nat_eq n 129) (cash_list d.verified.code.names.resources (bank_state d))
    (operands_at d (place_of (Some (n - 129)))))))

-- 0, which names nothing, in the place of no reference
abbrev pub reference_or_none : Option ℕ → ℕ
reference_or_none None = 0
reference_or_none (Some n) = n

-- the answer to a request for variables
abbrev pub variables_data : Debugging → Option ℕ → Data
variables_data d reference = listed (codes "variables") (variables_list d (reference_or_none reference))
