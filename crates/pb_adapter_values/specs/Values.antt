-- What is told of a state, as the protocol has it. Names are ASCII, which `utf8_lossy` leaves as it is.
use Rattle.std.specs.Prelude.{ℕ, zero, suc, ◌+◌, ◌*◌, ℤ, pos, nat_lt, nat_eq, cond, Bool, true, false}
use Rattle.std.specs.Prelude.{List, [], ◌∷◌, ◌++◌, length, Option, Some, None, codes, slice_index_or}
use Rattle.std.specs.Fmt.{decimal, signed_decimal}
use Rattle.std.specs.Str.Lossy.{utf8_lossy}
use Rattle.serde_json.specs.Data.{Data, array, boolean, number, string, object, unsigned, no_members, member}
use Rattle.serde_json.specs.View.{items_of}
use Rattle.pb_base.specs.Banker.{BankerState, processes, resources, cash, claim, loan}
use Rattle.pb_base.specs.Lines.{name_of}
use Rattle.pb_code.specs.Code.{CodeProcess, Thread, thread}
use Rattle.pb_machine.specs.Views.{state_of_thread}
use Rattle.pb_machine.specs.declared.thread.ThreadState.{ThreadState}
use Rattle.pb_machine.specs.declared.thread.ThreadState.TheVariants as given
use Rattle.pb_adapter_requests.specs.Responses.{list_below, listed}

-- what the adapter can do: it can stop at events, of which the client asks by this word
abbrev pub events_filter : Data
events_filter = object (member (codes "filter") (string (codes "events"))
    (member (codes "label") (string (codes "Events")) no_members))

-- all that the adapter can do
abbrev pub capabilities_data : Data
capabilities_data = object (member (codes "exceptionBreakpointFilters") (array (items_of (events_filter ∷ [])))
    (member (codes "supportsConfigurationDoneRequest") (boolean true)
    (member (codes "supportsRestartRequest") (boolean true)
    (member (codes "supportsStepBack") (boolean true)
    (member (codes "supportsTerminateRequest") (boolean true) no_members)))))

-- the number of the thread that an arm of a process is
abbrev pub thread_number : (p a : ℕ) → ℕ
thread_number p a = 64 * p + a + 1

-- `P.a`: the process, and its arm
abbrev pub arm_name : List ℕ → ℕ → List ℕ
arm_name name a = utf8_lossy name ++ codes "." ++ decimal a

-- ---- arms

-- a thread, by its number and its name
abbrev pub thread_data : (id : ℕ) → List ℕ → Data
thread_data id name = object (member (codes "id") (number (unsigned id))
    (member (codes "name") (string name) no_members))

-- an arm is a thread unless it is idle; the body of a process always is one
abbrev pub is_idle_state : ThreadState → Bool
is_idle_state given.Idle = true
is_idle_state given.Live = false
is_idle_state given.Ended = false

-- so it is with an arm
abbrev pub is_idle : Thread → Bool
is_idle t = is_idle_state (state_of_thread t)

-- the thread of an arm as a list, which is empty if it has none
abbrev pub thread_if : (name : List ℕ) → (p a : ℕ) → Thread → List Data
thread_if name p a t = cond (nat_eq a 0) (thread_data (thread_number p a) (arm_name name a) ∷ [])
    (cond (is_idle t) [] (thread_data (thread_number p a) (arm_name name a) ∷ []))

-- the arms below number n of a process
abbrev pub arms_below : (name : List ℕ) → (p : ℕ) → List Thread → ℕ → List Data
arms_below name p threads zero = []
arms_below name p threads (suc n) = arms_below name p threads n ++ thread_if name p n (thread threads n)

-- all arms of a process; none if there is no such process
abbrev pub arms_of : (name : List ℕ) → (p : ℕ) → Option CodeProcess → List Data
arms_of name p None = []
arms_of name p (Some process) = arms_below name p process.threads (length process.threads)

-- ---- the line of an arm

-- a line and a column of a text that is shown under this path
abbrev pub frame_data : (path name : List ℕ) → (id line column : ℕ) → Data
frame_data path name id line column = object (member (codes "column") (number (unsigned column))
    (member (codes "id") (number (unsigned id))
    (member (codes "line") (number (unsigned line))
    (member (codes "name") (string name)
    (member (codes "source") (object (member (codes "path") (string path) no_members)) no_members)))))

-- ---- what can be shown of a process

-- a list of variables with its name, and the reference by which a client asks for it
abbrev pub scope_data : (name : List ℕ) → (reference : ℕ) → Data
scope_data name reference = object (member (codes "expensive") (boolean false)
    (member (codes "name") (string name)
    (member (codes "variablesReference") (number (unsigned reference)) no_members)))

-- integers by references from 1 on, loans by those from 65 on, cash by 129, operands by those from 130 on
abbrev pub scopes_list : (p a : ℕ) → List Data
scopes_list p a = scope_data (codes "Integers") (p + 1) ∷ scope_data (codes "Operands") (thread_number p a + 129)
    ∷ scope_data (codes "Loans") (p + 65) ∷ scope_data (codes "Cash") 129 ∷ []

-- those of an arm; none if there is no such arm
abbrev pub scopes_if : (there : Bool) → (p a : ℕ) → List Data
scopes_if false p a = []
scopes_if true p a = scopes_list p a

-- the answer to a request for scopes
abbrev pub scopes_data : (there : Bool) → (p a : ℕ) → Data
scopes_data there p a = listed (codes "scopes") (scopes_if there p a)

-- ---- variables

-- a value with a name, and no variables of its own
abbrev pub variable_data : (name value : List ℕ) → Data
variable_data name value = object (member (codes "name") (string (utf8_lossy name))
    (member (codes "value") (string value)
    (member (codes "variablesReference") (number (unsigned 0)) no_members)))

-- integers with these names
abbrev pub integers_list : List (List ℕ) → List ℤ → List Data
integers_list names vars =
    list_below (λ x. variable_data (name_of names x) (signed_decimal (slice_index_or vars x (pos 0)))) (length vars)

-- operands by their numbers, the lowest first
abbrev pub operands_list : List ℤ → List Data
operands_list operands =
    list_below (λ i. variable_data (decimal i) (signed_decimal (slice_index_or operands i (pos 0)))) (length operands)

-- `K of claim C`, for each resource
abbrev pub loan_words : (held claimed : ℕ) → List ℕ
loan_words held claimed = decimal held ++ codes " of claim " ++ decimal claimed

-- what a process holds of each resource; none if there is no such process
abbrev pub loans_list : List (List ℕ) → BankerState → ℕ → List Data
loans_list names s p = cond (nat_lt p (processes s))
    (list_below (λ r. variable_data (name_of names r) (loan_words (loan s p r) (claim s p r))) (resources s)) []

-- the cash of each resource
abbrev pub cash_list : List (List ℕ) → BankerState → List Data
cash_list names s = list_below (λ r. variable_data (name_of names r) (decimal (cash s r))) (resources s)

-- ---- what is told of a move and of a session

-- what the event that the run stands at a position says
abbrev pub body_at : (position : ℕ) → (reason : List ℕ) → (thread : ℕ) → Data
body_at position reason thread = object (member (codes "allThreadsStopped") (boolean true)
    (member (codes "description") (string (codes "position " ++ decimal position))
    (member (codes "reason") (string reason)
    (member (codes "threadId") (number (unsigned thread)) no_members))))

-- the same, with a text
abbrev pub saying_data : (shown reason : List ℕ) → (thread : ℕ) → (text : List ℕ) → Data
saying_data shown reason thread text = object (member (codes "allThreadsStopped") (boolean true)
    (member (codes "description") (string shown)
    (member (codes "reason") (string reason)
    (member (codes "text") (string text)
    (member (codes "threadId") (number (unsigned thread)) no_members)))))

-- how a position is called
abbrev pub position_words : ℕ → List ℕ
position_words position = codes "position " ++ decimal position

-- and what the text says: what the last pick came to, or why an arm does not go on
abbrev pub saying_at : (position : ℕ) → (reason : List ℕ) → (thread : ℕ) → (text : List ℕ) → Data
saying_at position reason thread text = saying_data (position_words position) reason thread (utf8_lossy text)

-- the result of a command of the session, with its text
abbrev pub result_data : List ℕ → Data
result_data text = object (member (codes "result") (string (utf8_lossy text))
    (member (codes "variablesReference") (number (unsigned 0)) no_members))
