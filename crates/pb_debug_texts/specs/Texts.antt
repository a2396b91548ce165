-- The lines that a session answers, each with its line feed.
use Rattle.std.specs.Prelude.{ℕ, ℤ, pos, cond, List, ◌++◌, length, reverse, slice_index, slice_index_or}
use Rattle.std.specs.Prelude.{Option, Some, None, codes, All, ◌<◌, ⊤}
use Rattle.std.specs.Fmt.{decimal, signed_decimal}
use Rattle.pb_base.specs.Banker.{BankerState, processes, resources, claim, loan, cash}
use Rattle.pb_base.specs.declared.event.Event.{Event}
use Rattle.pb_base.specs.declared.pick.Pick.{Pick}
use Rattle.pb_base.specs.Lines.{NameTable, name_of, pick_text, line_of as event_line}
pub use Rattle.pb_base.specs.Lines.{line, each_below}
use Rattle.pb_code.specs.Code.{CodeProcess, Thread, Idle, Live, Ended, thread}
use Rattle.pb_debug_commands.specs.Lines.{line_numbered}
use Rattle.pb_debug_texts.specs.declared.why.Why.{Why}
use Rattle.pb_debug_texts.specs.declared.why.Why.TheVariants.{NotAsking, Cash, Order, Rest, Granted}
use Rattle.pb_machine.specs.Views.{operands_of_thread}

-- `at I`
abbrev pub at_text : ℕ → List ℕ
at_text i = line (codes "at " ++ decimal i)

-- `mark N`
abbrev pub mark_text : ℕ → List ℕ
mark_text n = line (codes "mark " ++ decimal n)

-- `at I LINE`, with the line of an event
abbrev pub event_text : NameTable → ℕ → Event → List ℕ
event_text names i event = line (codes "at " ++ decimal i ++ codes " " ++ event_line names event)

-- `no event`
abbrev pub no_event_text : List ℕ
no_event_text = line (codes "no event")

-- a line, or `none`
abbrev pub number_text : Option ℕ → List ℕ
number_text None = codes "none"
number_text (Some n) = decimal n

-- `at I P.a line N`: a pick, the position just after it, and the line at which its arm was before it
abbrev pub wrote_text : NameTable → ℕ → Pick → Option ℕ → List ℕ
wrote_text names i pick n =
    line (codes "at " ++ decimal i ++ codes " " ++ pick_text names pick ++ codes " line " ++ number_text n)

-- `never`
abbrev pub never_text : List ℕ
never_text = line (codes "never")

-- `not reached`
abbrev pub not_reached_text : List ℕ
not_reached_text = line (codes "not reached")

-- the commands
abbrev pub help_text : List ℕ
help_text =
    line (codes "to I") ++ line (codes "step N") ++ line (codes "back N") ++ line (codes "next") ++ line (codes "prev")
    ++ line (codes "vars P") ++ line (codes "wrote P X") ++ line (codes "until P.a N") ++ line (codes "threads P")
    ++ line (codes "fault P") ++ line (codes "loans") ++ line (codes "who R") ++ line (codes "circle")
    ++ line (codes "arms") ++ line (codes "line P.a") ++ line (codes "text P.a") ++ line (codes "does P.a") ++ line (codes "why P.a")
    ++ line (codes "stack P.a") ++ line (codes "pick P.a") ++ line (codes "mark N") ++ line (codes "help")

-- `NAME V`
abbrev pub var_text : List ℕ → ℤ → List ℕ
var_text name value = line (name ++ codes " " ++ signed_decimal value)

-- a line for each integer
abbrev pub vars_text : List (List ℕ) → List ℤ → List ℕ
vars_text names vars = each_below (λ x. var_text (name_of names x) (slice_index_or vars x (pos 0))) (length vars)

-- where an arm is
abbrev pub standing_text : Thread → List ℕ
standing_text Idle = codes " idle"
standing_text (Live place stack) = codes " at " ++ decimal place
standing_text Ended = codes " ended"

-- `A`, and where the arm is
abbrev pub thread_text : ℕ → Thread → List ℕ
thread_text a t = line (decimal a ++ standing_text t)

-- `faulted`, or a line for each arm
abbrev pub threads_text : CodeProcess → List ℕ
threads_text process =
    cond process.faulted (line (codes "faulted"))
    (each_below (λ a. thread_text a (thread process.threads a)) (length process.threads))

-- numbers, each after a space
abbrev pub values_text : List ℤ → List ℕ
values_text values = each_below (λ k. codes " " ++ signed_decimal (slice_index_or values k (pos 0))) (length values)

-- `stack V ..`: the operands of an arm, the last one on top; none of an arm that is not live
abbrev pub stack_text : Thread → List ℕ
stack_text t = line (codes "stack" ++ values_text (reverse (operands_of_thread t)))

-- `P holds K R claim C`
abbrev pub loan_text : NameTable → BankerState → ℕ → ℕ → List ℕ
loan_text names s p r = line (
    name_of names.processes p ++ codes " holds " ++ decimal (loan s p r) ++ codes " "
    ++ name_of names.resources r ++ codes " claim " ++ decimal (claim s p r))

-- a line for each resource
abbrev pub loans_of : NameTable → BankerState → ℕ → List ℕ
loans_of names s p = each_below (loan_text names s p) (resources s)

-- `cash K R`
abbrev pub cash_text : NameTable → ℕ → ℕ → List ℕ
cash_text names amount r = line (codes "cash " ++ decimal amount ++ codes " " ++ name_of names.resources r)

-- the loans of all processes, and then the cash of each resource
abbrev pub loans_text : NameTable → BankerState → List ℕ
loans_text names s =
    each_below (loans_of names s) (processes s) ++ each_below (λ r. cash_text names (cash s r) r) (resources s)

-- `line N`, `line none`
abbrev pub line_text : Option ℕ → List ℕ
line_text n = line (codes "line " ++ number_text n)

-- `no text`
abbrev pub no_text : List ℕ
no_text = line (codes "no text")

-- `N| TEXT`: a line of a source, if it has that line
abbrev pub numbered_text : ℕ → Option (List ℕ) → List ℕ
numbered_text n None = no_text
numbered_text n (Some text) = line (decimal n ++ codes "| " ++ text)

-- the line of a source with a number, if there is a source and a number
abbrev pub source_text : Option (List ℕ) → Option ℕ → List ℕ
source_text None n = no_text
source_text (Some source) None = line_text None
source_text (Some source) (Some n) = numbered_text n (line_numbered source n)

-- names, each after a space
abbrev pub names_text : NameTable → List ℕ → List ℕ
names_text names processes =
    each_below (λ k. codes " " ++ name_of names.processes (slice_index processes k)) (length processes)

-- the line of a reason
abbrev pub why_text : NameTable → Why → List ℕ
why_text names NotAsking = line (codes "not asking")
why_text names (Cash resource amount) = cash_text names amount resource
why_text names (Order order) = line (codes "order" ++ names_text names order.items)
why_text names (Rest rest) = line (codes "rest" ++ names_text names rest.items)
why_text names Granted = line (codes "granted")

-- all that a reason speaks of has a name
abbrev pub HasNamesOf : NameTable → Why → Type 0
HasNamesOf names NotAsking = ⊤
HasNamesOf names (Cash resource amount) = resource < length names.resources
HasNamesOf names (Order order) = All (λ p. p < length names.processes) order.items
HasNamesOf names (Rest rest) = All (λ p. p < length names.processes) rest.items
HasNamesOf names Granted = ⊤
