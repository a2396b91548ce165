-- The state at a position of a run, as entries: what a debugger says there of each arm, each integer, the loans
-- and the order in which the banker can finish, and what each arm does next. An entry is a text of JSON.
use Rattle.std.specs.Prelude.{◌≡◌, ℕ, Bool, true, false, List, [], ◌∷◌, ◌++◌, codes, length, map, reverse, slice_index}
use Rattle.std.specs.Prelude.{slice_get, slice_index_or, Option, Some, None}
use Rattle.std.specs.Fmt.{decimal}
use Rattle.pb_base.specs.Banker.{BankerState, IsLeastFirst, loan, processes, resources}
use Rattle.pb_base.specs.Lines.{NameTable, each_below}
use Rattle.pb_base.specs.declared.lending.Lending.{Lending}
use Rattle.pb_base.specs.declared.lending.Lending.TheVariants.{ByBanker, ByCash}
use Rattle.pb_base.specs.Steppers.{Bundle, State, banker_state}
use Rattle.pb_code.specs.Code.{CodeProcess, ProcessCode, Thread, Idle, Live, Ended, thread}
use Rattle.pb_code.specs.Whole.{Code, ProcessLabels, bank_of}
use Rattle.pb_debug_texts.specs.Does.{next_words}
use Rattle.pb_debug_texts.specs.Reasons.{IsReasonBy}
use Rattle.pb_debug_texts.specs.declared.why.Why.{Why}
use Rattle.pb_debug_texts.specs.declared.why.Why.TheVariants.{NotAsking, Cash, Order, Rest, Granted}
use Rattle.pb_json.specs.Strings.{string_text}
use Rattle.pb_json.specs.Values.{integer_text, integers_text, list_text}
use Rattle.pb_machine.specs.Turns.{IsAtTake}
use Rattle.pb_machine.specs.Views.{operands_of_thread}
use Rattle.pb_page.specs.Parts.{parts_below, ArePartsBelow}

-- a process that is not there
abbrev pub no_process : CodeProcess
no_process = record { vars = []; threads = []; faulted = false }

-- the process with a number
abbrev pub process_at : State CodeProcess → ℕ → CodeProcess
process_at s p = slice_index_or s.processes p no_process

-- an arm of a process
abbrev pub thread_at : State CodeProcess → (p a : ℕ) → Thread
thread_at s p a = thread (process_at s p).threads a

-- what the banker knows in a state
abbrev pub bank_at : Code → State CodeProcess → BankerState
bank_at code s = banker_state (bank_of code) s.loans

-- ---- each arm

-- where an arm is: its place; -1 if it is idle, -2 if it has ended, -3 if its process has faulted
abbrev pub place_text : Bool → Thread → List ℕ
place_text true t = codes "-3"
place_text false Idle = codes "-1"
place_text false (Live place stack) = decimal place
place_text false Ended = codes "-2"

-- the operands of an arm, the last one on top
abbrev pub operands_text : Thread → List ℕ
operands_text t = integers_text (reverse (operands_of_thread t))

-- processes, each after a comma
abbrev pub numbers_text : List ℕ → List ℕ
numbers_text ps = each_below (λ k. codes "," ++ decimal (slice_index ps k)) (length ps)

-- the resource of which there is too little cash
abbrev pub cash_text : ℕ → List ℕ
cash_text resource = codes "[\"cash\"," ++ (decimal resource ++ codes "]")

-- why an arm does not go on, or may: 0 if it asks for nothing, 1 if it may have what it asks for; else
-- the first resource of which the cash is too little, or the processes that could not finish
abbrev pub why_text : Why → List ℕ
why_text NotAsking = codes "0"
why_text (Order order) = codes "1"
why_text Granted = codes "1"
why_text (Cash resource amount) = cash_text resource
why_text (Rest rest) = codes "[\"rest\"" ++ (numbers_text rest.items ++ codes "]")

-- why an arm of process p does not go on under this lending, or may: it is at no request; or the reason of its request
pub data IsWhyOf (lending : Lending) (code : Code) (s : State CodeProcess) (p : ℕ) (t : Thread) : Why → Type 0 where
  not_asking : ((of : ProcessCode) (bundle : Bundle) → slice_get code.processes p ≡ Some of → IsAtTake of t bundle → ⊥)
      → IsWhyOf lending code s p t NotAsking
  asking : (of : ProcessCode) (bundle : Bundle) (why : Why) → slice_get code.processes p ≡ Some of
      → IsAtTake of t bundle → IsReasonBy lending (bank_at code s) p bundle why → IsWhyOf lending code s p t why

-- the text of that
abbrev pub IsWhyText : Lending → Code → State CodeProcess → (p : ℕ) → Thread → List ℕ → Type 0
IsWhyText lending code s p t text = (why : Why) × IsWhyOf lending code s p t why × (text ≡ why_text why)

-- what an arm does by its next pick, in the words of `does` of a session, with the names of this process; no words
-- without them
abbrev pub labelled_words : NameTable → (p : ℕ) → Option ProcessLabels → ProcessCode → CodeProcess → (a : ℕ) → Why → List ℕ
labelled_words names p None of process a why = []
labelled_words names p (Some labels) of process a why = next_words names p labels of process a why

-- the words of arm a of a process in a state, as a string: what it does there by its next pick, and of a request that is
-- kept back also why; empty if it is not live
pub record IsWordsText (lending : Lending) (code : Code) (labels : List ProcessLabels) (s : State CodeProcess) (p : ℕ)
    (process : CodeProcess) (a : ℕ) (text : List ℕ) : Type 0 where
  pub of : ProcessCode
  pub there : slice_get code.processes p ≡ Some of
  pub why : Why
  pub is_why : IsWhyOf lending code s p (thread process.threads a) why
  pub written : text ≡ string_text (labelled_words code.names p (slice_get labels p) of process a why)

-- ---- the entries

-- where each arm of a process is
abbrev pub places_of : CodeProcess → List (List ℕ)
places_of process =
    parts_below (λ a. place_text process.faulted (thread process.threads a) ∷ []) (length process.threads)

-- the operands of each arm of a process
abbrev pub operands_of : CodeProcess → List (List ℕ)
operands_of process = parts_below (λ a. operands_text (thread process.threads a) ∷ []) (length process.threads)

-- the answer to `why` for each arm of a process
abbrev pub AreWhysOf : Lending → Code → State CodeProcess → (p : ℕ) → CodeProcess → List (List ℕ) → Type 0
AreWhysOf lending code s p process =
    ArePartsBelow (λ a part. (text : List ℕ) × IsWhyText lending code s p (thread process.threads a) text × (part ≡ text ∷ []))
    (length process.threads)

-- the words of each arm of a process
abbrev pub AreWordsOf : Lending → Code → List ProcessLabels → State CodeProcess → (p : ℕ) → CodeProcess → List (List ℕ) → Type 0
AreWordsOf lending code labels s p process =
    ArePartsBelow (λ a part. (text : List ℕ) × IsWordsText lending code labels s p process a text × (part ≡ text ∷ []))
    (length process.threads)

-- each integer of a process
abbrev pub integers_of : CodeProcess → List (List ℕ)
integers_of process = map integer_text process.vars

-- the loan of each resource of process p
abbrev pub loans_of : BankerState → ℕ → List (List ℕ)
loans_of bank p = parts_below (λ r. decimal (loan bank p r) ∷ []) (resources bank)

-- the order in which the banker can finish with all processes, least number first; none under the cash alone
abbrev pub IsOrderBy : Lending → BankerState → List ℕ → Type 0
IsOrderBy ByBanker bank order = IsLeastFirst bank order
IsOrderBy ByCash bank order = order ≡ []

-- the processes of an order, as a list
abbrev pub order_text : List ℕ → List ℕ
order_text order = list_text (λ k. decimal (slice_index order k)) (length order)

-- the entries of a state under this lending: of all arms, process by process, the places, then the operands,
-- then the reasons; the integers of each process; what each process holds of each resource; the order in which the
-- banker can finish; and the words of all arms
pub record IsStateBy (lending : Lending) (code : Code) (labels : List ProcessLabels) (s : State CodeProcess) (entries : List (List ℕ))
    : Type 0 where
  pub whys : List (List ℕ)
  pub order : List ℕ
  pub words : List (List ℕ)
  pub are_whys : ArePartsBelow (λ p part. AreWhysOf lending code s p (process_at s p) part) (length s.processes) whys
  pub is_order : IsOrderBy lending (bank_at code s) order
  pub are_words : ArePartsBelow (λ p part. AreWordsOf lending code labels s p (process_at s p) part) (length s.processes) words
  pub are : entries ≡
      (((((parts_below (λ p. places_of (process_at s p)) (length s.processes)
      ++ parts_below (λ p. operands_of (process_at s p)) (length s.processes))
      ++ whys)
      ++ parts_below (λ p. integers_of (process_at s p)) (length s.processes))
      ++ parts_below (loans_of (bank_at code s)) (processes (bank_at code s)))
      ++ order_text order ∷ [])
      ++ words
