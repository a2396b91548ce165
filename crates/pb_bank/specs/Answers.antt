-- What a desk answers to a command.
use Rattle.std.specs.Prelude.{◌≡◌, ℕ, zero, suc, ◌<◌, Bool, true, false, cond, nat_lt}
use Rattle.std.specs.Prelude.{List, [], ◌∷◌, ◌++◌, length, take, slice_index, slice_index_or, slice_set}
use Rattle.std.specs.Prelude.{Option, Some, None, Result, Ok, Err, replicate, ⊤}
use Rattle.pb_base.specs.declared.limits.TheConstants.{MAX_PROCESSES, MAX_RESOURCES}
use Rattle.pb_base.specs.declared.pair.Pair.{Pair}
use Rattle.pb_base.specs.Banker.{BankerState, processes, resources, capital, claim, loan, cash, remaining_claim}
use Rattle.pb_base.specs.Banker.{IsLeastFirst, with_loan, without_loan}
use Rattle.pb_base.specs.Lines.{each_below}
use Rattle.pb_banker.specs.declared.order.OrderSaid.{OrderSaid}
use Rattle.pb_banker.specs.declared.order.OrderSaid.TheVariants as order
use Rattle.pb_banker.specs.declared.reason.Joined.{Joined}
use Rattle.pb_banker.specs.declared.reason.Joined.TheVariants as joining
use Rattle.pb_banker.specs.declared.reason.Reason.{Reason}
use Rattle.pb_banker.specs.declared.reason.Reason.TheVariants.{Allowed, OverClaim, OverCash, Rest}
use Rattle.pb_banker.specs.Jobs.{BankValue, SaysWhy, SaysOfJoining, state_held, left}
use Rattle.pb_banker.specs.Orders.{SaysOfOrder}
use Rattle.pb_banker.specs.Value.{start_state}
use Rattle.pb_bank.specs.declared.kind.Kind.{Kind}
use Rattle.pb_bank.specs.declared.kind.Kind.TheVariants as kind
use Rattle.pb_bank.specs.declared.refusal.Refusal.{Refusal}
use Rattle.pb_bank.specs.declared.refusal.Refusal.TheVariants as refused
use Rattle.pb_bank.specs.declared.request.Request.{Request}
use Rattle.pb_bank.specs.declared.said.Said.{Said}
use Rattle.pb_bank.specs.declared.said.Said.TheVariants as told
use Rattle.pb_bank.specs.Desks.{DeskValue, NoneIsAllowed, place_of, job_of}
use Rattle.pb_bank.specs.Queues.{has_wish, without_wish, wishes_said, ServesQueue}
pub use Rattle.pb_bank.specs.Refusals.{Refuses, with_state, reason_said, IsReasonOf, OfRequest}
use Rattle.pb_bank.specs.Capitals.{AnswersCapital}
use Rattle.pb_bank.specs.Claims.{AnswersClaim}
use Rattle.pb_bank.specs.Requests.{pairs_of, request_of}
use Rattle.pb_bank.specs.Sayings.{Saying, sayings_of}
use Rattle.pb_bank.specs.Words.{words_of, kind_within, amount_of, is_name, trimmed}

-- ---- requests

-- what is said of a request that is granted: that it is held, or granted
abbrev pub grant_said : (held : Bool) → Request → Said
grant_said true w = told.Held w
grant_said false w = told.Granted w

-- a request that is allowed is granted, and it is said so; of another it is said why not, and nothing changes
abbrev pub Grants : (held : Bool) → DeskValue → Request → List Said → DeskValue → Type 0
Grants held d w said next =
    (reason : Reason) × SaysWhy d.bank.state w.job w.bundle reason
    × (said ≡ reason_said (grant_said held w) d.bank.state reason ∷ [])
    × (next ≡ with_state d (state_held d.bank.state w.job w.bundle reason))

-- a request for more; a job that has a wish in the queue asks for nothing else
abbrev pub if_free : DeskValue → Result Request Refusal → Result Request Refusal
if_free d (Err refusal) = Err refusal
if_free d (Ok w) = cond (has_wish d.wishes w.job) (Err refused.HasWish) (Ok w)

-- what words ask for
abbrev pub asked_of : DeskValue → List (List ℕ) → Result Request Refusal
asked_of d words = if_free d (request_of d words)

-- `ask`: a request is granted if it is allowed; of another it is said why not
abbrev pub AnswersAsk : DeskValue → List (List ℕ) → List Said → DeskValue → Type 0
AnswersAsk d words said next = OfRequest (Grants false d) (asked_of d words) d said next

-- `hold`: the same, said in another word
abbrev pub AnswersHold : DeskValue → List (List ℕ) → List Said → DeskValue → Type 0
AnswersHold d words said next = OfRequest (Grants true d) (asked_of d words) d said next

-- the desk whose queue has one wish more
abbrev pub with_wish : DeskValue → Request → DeskValue
with_wish d w = record d { wishes = d.wishes ++ w ∷ [] }

-- a wish is granted if it is allowed; one over the claim is told so; any other joins the queue
abbrev pub WantsFor : Reason → DeskValue → Request → List Said → DeskValue → Type 0
WantsFor Allowed d w said next =
    (said ≡ told.Granted w ∷ []) × (next ≡ with_state d (with_loan d.bank.state w.job w.bundle))
WantsFor (OverClaim r) d w said next = (said ≡ told.OverClaim r ∷ []) × (next ≡ d)
WantsFor (OverCash r) d w said next = (said ≡ told.Queued ∷ []) × (next ≡ with_wish d w)
WantsFor (Rest slots) d w said next = (said ≡ told.Queued ∷ []) × (next ≡ with_wish d w)

-- a wish, by the reason for which it is allowed or not
abbrev pub Wants : DeskValue → Request → List Said → DeskValue → Type 0
Wants d w said next = (reason : Reason) × SaysWhy d.bank.state w.job w.bundle reason × WantsFor reason d w said next

-- `want`: a request is granted, is told that it is over the claim, or joins the queue
abbrev pub AnswersWant : DeskValue → List (List ℕ) → List Said → DeskValue → Type 0
AnswersWant d words said next = OfRequest (Wants d) (asked_of d words) d said next

-- a wish is taken back, if the job has one
abbrev pub DropsWish : Bool → DeskValue → ℕ → List Said → DeskValue → Type 0
DropsWish false d p said next = Refuses refused.NoWish d said next
DropsWish true d p said next = (said ≡ []) × (next ≡ record d { wishes = without_wish d.wishes p })

-- the wish of the job that has this slot is dropped, if the name is that of a job
abbrev pub AnswersDropping : DeskValue → Option ℕ → List Said → DeskValue → Type 0
AnswersDropping d None said next = Refuses (refused.NoJob 0) d said next
AnswersDropping d (Some p) said next = DropsWish (has_wish d.wishes p) d p said next

-- `drop`: a job takes back its wish
abbrev pub AnswersDrop : DeskValue → List (List ℕ) → List Said → DeskValue → Type 0
AnswersDrop d [] said next = Refuses refused.Command d said next
AnswersDrop d (job ∷ []) said next = AnswersDropping d (job_of d job) said next
AnswersDrop d (job ∷ other ∷ words) said next = Refuses refused.Command d said next

-- why a request would be granted or not; nothing changes
abbrev pub Explains : DeskValue → Request → List Said → DeskValue → Type 0
Explains d w said next =
    (reason : Reason) × SaysWhy d.bank.state w.job w.bundle reason
    × (said ≡ reason_said told.Allowed d.bank.state reason ∷ []) × (next ≡ d)

-- `why`: what would be said of a request
abbrev pub AnswersWhy : DeskValue → List (List ℕ) → List Said → DeskValue → Type 0
AnswersWhy d words said next = OfRequest (Explains d) (request_of d words) d said next

-- ---- coming back

-- the first resource of which the job does not hold as much, if there is one
abbrev pub unheld : BankerState → (p : ℕ) → List Pair → Option ℕ
unheld s p [] = None
unheld s p (pair ∷ pairs) = cond (nat_lt (loan s p pair.resource) pair.amount) (Some pair.resource) (unheld s p pairs)

-- what a job gives comes back, and the queue is served; or it does not hold as much of this resource, and is refused
abbrev pub GivesBack : Option ℕ → DeskValue → Request → List Said → DeskValue → Type 0
GivesBack None d w said next = ServesQueue (with_state d (without_loan d.bank.state w.job w.bundle)) said next
GivesBack (Some r) d w said next = Refuses (refused.NotHeld r) d said next

-- what a job holds comes back
abbrev pub Gives : DeskValue → Request → List Said → DeskValue → Type 0
Gives d w said next = GivesBack (unheld d.bank.state w.job w.bundle) d w said next

-- `give`: a job gives back some of what it holds
abbrev pub AnswersGive : DeskValue → List (List ℕ) → List Said → DeskValue → Type 0
AnswersGive d words said next = OfRequest (Gives d) (request_of d words) d said next

-- the desk that a job has left: all comes back, and its name is gone, and its wish
abbrev pub desk_left : DeskValue → ℕ → DeskValue
desk_left d p = record {
  bank = record { state = left d.bank.state p; used = slice_set d.bank.used p false };
  names = record d.names { processes = slice_set d.names.processes p [] };
  wishes = without_wish d.wishes p;
}

-- the job that has this slot leaves, if the name is that of a job
abbrev pub AnswersLeaving : DeskValue → Option ℕ → List Said → DeskValue → Type 0
AnswersLeaving d None said next = Refuses (refused.NoJob 0) d said next
AnswersLeaving d (Some p) said next = ServesQueue (desk_left d p) said next

-- `leave`: a job leaves the bank
abbrev pub AnswersLeave : DeskValue → List (List ℕ) → List Said → DeskValue → Type 0
AnswersLeave d [] said next = Refuses refused.Command d said next
AnswersLeave d (job ∷ []) said next = AnswersLeaving d (job_of d job) said next
AnswersLeave d (job ∷ other ∷ words) said next = Refuses refused.Command d said next

-- ---- resources and jobs

-- there is one
abbrev pub is_there : Option ℕ → Bool
is_there None = false
is_there (Some n) = true

-- why a resource of this name and amount is refused, if it is
abbrev pub resource_refusal : DeskValue → (name : List ℕ) → Option ℕ → Option Refusal
resource_refusal d name None = Some (refused.Amount 1)
resource_refusal d name (Some amount) =
    cond (is_name name) (
    cond (nat_lt 0 (processes d.bank.state)) (Some refused.Late) (
    cond (is_there (place_of d.names.resources name)) (Some refused.Taken) (
    cond (nat_lt (resources d.bank.state) MAX_RESOURCES) None (Some refused.Full))))
    (Some refused.Name)

-- the desk with one resource more, no jobs and no wishes
abbrev pub with_resource : DeskValue → (name : List ℕ) → (amount : ℕ) → DeskValue
with_resource d name amount = record {
  bank = record { state = start_state (d.bank.state.capital ++ amount ∷ []) []; used = replicate MAX_PROCESSES false };
  names = record d.names { resources = d.names.resources ++ name ∷ [] };
  wishes = [];
}

-- the resource is added, or refused for this reason
abbrev pub AddsResource : DeskValue → (name : List ℕ) → Option ℕ → Option Refusal → List Said → DeskValue → Type 0
AddsResource d name amount (Some refusal) said next = Refuses refusal d said next
AddsResource d name None None said next = ⊥
AddsResource d name (Some amount) None said next = (said ≡ []) × (next ≡ with_resource d name amount)

-- `resource`: its name, and how many there are
abbrev pub AnswersResource : DeskValue → List (List ℕ) → List Said → DeskValue → Type 0
AnswersResource d [] said next = Refuses refused.Command d said next
AnswersResource d (name ∷ []) said next = Refuses refused.Command d said next
AnswersResource d (name ∷ amount ∷ []) said next =
    AddsResource d name (amount_of amount) (resource_refusal d name (amount_of amount)) said next
AnswersResource d (name ∷ amount ∷ other ∷ words) said next = Refuses refused.Command d said next

-- a row with the amounts of pairs
abbrev pub with_amounts : List ℕ → List Pair → List ℕ
with_amounts row [] = row
with_amounts row (pair ∷ pairs) = with_amounts (slice_set row pair.resource pair.amount) pairs

-- the claims that pairs say, 0 of each resource that they do not name
abbrev pub claims_of : DeskValue → List Pair → List ℕ
claims_of d pairs = take (resources d.bank.state) (with_amounts (replicate MAX_RESOURCES 0) pairs)

-- the desk with another bank, in which a job of this name has the slot p
abbrev pub desk_joined : DeskValue → BankValue → ℕ → (name : List ℕ) → DeskValue
desk_joined d bank p name = record d { bank = bank; names = record d.names { processes = slice_set d.names.processes p name } }

-- a job of this name joins the bank, and the queue is served; or it is refused
abbrev pub Joins : DeskValue → (name : List ℕ) → Joined → BankValue → List Said → DeskValue → Type 0
Joins d name (joining.In p) bank said next = ServesQueue (desk_joined d bank p name) said next
Joins d name (joining.OverCapital r) bank said next = Refuses (refused.OverCapital r) d said next
Joins d name joining.Full bank said next = Refuses refused.Full d said next

-- a job with the claims that pairs say
abbrev pub JoinsWith : DeskValue → (name : List ℕ) → List Pair → List Said → DeskValue → Type 0
JoinsWith d name pairs said next =
    (joined : Joined) × (bank : BankValue) × SaysOfJoining d.bank (claims_of d pairs) joined bank
    × Joins d name joined bank said next

-- the job joins with these claims, or is refused
abbrev pub AddsJob : DeskValue → (name : List ℕ) → Result (List Pair) Refusal → List Said → DeskValue → Type 0
AddsJob d name (Err refusal) said next = Refuses refusal d said next
AddsJob d name (Ok pairs) said next = JoinsWith d name pairs said next

-- a job of a name that can be one and is not taken
abbrev pub job_for : DeskValue → (name : List ℕ) → Result (List Pair) Refusal → Result (List Pair) Refusal
job_for d name pairs =
    cond (is_name name) (cond (is_there (place_of d.names.processes name)) (Err refused.Taken) pairs) (Err refused.Name)

-- `job`: its name, and its claims
abbrev pub AnswersJob : DeskValue → List (List ℕ) → List Said → DeskValue → Type 0
AnswersJob d [] said next = Refuses refused.Command d said next
AnswersJob d (name ∷ words) said next =
    AddsJob d name (job_for d name (pairs_of d.names.resources words)) said next

-- ---- orders

-- the slot, if a job has it
abbrev pub slot_if_in : List Bool → ℕ → List ℕ
slot_if_in used p = cond (slice_index_or used p false) (p ∷ []) []

-- the slots of an order that jobs have
abbrev pub order_slots : List Bool → (order : List ℕ) → List ℕ
order_slots used order = each_below (λ k. slot_if_in used (slice_index order k)) (length order)

-- the order in which each next job is the first that fits
abbrev pub TellsOrder : DeskValue → List Said → DeskValue → Type 0
TellsOrder d said next =
    (order : List ℕ) × IsLeastFirst d.bank.state order
    × (said ≡ told.Order (order_slots d.bank.used order) ∷ []) × (next ≡ d)

-- with the slot of a job, if the word with this number names one
abbrev pub on_slot : (at : ℕ) → Option ℕ → (ℕ → Result (List ℕ) Refusal) → Result (List ℕ) Refusal
on_slot at None next = Err (refused.NoJob at)
on_slot at (Some p) next = next p

-- the slots of the jobs of these names, after others
abbrev pub slots_after : DeskValue → (slots : List ℕ) → List (List ℕ) → Result (List ℕ) Refusal
slots_after d slots [] = Ok slots
slots_after d slots (word ∷ words) = on_slot (length slots) (job_of d word) (λ p. slots_after d (slots ++ p ∷ []) words)

-- the slots of the jobs of these names
abbrev pub slots_of : DeskValue → List (List ℕ) → Result (List ℕ) Refusal
slots_of d words = slots_after d [] words

-- what is said of an order: all finish in it; or the job that comes twice; or the first that lacks a
-- resource when its turn comes, and which; or one that is not in it
abbrev pub finish_order_said : (slots : List ℕ) → OrderSaid → Said
finish_order_said slots order.Finishing = told.Finishes
finish_order_said slots (order.NoJob k) = told.Refused (refused.NoJob k)
finish_order_said slots (order.Twice k) = told.Twice (slice_index slots k)
finish_order_said slots (order.Lacks k r) = told.Lacks (slice_index slots k) r
finish_order_said slots (order.Missing p) = told.Missing p

-- the places that are named are there
abbrev pub IsAmong : (count : ℕ) → OrderSaid → Type 0
IsAmong count order.Finishing = ⊤
IsAmong count (order.NoJob k) = ⊤
IsAmong count (order.Twice k) = k < count
IsAmong count (order.Lacks k r) = k < count
IsAmong count (order.Missing p) = ⊤

-- whether all jobs finish in an order of slots, and why not
abbrev pub SaysWhether : DeskValue → (slots : List ℕ) → List Said → DeskValue → Type 0
SaysWhether d slots said next =
    (of : OrderSaid) × SaysOfOrder d.bank.state d.bank.used slots of × (said ≡ finish_order_said slots of ∷ []) × (next ≡ d)

-- so it is if each name is that of a job
abbrev pub ChecksOrder : DeskValue → Result (List ℕ) Refusal → List Said → DeskValue → Type 0
ChecksOrder d (Err refusal) said next = Refuses refusal d said next
ChecksOrder d (Ok slots) said next = SaysWhether d slots said next

-- of no words an order in which all finish; else what is said of the order that they name
abbrev pub AnswersOrder : DeskValue → List (List ℕ) → List Said → DeskValue → Type 0
AnswersOrder d [] said next = TellsOrder d said next
AnswersOrder d (word ∷ words) said next = ChecksOrder d (slots_of d (word ∷ words)) said next

-- ---- the state

-- how much there is of a resource, and how much of it is not lent
abbrev pub stock_said : BankerState → ℕ → Said
stock_said s r = told.Resource (record { resource = r; capital = capital s r; cash = cash s r })

-- what a job claims of a resource, what it holds, and what it may still ask for
abbrev pub share_said : BankerState → ℕ → ℕ → Said
share_said s p r = told.Job (record {
  job = p;
  resource = r;
  claim = claim s p r;
  holds = loan s p r;
  needs = remaining_claim s p r;
})

-- what is said of each number below n, one after another
abbrev pub all_said_below : (ℕ → List Said) → ℕ → List Said
all_said_below said zero = []
all_said_below said (suc n) = all_said_below said n ++ said n

-- the shares of a job, one for each resource
abbrev pub job_said : BankValue → ℕ → List Said
job_said b p = cond (slice_index_or b.used p false) (all_said_below (λ r. share_said b.state p r ∷ []) (resources b.state)) []

-- the stock of each resource, and then the shares of each job, in the order of the slots
abbrev pub state_said : BankValue → List Said
state_said b = all_said_below (λ r. stock_said b.state r ∷ []) (resources b.state) ++ all_said_below (job_said b) (processes b.state)

-- a command of one word
abbrev pub AnswersAlone : List Said → DeskValue → List (List ℕ) → List Said → DeskValue → Type 0
AnswersAlone all d [] said next = (said ≡ all) × (next ≡ d)
AnswersAlone all d (word ∷ words) said next = Refuses refused.Command d said next

-- ---- lines

-- what is said of a command of this kind with these words after it
abbrev pub AnswersKind : Kind → DeskValue → List (List ℕ) → List Said → DeskValue → Type 0
AnswersKind kind.Skip d words said next = Refuses refused.Command d said next
AnswersKind kind.Resource d words said next = AnswersResource d words said next
AnswersKind kind.Capital d words said next = AnswersCapital d words said next
AnswersKind kind.Claim d words said next = AnswersClaim d words said next
AnswersKind kind.Job d words said next = AnswersJob d words said next
AnswersKind kind.Ask d words said next = AnswersAsk d words said next
AnswersKind kind.Want d words said next = AnswersWant d words said next
AnswersKind kind.Drop d words said next = AnswersDrop d words said next
AnswersKind kind.Give d words said next = AnswersGive d words said next
AnswersKind kind.Leave d words said next = AnswersLeave d words said next
AnswersKind kind.Hold d words said next = AnswersHold d words said next
AnswersKind kind.Why d words said next = AnswersWhy d words said next
AnswersKind kind.Order d words said next = AnswersOrder d words said next
AnswersKind kind.State d words said next = AnswersAlone (state_said d.bank ++ wishes_said d.wishes) d words said next
AnswersKind kind.Help d words said next = AnswersAlone (told.Help ∷ []) d words said next
AnswersKind kind.Other d words said next = Refuses refused.Command d said next

-- nothing is said of an empty line or a comment; the answer to any other line ends with `ready`. The names are those that
-- jobs and resources have after the command
abbrev pub AnswersWords : Kind → DeskValue → List (List ℕ) → List Saying → DeskValue → Type 0
AnswersWords kind.Skip d words said next = (said ≡ []) × (next ≡ d)
AnswersWords k d words said next =
    (all : List Said) × AnswersKind k d words all next × (said ≡ sayings_of next.names words (all ++ told.Ready ∷ []))

-- the first word of a text, which is empty if there is none, and the words after it
abbrev pub first_of : List (List ℕ) → List ℕ
first_of [] = []
first_of (word ∷ words) = word

abbrev pub rest_of : List (List ℕ) → List (List ℕ)
rest_of [] = []
rest_of (word ∷ words) = words

-- the words after the command of a line
abbrev pub line_words : List ℕ → List (List ℕ)
line_words line = rest_of (words_of (trimmed line))

-- the most bytes of a command, from the first that is no blank
abbrev pub most : ℕ
most = 4096

-- what is answered to a line, without its line feed and without the blanks that it begins with
abbrev pub AnswersText : DeskValue → List ℕ → List Saying → DeskValue → Type 0
AnswersText d text said next =
    AnswersWords (kind_within (nat_lt most (length text)) (first_of (words_of text))) d (rest_of (words_of text)) said next

-- a line is answered, and after it no wish of the queue is allowed
unfoldable pub AnswersLine : DeskValue → List ℕ → List Saying → DeskValue → Type 0
AnswersLine d line' said next =
    AnswersText d (trimmed line') said next × NoneIsAllowed next.bank.state next.wishes
