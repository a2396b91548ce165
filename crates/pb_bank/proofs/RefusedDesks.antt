-- What is answered to lines that are refused.
use Rattle.std.proofs.Common.{◌≡◌, ◌⊎◌, inl, inr, ℕ, ◌++◌, Bool, true, false, List, [], ◌∷◌, Option, Some, None, Result, Ok, Err}
use Rattle.std.proofs.Common.{get_or, refl, sym, ap, ◌∙◌}
use Rattle.pb_base.specs.declared.pair.Pair.{Pair}
use Rattle.pb_base.specs.Banker.{BankerState}
use Rattle.pb_base.specs.Lines.{NameTable}
use Rattle.pb_banker.specs.Jobs.{BankValue, state_held}
use Rattle.pb_banker.specs.declared.reason.CapitalSaid.{CapitalSaid}
use Rattle.pb_banker.specs.declared.reason.CapitalSaid.TheVariants as capital
use Rattle.pb_banker.specs.declared.reason.ClaimSaid.{ClaimSaid}
use Rattle.pb_banker.specs.declared.reason.ClaimSaid.TheVariants as claim
use Rattle.pb_banker.specs.declared.reason.Joined.{Joined}
use Rattle.pb_banker.specs.declared.reason.Joined.TheVariants as joining
use Rattle.pb_banker.specs.declared.reason.Reason.{Reason}
use Rattle.pb_banker.specs.declared.reason.Reason.TheVariants.{Allowed, OverClaim, OverCash, Rest}
use Rattle.pb_bank.specs.Answers.{AddsJob, AddsResource, AnswersDrop, AnswersDropping, AnswersJob, AnswersLeave, AnswersLeaving, AnswersLine}
use Rattle.pb_bank.specs.Answers.{AnswersResource, AnswersWords, DropsWish, Gives, GivesBack, Grants, Joins, OfRequest, Wants, WantsFor}
use Rattle.pb_bank.specs.Answers.{asked_of, grant_said, job_for, resource_refusal, rest_of, unheld}
use Rattle.pb_bank.specs.Capitals.{AnswersCapital, AnswersSetting, ChangesCapital}
use Rattle.pb_bank.specs.Claims.{ChangesClaim, SetsClaim, SetsClaims, claim_refusal}
use Rattle.pb_bank.specs.Desks.{DeskValue, job_of, place_of}
use Rattle.pb_bank.specs.Queues.{Serves, ServesQueue, grants, has_wish, nothing, waits}
use Rattle.pb_bank.specs.Reading.{SaysRefused, RefusedChangesNothing, line_kind}
use Rattle.pb_bank.specs.Refusals.{reason_said, with_state}
use Rattle.pb_bank.specs.Requests.{pairs_of, request_of}
use Rattle.pb_bank.specs.Sayings.{Saying, sayings_of}
use Rattle.pb_bank.specs.Words.{amount_of, trimmed, words_of}
use Rattle.pb_bank.specs.declared.kind.Kind.{Kind}
use Rattle.pb_bank.specs.declared.kind.Kind.TheVariants as kind
use Rattle.pb_bank.specs.declared.refusal.Refusal.{Refusal}
use Rattle.pb_bank.specs.declared.request.Request.{Request}
use Rattle.pb_bank.specs.declared.said.Said.{Said}
use Rattle.pb_bank.specs.declared.said.Said.TheVariants as told
use Rattle.pb_bank.proofs.ReadingDesks.{asked}

-- ---- first things

never : true ≡ false → ⊥
never e = absurd cc

abbrev is_refusal : Said → Bool
is_refusal (told.Refused refusal) = true
is_refusal _ = false

-- the first of these is a refusal
abbrev IsRefused : List Said → Type 0
IsRefused all = (refusal : Refusal) × (rest : List Said) × (all ≡ told.Refused refusal ∷ rest)

head_refused : (all : List Said) (other : Said) → IsRefused all → is_refusal (get_or all 0 other) ≡ true
head_refused all other (refusal, rest, is) = ap (λ (l : List Said). is_refusal (get_or l 0 other)) is

-- so it is without the names
plain : (names : NameTable) (words : List (List ℕ)) (all : List Said) → SaysRefused (sayings_of names words all) → IsRefused all
plain names words [] (n, about, refusal, rest, is) = absurd cc
plain names words (one ∷ all) (n, about, refusal, rest, is) = (
  refusal,
  all,
  ap (λ (l : List Saying). (get_or l 0 (record { names = names; about = []; said = one })).said ∷ all) is,
)

-- nothing but `ready` is said
not_ready : (said : List Said) → said ≡ [] → IsRefused (said ++ told.Ready ∷ []) → ⊥
not_ready said is refused =
    never (sym (head_refused (said ++ told.Ready ∷ []) told.Ready refused)
    ∙ ap (λ (l : List Said). is_refusal (get_or (l ++ told.Ready ∷ []) 0 told.Ready)) is)

-- what is said begins with another thing
not_other : (said : List Said) (one : Said) (rest : List Said) → said ≡ one ∷ rest → is_refusal one ≡ false
    → IsRefused (said ++ told.Ready ∷ []) → ⊥
not_other said one rest is other refused =
    never (sym (head_refused (said ++ told.Ready ∷ []) told.Ready refused)
    ∙ (ap (λ (l : List Said). is_refusal (get_or (l ++ told.Ready ∷ []) 0 told.Ready)) is ∙ other))

-- ---- the queue

-- nothing is said of the queue, or first that a request is granted
served : (s : BankerState) (queue : List Request) (said : List Said) (waiting : List Request) (next : BankerState)
    → Serves s queue said waiting next → (said ≡ []) ⊎ ((w : Request) × (rest : List Said) × (said ≡ told.Granted w ∷ rest))
served s queue said waiting next nothing = inl refl
served s whole said' waiting' next' (grants queue said waiting mid w before allowed) =
    elim (served s queue said waiting mid before) [
      | inl none ↦ inr (w, [], ap (λ (t : List Said). t ++ told.Granted w ∷ []) none)
      | inr some ↦ inr (some.0, some.1 ++ told.Granted w ∷ [], ap (λ (t : List Said). t ++ told.Granted w ∷ []) some.2)
    ]
served s whole said' waiting' next' (waits queue said waiting mid w before refused) = served s queue said waiting mid before

not_served : (d : DeskValue) (said : List Said) (next : DeskValue) → ServesQueue d said next → IsRefused (said ++ told.Ready ∷ []) → ⊥
not_served d said next serves refused =
    elim (served d.bank.state d.wishes said serves.0 serves.1 serves.2) [
      | inl none ↦ not_ready said none refused
      | inr some ↦ not_other said (told.Granted some.0) some.1 some.2 refl refused
    ]

-- ---- commands

-- what is said of a request is refused
of_request : (Says : Request → List Said → DeskValue → Type 0) (r : Result Request Refusal) (d : DeskValue)
    (said : List Said) (next : DeskValue) → OfRequest Says r d said next → ((w : Request) → Says w said next → next ≡ d) → next ≡ d
of_request Says (Err refusal) d said next says each = says.1
of_request Says (Ok w) d said next says each = each w says

-- a request that is granted is not refused
granted_by : (reason : Reason) (held : Bool) (d : DeskValue) (w : Request) (said : List Said) (next : DeskValue)
    → said ≡ reason_said (grant_said held w) d.bank.state reason ∷ []
    → next ≡ with_state d (state_held d.bank.state w.job w.bundle reason) → IsRefused (said ++ told.Ready ∷ []) → next ≡ d
granted_by Allowed true d w said next is to refused = absurd (not_other said (told.Held w) [] is refl refused)
granted_by Allowed false d w said next is to refused = absurd (not_other said (told.Granted w) [] is refl refused)
granted_by (OverClaim r) held d w said next is to refused = to
granted_by (OverCash r) held d w said next is to refused = to
granted_by (Rest slots) held d w said next is to refused = to

granted : (held : Bool) (d : DeskValue) (w : Request) (said : List Said) (next : DeskValue) → Grants held d w said next
    → IsRefused (said ++ told.Ready ∷ []) → next ≡ d
granted held d w said next says refused = granted_by says.0 held d w said next says.2 says.3 refused

wanted : (reason : Reason) (d : DeskValue) (w : Request) (said : List Said) (next : DeskValue) → WantsFor reason d w said next
    → IsRefused (said ++ told.Ready ∷ []) → next ≡ d
wanted Allowed d w said next says refused = absurd (not_other said (told.Granted w) [] says.0 refl refused)
wanted (OverClaim r) d w said next says refused = says.1
wanted (OverCash r) d w said next says refused = absurd (not_other said told.Queued [] says.0 refl refused)
wanted (Rest slots) d w said next says refused = absurd (not_other said told.Queued [] says.0 refl refused)

given : (r : Option ℕ) (d : DeskValue) (w : Request) (said : List Said) (next : DeskValue) → GivesBack r d w said next
    → IsRefused (said ++ told.Ready ∷ []) → next ≡ d
given None d w said next says refused = absurd (not_served _ said next says refused)
given (Some r) d w said next says refused = says.1

dropped_if : (has : Bool) (d : DeskValue) (p : ℕ) (said : List Said) (next : DeskValue) → DropsWish has d p said next
    → IsRefused (said ++ told.Ready ∷ []) → next ≡ d
dropped_if false d p said next says refused = says.1
dropped_if true d p said next says refused = absurd (not_ready said says.0 refused)

dropped_by : (p : Option ℕ) (d : DeskValue) (said : List Said) (next : DeskValue) → AnswersDropping d p said next
    → IsRefused (said ++ told.Ready ∷ []) → next ≡ d
dropped_by None d said next says refused = says.1
dropped_by (Some p) d said next says refused = dropped_if (has_wish d.wishes p) d p said next says refused

dropped : (d : DeskValue) (words : List (List ℕ)) (said : List Said) (next : DeskValue) → AnswersDrop d words said next
    → IsRefused (said ++ told.Ready ∷ []) → next ≡ d
dropped d [] said next says refused = says.1
dropped d (job ∷ []) said next says refused = dropped_by (job_of d job) d said next says refused
dropped d (job ∷ other ∷ words) said next says refused = says.1

left_by : (p : Option ℕ) (d : DeskValue) (said : List Said) (next : DeskValue) → AnswersLeaving d p said next
    → IsRefused (said ++ told.Ready ∷ []) → next ≡ d
left_by None d said next says refused = says.1
left_by (Some p) d said next says refused = absurd (not_served _ said next says refused)

gone : (d : DeskValue) (words : List (List ℕ)) (said : List Said) (next : DeskValue) → AnswersLeave d words said next
    → IsRefused (said ++ told.Ready ∷ []) → next ≡ d
gone d [] said next says refused = says.1
gone d (job ∷ []) said next says refused = left_by (job_of d job) d said next says refused
gone d (job ∷ other ∷ words) said next says refused = says.1

-- ---- resources and jobs

added : (amount : Option ℕ) (r : Option Refusal) (d : DeskValue) (name : List ℕ) (said : List Said) (next : DeskValue)
    → AddsResource d name amount r said next → IsRefused (said ++ told.Ready ∷ []) → next ≡ d
added amount (Some refusal) d name said next says refused = says.1
added None None d name said next says refused = absurd says
added (Some amount) None d name said next says refused = absurd (not_ready said says.0 refused)

resource : (d : DeskValue) (words : List (List ℕ)) (said : List Said) (next : DeskValue) → AnswersResource d words said next
    → IsRefused (said ++ told.Ready ∷ []) → next ≡ d
resource d [] said next says refused = says.1
resource d (name ∷ []) said next says refused = says.1
resource d (name ∷ amount ∷ []) said next says refused =
    added (amount_of amount) (resource_refusal d name (amount_of amount)) d name said next says refused
resource d (name ∷ amount ∷ other ∷ words) said next says refused = says.1

joins : (of : Joined) (d : DeskValue) (name : List ℕ) (bank : BankValue) (said : List Said) (next : DeskValue)
    → Joins d name of bank said next → IsRefused (said ++ told.Ready ∷ []) → next ≡ d
joins (joining.In p) d name bank said next says refused = absurd (not_served _ said next says refused)
joins (joining.OverCapital r) d name bank said next says refused = says.1
joins joining.Full d name bank said next says refused = says.1

joined_with : (pairs : Result (List Pair) Refusal) (d : DeskValue) (name : List ℕ) (said : List Said) (next : DeskValue)
    → AddsJob d name pairs said next → IsRefused (said ++ told.Ready ∷ []) → next ≡ d
joined_with (Err refusal) d name said next says refused = says.1
joined_with (Ok pairs) d name said next says refused = joins says.0 d name says.1 said next says.3 refused

job : (d : DeskValue) (words : List (List ℕ)) (said : List Said) (next : DeskValue) → AnswersJob d words said next
    → IsRefused (said ++ told.Ready ∷ []) → next ≡ d
job d [] said next says refused = says.1
job d (name ∷ words) said next says refused =
    joined_with (job_for d name (pairs_of d.names.resources words)) d name said next says refused

-- ---- capital and claims

capital_changed : (of : CapitalSaid) (d : DeskValue) (r amount : ℕ) (said : List Said) (next : DeskValue) → ChangesCapital of d r amount said next
    → IsRefused (said ++ told.Ready ∷ []) → next ≡ d
capital_changed capital.Changed d r amount said next says refused = absurd (not_served _ said next says refused)
capital_changed (capital.Claimed slots) d r amount said next says refused = says.1
capital_changed capital.OverCash d r amount said next says refused = says.1
capital_changed (capital.Rest slots) d r amount said next says refused = says.1

capital_set : (r amount : Option ℕ) (d : DeskValue) (words : List (List ℕ)) (said : List Said) (next : DeskValue)
    → AnswersSetting d r amount said next → IsRefused (said ++ told.Ready ∷ []) → next ≡ d
capital_set None amount d words said next says refused = says.1
capital_set (Some r) None d words said next says refused = says.1
capital_set (Some r) (Some amount) d words said next says refused = capital_changed says.0 d r amount said next says.2 refused

capital_said : (d : DeskValue) (words : List (List ℕ)) (said : List Said) (next : DeskValue) → AnswersCapital d words said next
    → IsRefused (said ++ told.Ready ∷ []) → next ≡ d
capital_said d [] said next says refused = says.1
capital_said d (name ∷ []) said next says refused = says.1
capital_said d (name ∷ amount ∷ []) said next says refused =
    capital_set (place_of d.names.resources name) (amount_of amount) d (name ∷ amount ∷ []) said next says refused
capital_said d (name ∷ amount ∷ other ∷ words) said next says refused = says.1

claim_changed : (of : ClaimSaid) (d : DeskValue) (p : ℕ) (pair : Pair) (said : List Said) (next : DeskValue) → ChangesClaim of d p pair said next
    → IsRefused (said ++ told.Ready ∷ []) → next ≡ d
claim_changed claim.Changed d p pair said next says refused = absurd (not_served _ said next says refused)
claim_changed (claim.Rest slots) d p pair said next says refused = says.1

claim_set : (r : Option Refusal) (d : DeskValue) (p : ℕ) (pair : Pair) (said : List Said) (next : DeskValue) → SetsClaim r d p pair said next
    → IsRefused (said ++ told.Ready ∷ []) → next ≡ d
claim_set (Some refusal) d p pair said next says refused = says.1
claim_set None d p pair said next says refused = claim_changed says.0 d p pair said next says.2 refused

claims_set : (pairs : List Pair) (d : DeskValue) (p : ℕ) (said : List Said) (next : DeskValue) → SetsClaims d p pairs said next
    → IsRefused (said ++ told.Ready ∷ []) → next ≡ d
claims_set [] d p said next says refused = says.1
claims_set (pair ∷ []) d p said next says refused = claim_set (claim_refusal d p pair) d p pair said next says refused
claims_set (pair ∷ other ∷ pairs) d p said next says refused = says.1

-- ---- lines

refused_words : (k : Kind) (d : DeskValue) (words : List (List ℕ)) (said : List Saying) (next : DeskValue) → AnswersWords k d words said next
    → SaysRefused said → next ≡ d
refused_words kind.Skip d words said next says refused = says.1
refused_words kind.Resource d words said next says refused = resource d words says.0 next says.1 (plain next.names words (says.0 ++ told.Ready ∷ []) (rw says.2 at refused))
refused_words kind.Capital d words said next says refused = capital_said d words says.0 next says.1 (plain next.names words (says.0 ++ told.Ready ∷ []) (rw says.2 at refused))
refused_words kind.Claim d words said next says refused =
    of_request (λ w. SetsClaims d w.job w.bundle) (request_of d words) d says.0 next says.1
    (λ w h. claims_set w.bundle d w.job says.0 next h (plain next.names words (says.0 ++ told.Ready ∷ []) (rw says.2 at refused)))
refused_words kind.Job d words said next says refused = job d words says.0 next says.1 (plain next.names words (says.0 ++ told.Ready ∷ []) (rw says.2 at refused))
refused_words kind.Ask d words said next says refused =
    of_request (Grants false d) (asked_of d words) d says.0 next says.1
    (λ w h. granted false d w says.0 next h (plain next.names words (says.0 ++ told.Ready ∷ []) (rw says.2 at refused)))
refused_words kind.Want d words said next says refused =
    of_request (Wants d) (asked_of d words) d says.0 next says.1
    (λ w h. wanted h.0 d w says.0 next h.2 (plain next.names words (says.0 ++ told.Ready ∷ []) (rw says.2 at refused)))
refused_words kind.Drop d words said next says refused = dropped d words says.0 next says.1 (plain next.names words (says.0 ++ told.Ready ∷ []) (rw says.2 at refused))
refused_words kind.Give d words said next says refused =
    of_request (Gives d) (request_of d words) d says.0 next says.1
    (λ w h. given (unheld d.bank.state w.job w.bundle) d w says.0 next h (plain next.names words (says.0 ++ told.Ready ∷ []) (rw says.2 at refused)))
refused_words kind.Leave d words said next says refused = gone d words says.0 next says.1 (plain next.names words (says.0 ++ told.Ready ∷ []) (rw says.2 at refused))
refused_words kind.Hold d words said next says refused =
    of_request (Grants true d) (asked_of d words) d says.0 next says.1
    (λ w h. granted true d w says.0 next h (plain next.names words (says.0 ++ told.Ready ∷ []) (rw says.2 at refused)))
refused_words kind.Why d words said next says refused = asked kind.Why d words said next refl says
refused_words kind.Order d words said next says refused = asked kind.Order d words said next refl says
refused_words kind.State d words said next says refused = asked kind.State d words said next refl says
refused_words kind.Help d words said next says refused = asked kind.Help d words said next refl says
refused_words kind.Other d words said next says refused = says.1.1

pub refused_changes_nothing : RefusedChangesNothing
unfolding AnswersLine
refused_changes_nothing d line said next says refused = refused_words (line_kind line) d (rest_of (words_of (trimmed line))) said next says.0 refused
