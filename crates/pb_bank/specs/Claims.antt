-- What a desk answers to another claim of a job.
use Rattle.std.specs.Prelude.{◌≡◌, ℕ, ◌+◌, ◌==◌, cond, nat_lt, List, [], ◌∷◌, Option, Some, None}
use Rattle.pb_base.specs.declared.pair.Pair.{Pair}
use Rattle.pb_base.specs.Banker.{capital, loan}
use Rattle.pb_banker.specs.declared.reason.ClaimSaid.{ClaimSaid}
use Rattle.pb_banker.specs.declared.reason.ClaimSaid.TheVariants as claim
use Rattle.pb_banker.specs.Claims.{SaysOfClaim, with_claim}
use Rattle.pb_bank.specs.declared.refusal.Refusal.{Refusal}
use Rattle.pb_bank.specs.declared.refusal.Refusal.TheVariants as refused
use Rattle.pb_bank.specs.declared.request.Request.{Request}
use Rattle.pb_bank.specs.declared.said.Said.{Said}
use Rattle.pb_bank.specs.declared.said.Said.TheVariants as told
use Rattle.pb_bank.specs.Desks.{DeskValue}
use Rattle.pb_bank.specs.Queues.{ServesQueue}
use Rattle.pb_bank.specs.Refusals.{Refuses, OfRequest, with_state, jobs_of}
use Rattle.pb_bank.specs.Requests.{request_of}

-- the amount of the first pair of this resource, 0 if there is none
abbrev pub amount_for : List Pair → ℕ → ℕ
amount_for [] r = 0
amount_for (pair ∷ pairs) r = cond (pair.resource == r) pair.amount (amount_for pairs r)

-- how much of a resource the wish of a job asks for, 0 if it has none
abbrev pub wished : List Request → (job r : ℕ) → ℕ
wished [] job r = 0
wished (w ∷ wishes) job r = cond (w.job == job) (amount_for w.bundle r) (wished wishes job r)

-- why a claim is refused, if it is: it is over the capital, or below what the job holds and its wish asks for
abbrev pub claim_refusal : DeskValue → (job : ℕ) → Pair → Option Refusal
claim_refusal d job pair =
    cond (nat_lt (capital d.bank.state pair.resource) pair.amount) (Some (refused.OverCapital pair.resource)) (
    cond (nat_lt pair.amount (loan d.bank.state job pair.resource + wished d.wishes job pair.resource))
    (Some (refused.InUse pair.resource)) None)

-- the claim is changed, and the queue is served; or the jobs that could not finish are told, and nothing changes
abbrev pub ChangesClaim : ClaimSaid → DeskValue → (job : ℕ) → Pair → List Said → DeskValue → Type 0
ChangesClaim claim.Changed d job pair said next =
    ServesQueue (with_state d (with_claim d.bank.state job pair.resource pair.amount)) said next
ChangesClaim (claim.Rest slots) d job pair said next = (said ≡ told.WaitRest (jobs_of d.bank.state slots) ∷ []) × (next ≡ d)

-- another claim that is in its range is asked for
abbrev pub AsksForClaim : DeskValue → (job : ℕ) → Pair → List Said → DeskValue → Type 0
AsksForClaim d job pair said next =
    (of : ClaimSaid) × SaysOfClaim d.bank.state job pair.resource pair.amount of × ChangesClaim of d job pair said next

-- another claim, if it is not refused for a reason
abbrev pub SetsClaim : Option Refusal → DeskValue → (job : ℕ) → Pair → List Said → DeskValue → Type 0
SetsClaim (Some refusal) d job pair said next = Refuses refusal d said next
SetsClaim None d job pair said next = AsksForClaim d job pair said next

-- a claim on one resource
abbrev pub SetsClaims : DeskValue → (job : ℕ) → List Pair → List Said → DeskValue → Type 0
SetsClaims d job [] said next = Refuses refused.Command d said next
SetsClaims d job (pair ∷ []) said next = SetsClaim (claim_refusal d job pair) d job pair said next
SetsClaims d job (pair ∷ other ∷ pairs) said next = Refuses refused.Command d said next

-- `claim`: a job, and what it claims of a resource now
abbrev pub AnswersClaim : DeskValue → List (List ℕ) → List Said → DeskValue → Type 0
AnswersClaim d words said next = OfRequest (λ w. SetsClaims d w.job w.bundle) (request_of d words) d said next
