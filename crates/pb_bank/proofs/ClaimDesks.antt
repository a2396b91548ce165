-- Desks whose bank changes the claim of a job, and the amounts of a wish.
use Rattle.std.proofs.Common.{◌≡◌, ◌++◌, ℕ, suc, ◌+◌, ◌<◌, eqb, Bool, cond, List, [], ◌∷◌, length, drop, get_or, set, slice_get, Some, All}
use Rattle.std.proofs.Common.{refl, sym, ap, ◌∙◌, subst, arith}
use Rattle.std.proofs.Math.Seq.{drop-cons}
use Rattle.std.proofs.lemmas.List.{length-set}
use Rattle.std.proofs.lemmas.Option.{get_or_from_slice_get}
use Rattle.pb_base.specs.declared.pair.Pair.{Pair}
use Rattle.pb_base.specs.Banker.{BankerState, processes, resources, row_of}
use Rattle.pb_base.specs.Lines.{NameTable}
use Rattle.pb_banker.specs.Claims.{SaysOfClaim, with_claim}
use Rattle.pb_banker.specs.Jobs.{BankValue}
use Rattle.pb_banker.specs.declared.reason.ClaimSaid.TheVariants as claim
use Rattle.pb_bank.specs.declared.request.Request.{Request}
use Rattle.pb_bank.specs.declared.said.Said.{Said}
use Rattle.pb_bank.specs.declared.said.Said.TheVariants.{WaitRest}
use Rattle.pb_bank.specs.Claims.{AsksForClaim, SetsClaim, SetsClaims, amount_for, claim_refusal, wished}
use Rattle.pb_bank.specs.Desks.{DeskValue, IsRequestOf}
use Rattle.pb_bank.specs.Refusals.{Refuses, jobs_of}
use Rattle.pb_bank.specs.declared.refusal.Refusal.TheVariants.{Command}
use Rattle.pb_bank.proofs.Waiting.{same_bank}

-- the amounts of a resource from a pair on
pub amount_next : (pairs : List Pair) (i r : ℕ) (pair : Pair) (b : Bool) → i < length pairs → slice_get pairs i ≡ Some pair
    → eqb pair.resource r ≡ b → amount_for (drop i pairs) r ≡ cond b pair.amount (amount_for (drop (i + 1) pairs) r)
amount_next pairs i r pair b lt here same =
    let n : suc i ≡ i + 1 = omega arith in
    let at : get_or pairs i pair ≡ pair = get_or_from_slice_get pairs i pair pair here in
    ap (λ (ps : List Pair). amount_for ps r) (drop-cons pairs i pair lt)
    ∙ (ap (λ (p : Pair). cond (eqb p.resource r) p.amount (amount_for (drop (suc i) pairs) r)) at
    ∙ (ap (λ t. cond t pair.amount (amount_for (drop (suc i) pairs) r)) same
    ∙ ap (λ k. cond b pair.amount (amount_for (drop k pairs) r)) n))

-- what a job waits for from a wish on
pub wished_next : (wishes : List Request) (i job r : ℕ) (w : Request) (b : Bool) → i < length wishes → w ≡ get_or wishes i w
    → eqb w.job job ≡ b → wished (drop i wishes) job r ≡ cond b (amount_for w.bundle r) (wished (drop (i + 1) wishes) job r)
wished_next wishes i job r w b lt here same =
    let n : suc i ≡ i + 1 = omega arith in
    let at : get_or wishes i w ≡ w = sym here in
    ap (λ (ws : List Request). wished ws job r) (drop-cons wishes i w lt)
    ∙ (ap (λ (v : Request). cond (eqb v.job job) (amount_for v.bundle r) (wished (drop (suc i) wishes) job r)) at
    ∙ (ap (λ t. cond t (amount_for w.bundle r) (wished (drop (suc i) wishes) job r)) same
    ∙ ap (λ k. cond b (amount_for w.bundle r) (wished (drop k wishes) job r)) n))

-- the requests of a bank are those of one with another claim
pub requests_claimed : (b next : BankValue) (p r amount : ℕ) (wishes : List Request) → next.state ≡ with_claim b.state p r amount
    → All (IsRequestOf b) wishes → All (IsRequestOf next) wishes
requests_claimed b next p r amount wishes same all =
    λ k d u.
    let w : Request = get_or wishes k d in
    let is : IsRequestOf b w = all k d u in
    let many : length (set b.state.claims p (set (row_of b.state.claims p) r amount)) ≡ length b.state.claims =
    length-set b.state.claims p (set (row_of b.state.claims p) r amount) in
    record {
      job =
          subst (λ (s : BankerState). w.job < processes s) (sym same)
          (subst (λ (n : ℕ). w.job < n) (sym many) is.job);
      below = subst (λ (s : BankerState). All (λ pair. pair.resource < resources s) w.bundle) (sym same) is.below;
      distinct = is.distinct;
    }

-- the jobs that could not finish are told
pub told_rest : (d : DeskValue) (b next : BankValue) (names : NameTable) (wishes : List Request) (job : ℕ) (pair : Pair) (slots : List Bool)
    (out after : List Said) → record { bank = b; names = names; wishes = wishes } ≡ d
    → SaysOfClaim b.state job pair.resource pair.amount (claim.Rest slots)
    → next.state ≡ b.state → next.used ≡ b.used → after ≡ out ++ WaitRest (jobs_of next.state slots) ∷ []
    → (said : List Said) × AsksForClaim d job pair said (record { bank = next; names = names; wishes = wishes }) × (after ≡ out ++ said)
told_rest d b next names wishes job pair slots out after view says state used is =
    let there : DeskValue = record { bank = next; names = names; wishes = wishes } in
    subst (λ (e : DeskValue). (said : List Said) × AsksForClaim e job pair said there × (after ≡ out ++ said)) view (
      WaitRest (jobs_of b.state slots) ∷ [],
      (
        claim.Rest slots,
        says,
        (refl, ap (λ (c : BankValue). record { bank = c; names = names; wishes = wishes }) (same_bank b next state used)),
      ),
      is ∙ ap (λ (s : BankerState). out ++ WaitRest (jobs_of s slots) ∷ []) state,
    )

-- ---- the pairs of a claim

-- there is just one
pub claims_one : (d : DeskValue) (p : ℕ) (pairs : List Pair) (pair : Pair) (said : List Said) (next : DeskValue) → length pairs ≡ 1
    → slice_get pairs 0 ≡ Some pair → SetsClaim (claim_refusal d p pair) d p pair said next → SetsClaims d p pairs said next
claims_one d p [] pair said next one here says = absurd (omega (arith, one))
claims_one d p (x ∷ []) pair said next one here says =
    let same : x ≡ pair = get_or_from_slice_get (x ∷ []) 0 pair pair here in
    subst (λ (q : Pair). SetsClaim (claim_refusal d p q) d p q said next) (sym same) says
claims_one d p (x ∷ y ∷ pairs) pair said next one here says = absurd (omega (arith, one))

-- there are none, or several
pub claims_others : (d : DeskValue) (p : ℕ) (pairs : List Pair) (said : List Said) (next : DeskValue) → (length pairs ≡ 1 → ⊥)
    → Refuses Command d said next → SetsClaims d p pairs said next
claims_others d p [] said next others says = says
claims_others d p (x ∷ []) said next others says = absurd (others refl)
claims_others d p (x ∷ y ∷ pairs) said next others says = says
