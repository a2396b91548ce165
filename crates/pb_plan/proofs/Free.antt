-- A request of resources of which there is enough for all claims at once is allowed.
use Rattle.std.proofs.Common.{◌≡◌, ◌≢◌, ◌∙◌, ◌⊎◌, inl, inr, ℕ, suc, ◌+◌, ◌-◌, ◌<◌, ◌≤◌, cond, List, [], ◌∷◌, length}
use Rattle.std.proofs.Common.{get_or, drop, arith, sym, ap, refl, subst}
use Rattle.std.specs.Prelude.{All, nat_eq, sum_by}
use Rattle.std.proofs.lemmas.Bool.{cases_eq, eq-eqb, ne_eqb}
use Rattle.std.proofs.lemmas.Bool.Decides.{eqb_tells}
use Rattle.std.proofs.lemmas.List.Elements.{All-drop, All-head, All-tail}
use Rattle.std.proofs.lemmas.List.Sorted.{sum_by-IsPermutation}
use Rattle.pb_base.specs.declared.pair.Pair.{Pair}
use Rattle.pb_base.specs.Bundle.{IsDistinct, amount_in}
use Rattle.pb_base.specs.Banker.{BankerState, capital, cash, claim, loan, processes, resources, everyone, held_by}
use Rattle.pb_base.specs.Banker.{with_loan, IsWellFormed, IsWithinCash, IsWithinClaim, Finishes}
use Rattle.pb_base.proofs.BankerLaws.{loan-with_loan, loan-with_loan_other, order_below}
use Rattle.pb_base.proofs.Groups.{range_below, sum_by-le_on, sum_by-same_on, sum_by-one_other, times-range_one}
use Rattle.pb_base.proofs.LoanRows.{amount_in-cons, amount_in-le, amount_of_pair}
use Rattle.pb_base.proofs.Safety.{FitsBefore, IsLent, Finishes-from_tails, Finishes-tails}
use Rattle.pb_base.proofs.Tails.{EachTail-from_index, EachTail-index, sum_by_parts}
use Rattle.pb_plan.specs.Needs.{IsFree, free_capital}
use Rattle.pb_plan.specs.Waiting.{FreeRequestsAreAllowed}

-- what holds of each resource of a bundle holds of a resource, if the bundle has some of it
touched : (P : ℕ → Type 0) (pairs : List Pair) (r : ℕ) → All (λ pair. P pair.resource) pairs
    → (amount_in pairs r ≡ 0) ⊎ P r
touched P [] r h = inl (omega arith)
touched P (pair ∷ pairs) r h =
    let cons = amount_in-cons pair pairs r in
    elim (eqb_tells pair.resource r) [
      | inl e ↦ inr (subst P e.1 (All-head (λ (q : Pair). P q.resource) pair pairs h))
      | inr e ↦ elim (touched P pairs r (All-tail (λ (q : Pair). P q.resource) pair pairs h)) [
        | inl z ↦
            (let one : amount_of_pair r pair ≡ 0 = rw e.0 refl in
            inl (omega (arith, cons, one, z)))
        | inr y ↦ inr y
      ]
    ]

-- what p holds beside the whole claims of the others is no less than what all hold
instead : (f g : ℕ → ℕ) (p n : ℕ) → p < n → ((q : ℕ) → q < n → f q ≤ g q)
    → (xs : List ℕ) → All (λ q. q < n) xs
    → ((h : ℕ → ℕ) → ((q : ℕ) → q ≢ p → f q ≡ h q) → sum_by f xs + h p ≡ sum_by h xs + f p)
    → sum_by f xs + g p ≤ sum_by g xs + f p
instead f g p n within less xs below swap =
    let h : ℕ → ℕ = λ q. cond (nat_eq q p) (g p) (f q) in
    let here : h p ≡ g p = rw (eq-eqb p p refl) refl in
    let one = swap h (λ q ne. (let e : nat_eq q p ≡ nat_eq q p = refl in rw (ne_eqb q p ne) refl)) in
    let under : sum_by h xs ≤ sum_by g xs =
    sum_by-le_on h g xs
    (λ k d l. elim (cases_eq (get_or xs k d) p) [
      | inl e ↦ (let s : h (get_or xs k d) ≡ g p = ap h e ∙ here in let t : g (get_or xs k d) ≡ g p = ap g e in omega (arith, s, t))
      | inr ne ↦
          (let s : h (get_or xs k d) ≡ f (get_or xs k d) = rw (ne_eqb (get_or xs k d) p ne) refl in
          let t = less (get_or xs k d) (below k d l) in
          omega (arith, s, t))
    ]) in
    omega (arith, one, here, under)

-- there is cash for a request within the claim, if there is enough for all claims at once
pub room_for : (s : BankerState) (p r amount : ℕ) → p < processes s → ((q : ℕ) → q < processes s → loan s q r ≤ claim s q r)
    → loan s p r + amount ≤ claim s p r → IsFree s.claims s.capital r → amount ≤ cash s r
room_for s p r amount lp fits asks free =
    let below : All (λ q. q < processes s) (everyone s) =
    λ k d l. (let b = range_below 0 (processes s) k d l in omega (arith, b)) in
    let sums =
    instead (λ q. loan s q r) (λ q. claim s q r) p (processes s) lp fits (everyone s) below
    (λ h same. sum_by-one_other (λ q. loan s q r) h p same (everyone s) (times-range_one p 0 (processes s) (omega arith) (omega (arith, lp)))) in
    omega (arith, sums, asks, free)

module _ (s : BankerState) (p : ℕ) (pairs : List Pair) (good : IsWellFormed s) (lp : p < processes s)
    (distinct : IsDistinct pairs) (below : All (λ pair. pair.resource < resources s) pairs)
    (free : All (λ pair. IsFree s.claims s.capital pair.resource) pairs) (within : IsWithinClaim s p pairs) where
  abbrev after : BankerState
  after = with_loan s p pairs

  all_below : All (λ q. q < processes s) (everyone s)
  all_below k d l = (let b = range_below 0 (processes s) k d l in omega (arith, b))

  cash_enough : IsWithinCash s pairs
  cash_enough k d l =
      let r = (get_or pairs k d).resource in
      let lr = below k d l in
      room_for s p r (get_or pairs k d).amount lp (λ q lq. good.loans_fit q r lq lr) (within k d l) (free k d l)

  amounts : (r : ℕ) → amount_in pairs r ≤ claim s p r - loan s p r
  amounts r = amount_in-le pairs (λ r'. claim s p r' - loan s p r') r distinct (λ k d l. (let b = within k d l in omega (arith, b)))

  own : (r : ℕ) → loan after p r ≡ loan s p r + amount_in pairs r
  own r = loan-with_loan s p pairs r good lp below

  other : (q r : ℕ) → q ≢ p → loan after q r ≡ loan s q r
  other q r ne = loan-with_loan_other s p pairs q r ne

  -- no loan is over its claim
  fits : (q r : ℕ) → q < processes s → r < resources s → loan after q r ≤ claim s q r
  fits q r lq lr = elim (cases_eq q p) [
    | inl e ↦
        (let a = own r in
        let b = amounts r in
        let c = good.loans_fit p r lp lr in
        let here : loan after p r ≤ claim s p r = omega (arith, a, b, c) in
        subst (λ (k : ℕ). loan after k r ≤ claim s k r) (sym e) here)
    | inr ne ↦ (let a = other q r ne in let b = good.loans_fit q r lq lr in omega (arith, a, b))
  ]

  -- a resource of which nothing is asked is held as before
  same : (q r : ℕ) → amount_in pairs r ≡ 0 → loan after q r ≡ loan s q r
  same q r none = elim (cases_eq q p) [
    | inl e ↦
        (let a = own r in
        let here : loan after p r ≡ loan s p r = omega (arith, a, none) in
        subst (λ (k : ℕ). loan after k r ≡ loan s k r) (sym e) here)
    | inr ne ↦ other q r ne
  ]

  same_held : (xs : List ℕ) (r : ℕ) → amount_in pairs r ≡ 0 → held_by after xs r ≡ held_by s xs r
  same_held xs r none = sum_by-same_on (λ q. loan after q r) (λ q. loan s q r) xs (λ k d l. same (get_or xs k d) r none)

  within_claims : (xs : List ℕ) (r : ℕ) → All (λ q. q < processes s) xs → r < resources s
      → held_by after xs r ≤ sum_by (λ q. claim s q r) xs
  within_claims xs r inside lr =
      sum_by-le_on (λ q. loan after q r) (λ q. claim s q r) xs (λ k d l. fits (get_or xs k d) r (inside k d l) lr)

  still_lent : IsLent after
  still_lent r lr = elim (touched (IsFree s.claims s.capital) pairs r free) [
    | inl none ↦ (let a = same_held (everyone s) r none in let b = good.lent r lr in omega (arith, a, b))
    | inr enough ↦ (let a = within_claims (everyone s) r all_below lr in omega (arith, a, enough))
  ]

  still_fits : (order : List ℕ) → Finishes s order → (k : ℕ) → k < length order
      → FitsBefore after (get_or order k 0) (drop (suc k) order)
  still_fits order h k l r lr = elim (touched (IsFree s.claims s.capital) pairs r free) [
    | inl none ↦
        (let old : claim s (get_or order k 0) r + held_by s (drop (suc k) order) r ≤ capital s r =
        EachTail-index (FitsBefore s) order (Finishes-tails s order good.lent h) k l r lr in
        let a = same_held (drop (suc k) order) r none in
        omega (arith, old, a))
    | inr enough ↦
        (let parts = sum_by_parts (λ q. claim s q r) order k l in
        let whole : sum_by (λ q. claim s q r) order ≡ free_capital s.claims r =
        sum_by-IsPermutation (λ q. claim s q r) (everyone s) order h.everyone in
        let a = within_claims (drop (suc k) order) r
        (All-drop (λ q. q < processes s) (suc k) order (order_below s order h.everyone)) lr in
        omega (arith, parts, whole, a, enough))
  ]

  pub still_finishes : (order : List ℕ) → Finishes s order → Finishes after order
  still_finishes order h =
      Finishes-from_tails after order still_lent h.everyone
      (EachTail-from_index (FitsBefore after) order (still_fits order h))

pub free_allowed : FreeRequestsAreAllowed
free_allowed s p pairs good safe lp distinct below free within = record {
  within_claim = within;
  within_cash = cash_enough s p pairs good lp distinct below free within;
  safe = (safe.0, still_finishes s p pairs good lp distinct below free within safe.0 safe.1);
}
