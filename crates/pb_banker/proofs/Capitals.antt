-- A state with another capital of one resource, and the tables that hold it.
use Rattle.std.proofs.Common.{◌≡◌, ◌≢◌, ℕ, ◌+◌, ◌-◌, ◌<◌, ◌≤◌, List, length, get_or, set, take, arith}
use Rattle.std.proofs.Common.{sym, ap, subst, ◌∙◌, refl, inl, inr, [], ◌∷◌}
use Rattle.std.specs.Prelude.{All}
use Rattle.std.proofs.lemmas.Bool.{cases_eq}
use Rattle.std.proofs.lemmas.List.{length-set, get_or-set_same, get_or-set_other, get_or-take}
use Rattle.std.proofs.Math.Seq.{take-set-lt}
use Rattle.pb_base.specs.declared.pair.Pair.{Pair}
use Rattle.pb_base.specs.Bundle.{IsDistinct}
use Rattle.pb_base.specs.Banker.{BankerState, capital, claim, processes, resources, everyone, held_by, cash, with_loan}
use Rattle.pb_base.specs.Banker.{IsWellFormed, IsAllowed, Finishes}
use Rattle.pb_base.proofs.Tails.{EachTail}
use Rattle.pb_base.proofs.LoanRows.{amount_in-le}
use Rattle.pb_base.proofs.Safety.{IsLent, FitsBefore, Finishes-tails, Finishes-from_tails}
use Rattle.pb_banker.specs.declared.accounts.Accounts.{Accounts}
use Rattle.pb_banker.specs.Accounts.{state_of, IsSound}
use Rattle.pb_banker.specs.Askers.{IsCovered}
use Rattle.pb_banker.specs.declared.reason.CapitalSaid.{CapitalSaid}
use Rattle.pb_banker.specs.declared.reason.CapitalSaid.TheVariants.{Changed, Claimed, OverCash, Rest}
use Rattle.pb_banker.specs.Changes.{with_capital, state_changed, AreClaimsWithin, AreLoansWithin, MoreCapitalStaysSafe, MoreCapitalAllowsMore, MoreCapitalIsAllowed}
use Rattle.pb_banker.proofs.AskerLaws.{lent_with}
use Rattle.pb_banker.proofs.TableCells.{processes_of, resources_of}

-- ---- the state

pub resources-with : (s : BankerState) (r amount : ℕ) → resources (with_capital s r amount) ≡ resources s
resources-with s r amount = length-set s.capital r amount

pub capital-with : (s : BankerState) (r amount : ℕ) → r < resources s → capital (with_capital s r amount) r ≡ amount
capital-with s r amount l = get_or-set_same s.capital r amount 0 l

pub capital-with_other : (s : BankerState) (r amount q : ℕ) → q ≢ r → capital (with_capital s r amount) q ≡ capital s q
capital-with_other s r amount q ne = get_or-set_other s.capital r q amount 0 ne

-- what is at most the capital of each other resource, and at most the new one of r
within_new : (s : BankerState) (r amount q n : ℕ) → r < resources s → n ≤ capital s q → (q ≡ r → n ≤ amount)
    → n ≤ capital (with_capital s r amount) q
within_new s r amount q n l old new =
    elim (cases_eq q r) [
      | inl e ↦
          (let a = capital-with s r amount l in
          let b = new e in
          let c : capital (with_capital s r amount) q ≡ capital (with_capital s r amount) r = ap (λ (j : ℕ). capital (with_capital s r amount) j) e in
          let goal : n ≤ capital (with_capital s r amount) q = omega (arith, a, b, c) in
          goal)
      | inr ne ↦
          (let a = capital-with_other s r amount q ne in
          let goal : n ≤ capital (with_capital s r amount) q = omega (arith, a, old) in
          goal)
    ]

pub IsWellFormed-with_capital : (s : BankerState) (r amount : ℕ) → IsWellFormed s → r < resources s → amount ≤ 1000000
    → AreClaimsWithin s r amount → AreLoansWithin s r amount → IsWellFormed (with_capital s r amount)
IsWellFormed-with_capital s r amount good l small claims loans =
    let w = resources-with s r amount in
    let inside : (q : ℕ) → q < resources (with_capital s r amount) → q < resources s = λ q lq. omega (arith, w, lq) in
    record {
      few_processes = good.few_processes;
      few_resources = (let a = good.few_resources in omega (arith, a, w));
      all_loans = good.all_loans;
      claim_width = λ p lp. good.claim_width p lp ∙ sym w;
      loan_width = λ p lp. good.loan_width p lp ∙ sym w;
      small = λ q lq.
          elim (cases_eq q r) [
            | inl e ↦
                (let a = capital-with s r amount l in
                let c : capital (with_capital s r amount) q ≡ capital (with_capital s r amount) r = ap (λ (j : ℕ). capital (with_capital s r amount) j) e in
                let goal : capital (with_capital s r amount) q ≤ 1000000 = omega (arith, a, c, small) in
                goal)
            | inr ne ↦
                (let a = capital-with_other s r amount q ne in
                let b = good.small q (inside q lq) in
                let goal : capital (with_capital s r amount) q ≤ 1000000 = omega (arith, a, b) in
                goal)
          ];
      claims_fit = λ p q lp lq.
          within_new s r amount q (claim s p q) l (good.claims_fit p q lp (inside q lq))
          (λ e. subst (λ (j : ℕ). claim s p j ≤ amount) (sym e) (claims p lp));
      loans_fit = λ p q lp lq. good.loans_fit p q lp (inside q lq);
      lent = λ q lq.
          within_new s r amount q (held_by s (everyone s) q) l (good.lent q (inside q lq))
          (λ e. subst (λ (j : ℕ). held_by s (everyone s) j ≤ amount) (sym e) loans);
    }

-- a change of a capital, made or not, changes neither the claims nor the number of resources
pub changed_claims : (s : BankerState) (r amount : ℕ) (said : CapitalSaid) → (state_changed s r amount said).claims ≡ s.claims
changed_claims s r amount Changed = refl
changed_claims s r amount (Claimed slots) = refl
changed_claims s r amount OverCash = refl
changed_claims s r amount (Rest slots) = refl

pub changed_resources : (s : BankerState) (r amount : ℕ) (said : CapitalSaid) → resources (state_changed s r amount said) ≡ resources s
changed_resources s r amount Changed = resources-with s r amount
changed_resources s r amount (Claimed slots) = refl
changed_resources s r amount OverCash = refl
changed_resources s r amount (Rest slots) = refl

-- ---- laws

-- each fits before the same as it did
more_tails : (s : BankerState) (r amount : ℕ) → r < resources s → capital s r ≤ amount → (xs : List ℕ) → EachTail (FitsBefore s) xs
    → EachTail (FitsBefore (with_capital s r amount)) xs
more_tails s r amount l more [] h = tt
more_tails s r amount l more (x ∷ xs) h = (
  λ q lq.
      (let w = resources-with s r amount in
      let old : claim s x q + held_by s xs q ≤ capital s q = h.0 q (omega (arith, w, lq)) in
      within_new s r amount q (claim s x q + held_by s xs q) l old
      (λ e.
      let c : capital s q ≡ capital s r = ap (λ (j : ℕ). capital s j) e in
      omega (arith, old, c, more))),
  more_tails s r amount l more xs h.1,
)

more_lent : (s : BankerState) (r amount : ℕ) → r < resources s → capital s r ≤ amount → IsLent s → IsLent (with_capital s r amount)
more_lent s r amount l more lent q lq =
    let w = resources-with s r amount in
    let old : held_by s (everyone s) q ≤ capital s q = lent q (omega (arith, w, lq)) in
    within_new s r amount q (held_by s (everyone s) q) l old
    (λ e.
    let c : capital s q ≡ capital s r = ap (λ (j : ℕ). capital s j) e in
    omega (arith, old, c, more))

more_finishes : (s : BankerState) → IsLent s → (r amount : ℕ) → r < resources s → capital s r ≤ amount
    → (order : List ℕ) → Finishes s order → Finishes (with_capital s r amount) order
more_finishes s lent r amount l more order h =
    Finishes-from_tails (with_capital s r amount) order (more_lent s r amount l more lent) h.everyone
    (more_tails s r amount l more order (Finishes-tails s order lent h))

pub more_capital_stays_safe : MoreCapitalStaysSafe
more_capital_stays_safe s good r amount l more order h = more_finishes s good.lent r amount l more order h

-- the cash is no less
more_cash : (s : BankerState) (r amount q : ℕ) → r < resources s → capital s r ≤ amount → cash s q ≤ cash (with_capital s r amount) q
more_cash s r amount q l more =
    let c : capital s q ≤ capital (with_capital s r amount) q =
    within_new s r amount q (capital s q) l (omega arith)
    (λ e.
    let c : capital s q ≡ capital s r = ap (λ (j : ℕ). capital s j) e in
    omega (arith, c, more)) in
    omega (arith, c)

pub more_capital_allows_more : MoreCapitalAllowsMore
more_capital_allows_more s good r amount l more p pairs lp below distinct h =
    let lent : IsLent (with_loan s p pairs) =
    lent_with s p pairs good
    (record { process = lp; distinct = distinct; below = below; within_claim = h.within_claim; within_cash = h.within_cash }) in
    record {
      within_claim = h.within_claim;
      within_cash = λ k d i. (let a = h.within_cash k d i in let b = more_cash s r amount (get_or pairs k d).resource l more in omega (arith, a, b));
      safe = (h.safe.0, more_finishes (with_loan s p pairs) lent r amount l more h.safe.0 h.safe.1);
    }

pub more_capital_is_allowed : MoreCapitalIsAllowed
more_capital_is_allowed s good safe r amount l more =
    record {
      claims = λ p lp. (let a = good.claims_fit p r lp l in omega (arith, a, more));
      loans = (let a = good.lent r l in omega (arith, a, more));
      safe = (safe.0, more_finishes s good.lent r amount l more safe.0 safe.1);
    }

-- ---- the tables

abbrev pub with_money : Accounts → (r amount left : ℕ) → Accounts
with_money a r amount left = record a { capital = set a.capital r amount; cash = set a.cash r left }

pub state_of-with_money : (a : Accounts) (r amount left : ℕ) → r < a.resources
    → state_of (with_money a r amount left) ≡ with_capital (state_of a) r amount
state_of-with_money a r amount left l =
    ap (λ (t : List ℕ). record (state_of a) { capital = t }) (take-set-lt a.resources a.capital r amount l)

pub IsSound-with_money : (a : Accounts) → IsSound a → (r amount left : ℕ) → r < a.resources → a.resources ≤ length a.cash → amount ≤ 1000000
    → AreClaimsWithin (state_of a) r amount → AreLoansWithin (state_of a) r amount
    → left ≡ amount - held_by (state_of a) (everyone (state_of a)) r → IsSound (with_money a r amount left)
IsSound-with_money a h r amount left l wide small claims loans is =
    let er = resources_of a h in
    let lr : r < resources (state_of a) = omega (arith, er, l) in
    let same : with_capital (state_of a) r amount ≡ state_of (with_money a r amount left) = sym (state_of-with_money a r amount left l) in
    record {
      capital_width = (let e = length-set a.capital r amount in let b = h.capital_width in omega (arith, e, b));
      claims_length = h.claims_length;
      loans_length = h.loans_length;
      few = h.few;
      well_formed = subst IsWellFormed same (IsWellFormed-with_capital (state_of a) r amount h.well_formed lr small claims loans);
      cash = λ q lq.
          let v : cash (with_capital (state_of a) r amount) q ≡ cash (state_of (with_money a r amount left)) q =
          ap (λ (s : BankerState). cash s q) same in
          elim (cases_eq q r) [
            | inl e ↦
                (let x : get_or (set a.cash r left) r 0 ≡ left = get_or-set_same a.cash r left 0 (omega (arith, l, wide)) in
                let y = capital-with (state_of a) r amount lr in
                let z : cash (with_capital (state_of a) r amount) r ≡ left = omega (arith, y, is) in
                ap (λ (j : ℕ). get_or (set a.cash r left) j 0) e ∙ x ∙ sym z
                ∙ ap (λ (j : ℕ). cash (with_capital (state_of a) r amount) j) (sym e) ∙ v)
            | inr ne ↦
                (let x : get_or (set a.cash r left) q 0 ≡ get_or a.cash q 0 = get_or-set_other a.cash r q left 0 ne in
                let y = h.cash q lq in
                let z : cash (state_of a) q ≡ cash (with_capital (state_of a) r amount) q =
                ap (λ (c : ℕ). c - held_by (state_of a) (everyone (state_of a)) q) (sym (capital-with_other (state_of a) r amount q ne)) in
                x ∙ y ∙ z ∙ v)
          ];
    }

-- what is lent of r, by the tables
pub lent_of : (a : Accounts) → IsSound a → (r : ℕ) → r < a.resources
    → (get_or a.cash r 0 ≤ get_or a.capital r 0) × (get_or a.capital r 0 - get_or a.cash r 0 ≡ held_by (state_of a) (everyone (state_of a)) r)
lent_of a h r l =
    let e = resources_of a h in
    let c = h.cash r l in
    let m : capital (state_of a) r ≡ get_or a.capital r 0 = get_or-take a.resources a.capital r 0 l in
    let w = h.well_formed.lent r (omega (arith, e, l)) in
    (omega (arith, c, m), omega (arith, c, m, w))
