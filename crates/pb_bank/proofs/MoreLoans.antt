-- With more loans no more is allowed.
use Rattle.std.proofs.Common.{◌≡◌, ⊎_elim, ℕ, ◌+◌, ◌-◌, ◌<◌, ◌≤◌, List, [], length, get_or, refl, sym, ap, ◌∙◌, subst, arith}
use Rattle.std.specs.Prelude.{All}
use Rattle.pb_base.specs.declared.pair.Pair.{Pair}
use Rattle.pb_base.specs.Bundle.{IsDistinct, amount_in, lend}
use Rattle.pb_base.specs.Banker.{BankerState, capital, claim, loan, processes, resources, everyone, held_by, cash}
use Rattle.pb_base.specs.Banker.{row_of, with_loan, IsAllowed, IsWellFormed, IsWithinClaim, IsWithinCash, HasFewerLoans}
use Rattle.pb_base.proofs.BankerLaws.{fewer_loans_stay_safe, loan-with_loan, loan-with_loan_other}
use Rattle.pb_base.proofs.Cases.{same_or_not}
use Rattle.pb_base.proofs.Groups.{range_below, sum_by-le_on}
use Rattle.pb_base.proofs.LoanRows.{amount_in-le, get_or-lend, length-lend}
use Rattle.pb_base.proofs.Rows.{IsWellFormed-with_row}

-- a loan that is within the claim and the cash keeps a state well-formed
pub well_lent : (s : BankerState) → IsWellFormed s → (p : ℕ) → p < processes s → (pairs : List Pair) → IsDistinct pairs
    → All (λ pair. pair.resource < resources s) pairs → IsWithinClaim s p pairs → IsWithinCash s pairs → IsWellFormed (with_loan s p pairs)
well_lent s good p within pairs distinct below claims money =
    let wide : length (row_of s.loans p) ≡ resources s = good.loan_width p within in
    let row_lent : (r : ℕ) → get_or (lend (row_of s.loans p) pairs) r 0 ≡ loan s p r + amount_in pairs r =
    λ r. get_or-lend (row_of s.loans p) pairs r (subst (λ (n : ℕ). All (λ pair. pair.resource < n) pairs) (sym wide) below) in
    IsWellFormed-with_row s p (lend (row_of s.loans p) pairs) good within (record {
      width = length-lend (row_of s.loans p) pairs ∙ wide;
      within_claim = λ r lr.
          let e = row_lent r in
          let m = amount_in-le pairs (λ r'. claim s p r' - loan s p r') r distinct (λ k d u. let w = claims k d u in omega (arith, w)) in
          let f = good.loans_fit p r within lr in
          omega (arith, e, m, f);
      within_cash = λ r lr.
          let e = row_lent r in
          let m = amount_in-le pairs (cash s) r distinct money in
          omega (arith, e, m);
    })

-- what is allowed with more loans is with fewer
module _ (fewer s : BankerState) (good : IsWellFormed s) (well : IsWellFormed fewer) (less : HasFewerLoans fewer s)
    (p : ℕ) (within : p < processes s) (pairs : List Pair) (distinct : IsDistinct pairs) (below : All (λ pair. pair.resource < resources s) pairs) where
  same_claim : (q r : ℕ) → claim fewer q r ≡ claim s q r
  same_claim q r = ap (λ (t : List (List ℕ)). get_or (get_or t q []) r 0) less.claims

  more_cash : (r : ℕ) → r < resources s → cash s r ≤ cash fewer r
  more_cash r lr =
      let e : capital fewer r ≡ capital s r = ap (λ (t : List ℕ). get_or t r 0) less.capital in
      let held : held_by fewer (everyone s) r ≤ held_by s (everyone s) r =
      sum_by-le_on (λ q. loan fewer q r) (λ q. loan s q r) (everyone s)
      (λ k d l. less.less (get_or (everyone s) k d) r (let b = range_below 0 (processes s) k d l in omega (arith, b)) lr) in
      let same : held_by fewer (everyone fewer) r ≡ held_by fewer (everyone s) r = ap (λ (t : List (List ℕ)). held_by fewer
      (everyone (record s { claims = t })) r) less.claims in
      omega (arith, e, held, same)

  less_lent : HasFewerLoans (with_loan fewer p pairs) (with_loan s p pairs)
  less_lent = record {
    capital = less.capital;
    claims = less.claims;
    less = λ q r lq lr. ⊎_elim
        (λ e.
        let l = less.less p r within lr in
        let n : processes fewer ≡ processes s = ap (λ (t : List (List ℕ)). length t) less.claims in
        let m : resources fewer ≡ resources s = ap length less.capital in
        let x = loan-with_loan s p pairs r good within below in
        let y = loan-with_loan fewer p pairs r well (omega (arith, n, within))
        (subst (λ (n : ℕ). All (λ pair. pair.resource < n) pairs) (sym m) below) in
        let here : loan (with_loan fewer p pairs) p r ≤ loan (with_loan s p pairs) p r = omega (arith, x, y, l) in
        subst (λ (k : ℕ). loan (with_loan fewer p pairs) k r ≤ loan (with_loan s p pairs) k r) (sym e) here)
        (λ ne.
        let l = less.less q r lq lr in
        let x = loan-with_loan_other s p pairs q r ne in
        let y = loan-with_loan_other fewer p pairs q r ne in
        omega (arith, x, y, l))
        (same_or_not q p);
  }

  pub less_allowed : IsAllowed s p pairs → IsAllowed fewer p pairs
  less_allowed a = record {
    within_claim = λ k d u.
        let w = a.within_claim k d u in
        let l = less.less p (get_or pairs k d).resource within (below k d u) in
        let c = same_claim p (get_or pairs k d).resource in
        omega (arith, w, l, c);
    within_cash = λ k d u. let w = a.within_cash k d u in let m = more_cash (get_or pairs k d).resource (below k d u) in omega (arith, w, m);
    safe = (
      a.safe.0,
      fewer_loans_stay_safe (with_loan fewer p pairs) (with_loan s p pairs)
          (well_lent s good p within pairs distinct below a.within_claim a.within_cash) less_lent a.safe.0 a.safe.1,
    );
  }

-- a loan lends no less
pub fewer_before : (s : BankerState) → IsWellFormed s → (p : ℕ) → p < processes s → (pairs : List Pair)
    → All (λ pair. pair.resource < resources s) pairs → HasFewerLoans s (with_loan s p pairs)
fewer_before s good p within pairs below = record {
  capital = refl;
  claims = refl;
  less = λ q r lq lr. ⊎_elim
      (λ e.
      let x = loan-with_loan s p pairs r good within below in
      let here : loan s p r ≤ loan (with_loan s p pairs) p r = omega (arith, x) in
      subst (λ (k : ℕ). loan s k r ≤ loan (with_loan s p pairs) k r) (sym e) here)
      (λ ne. let x = loan-with_loan_other s p pairs q r ne in omega (arith, x))
      (same_or_not q p);
}
