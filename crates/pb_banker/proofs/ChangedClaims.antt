-- A state in which one process has another claim, and the tables that hold it.
use Rattle.std.proofs.Common.{◌≡◌, ◌≢◌, ℕ, ◌+◌, ◌-◌, ◌<◌, ◌≤◌, Bool, List, [], ◌∷◌, length, get_or, set, take, arith}
use Rattle.std.proofs.Common.{sym, ap, subst, ◌∙◌, refl, inl, inr}
use Rattle.std.specs.List.{range_with_len}
use Rattle.std.specs.List.Sorted.{IsPermutation}
use Rattle.std.proofs.lemmas.Bool.{cases_eq}
use Rattle.std.proofs.lemmas.List.{length-set, get_or-set_same, get_or-set_other}
use Rattle.std.proofs.Math.Seq.{take-set-lt}
use Rattle.pb_base.specs.Banker.{BankerState, capital, claim, loan, row_of, processes, resources, everyone, held_by, cash}
use Rattle.pb_base.specs.Banker.{IsWellFormed, Finishes}
use Rattle.pb_base.proofs.Tails.{EachTail}
use Rattle.pb_base.proofs.Safety.{IsLent, FitsBefore, Finishes-tails, Finishes-from_tails}
use Rattle.pb_banker.specs.declared.accounts.Accounts.{Accounts}
use Rattle.pb_banker.specs.Accounts.{state_of, IsSound}
use Rattle.pb_banker.specs.declared.reason.ClaimSaid.{ClaimSaid}
use Rattle.pb_banker.specs.declared.reason.ClaimSaid.TheVariants.{Changed, Rest}
use Rattle.pb_banker.specs.Claims.{with_claim, state_claimed, FewerClaimsStaySafe, SmallerClaimIsAllowed}
use Rattle.pb_banker.specs.Jobs.{IsUsed, IsKept}
use Rattle.pb_banker.proofs.TableCells.{processes_of, resources_of}
use Rattle.pb_banker.proofs.TableCorners.{row_of-corner, corner-set}

module _ (s : BankerState) (p r amount : ℕ) where
  pub many-with : processes (with_claim s p r amount) ≡ processes s
  many-with = length-set s.claims p (set (row_of s.claims p) r amount)

  pub all-with : everyone (with_claim s p r amount) ≡ everyone s
  all-with = ap (λ (n : ℕ). range_with_len 0 n) many-with

  pub claim-with : p < processes s → r < length (row_of s.claims p) → claim (with_claim s p r amount) p r ≡ amount
  claim-with l k =
      ap (λ (row : List ℕ). get_or row r 0) (get_or-set_same s.claims p (set (row_of s.claims p) r amount) [] l)
      ∙ get_or-set_same (row_of s.claims p) r amount 0 k

  pub claim-with_resource : p < processes s → (q : ℕ) → q ≢ r → claim (with_claim s p r amount) p q ≡ claim s p q
  claim-with_resource l q ne =
      ap (λ (row : List ℕ). get_or row q 0) (get_or-set_same s.claims p (set (row_of s.claims p) r amount) [] l)
      ∙ get_or-set_other (row_of s.claims p) r q amount 0 ne

  pub claim-with_other : (q j : ℕ) → q ≢ p → claim (with_claim s p r amount) q j ≡ claim s q j
  claim-with_other q j ne =
      ap (λ (row : List ℕ). get_or row j 0) (get_or-set_other s.claims p q (set (row_of s.claims p) r amount) [] ne)

  -- what holds of the old claim, and of the new one if it is that of p on r, holds
  pub claim_cases : p < processes s → r < length (row_of s.claims p) → (P : ℕ → Type 0) (q j : ℕ) → P (claim s q j)
      → (q ≡ p → j ≡ r → P amount) → P (claim (with_claim s p r amount) q j)
  claim_cases l k P q j old new =
      elim (cases_eq q p) [
        | inl e ↦
            elim (cases_eq j r) [
              | inl f ↦
                  (let here : claim (with_claim s p r amount) q j ≡ amount =
                  ap (λ (i : ℕ). claim (with_claim s p r amount) i j) e ∙ ap (λ (i : ℕ). claim (with_claim s p r amount) p i) f ∙ claim-with l k in
                  subst P (sym here) (new e f))
              | inr ne ↦
                  (let here : claim (with_claim s p r amount) q j ≡ claim s q j =
                  ap (λ (i : ℕ). claim (with_claim s p r amount) i j) e ∙ claim-with_resource l j ne ∙ ap (λ (i : ℕ). claim s i j) (sym e) in
                  subst P (sym here) old)
            ]
        | inr ne ↦ subst P (sym (claim-with_other q j ne)) old
      ]

  pub IsWellFormed-with_claim : IsWellFormed s → p < processes s → r < resources s → loan s p r ≤ amount → amount ≤ capital s r
      → IsWellFormed (with_claim s p r amount)
  IsWellFormed-with_claim good l lr held within =
      let n = many-with in
      let wide = good.claim_width p l in
      let k : r < length (row_of s.claims p) = omega (arith, lr, wide) in
      let there : (q : ℕ) → q < processes (with_claim s p r amount) → q < processes s = λ q lq. omega (arith, n, lq) in
      record {
        few_processes = (let a = good.few_processes in omega (arith, a, n));
        few_resources = good.few_resources;
        all_loans = good.all_loans ∙ sym n;
        claim_width = λ q lq.
            elim (cases_eq q p) [
              | inl e ↦
                  ap (λ (i : ℕ). length (row_of (with_claim s p r amount).claims i)) e
                  ∙ ap length (get_or-set_same s.claims p (set (row_of s.claims p) r amount) [] l)
                  ∙ length-set (row_of s.claims p) r amount ∙ wide
              | inr ne ↦
                  ap length (get_or-set_other s.claims p q (set (row_of s.claims p) r amount) [] ne) ∙ good.claim_width q (there q lq)
            ];
        loan_width = λ q lq. good.loan_width q (there q lq);
        small = good.small;
        claims_fit = λ q j lq lj.
            claim_cases l k (λ m. m ≤ capital s j) q j (good.claims_fit q j (there q lq) lj)
            (λ e f. subst (λ (i : ℕ). amount ≤ capital s i) (sym f) within);
        loans_fit = λ q j lq lj.
            claim_cases l k (λ m. loan s q j ≤ m) q j (good.loans_fit q j (there q lq) lj)
            (λ e f.
            subst (λ (i : ℕ). loan s i j ≤ amount) (sym e) (subst (λ (i : ℕ). loan s p i ≤ amount) (sym f) held));
        lent = λ j lj. subst (λ (all : List ℕ). held_by s all j ≤ capital s j) (sym all-with) (good.lent j lj);
      }

  -- ---- a smaller claim

  fewer_tails : p < processes s → r < length (row_of s.claims p) → amount ≤ claim s p r → (xs : List ℕ) → EachTail (FitsBefore s) xs
      → EachTail (FitsBefore (with_claim s p r amount)) xs
  fewer_tails l k less [] h = tt
  fewer_tails l k less (x ∷ xs) h = (
    λ j lj.
        (let old : claim s x j + held_by s xs j ≤ capital s j = h.0 j lj in
        claim_cases l k (λ m. m + held_by s xs j ≤ capital s j) x j old
        (λ e f.
        let same : claim s x j ≡ claim s p r = ap (λ (i : ℕ). claim s i j) e ∙ ap (λ (i : ℕ). claim s p i) f in
        omega (arith, old, same, less))),
    fewer_tails l k less xs h.1,
  )

  pub fewer_finishes : IsWellFormed s → p < processes s → r < resources s → amount ≤ claim s p r → (order : List ℕ) → Finishes s order
      → Finishes (with_claim s p r amount) order
  fewer_finishes good l lr less order h =
      let wide = good.claim_width p l in
      let lent : IsLent (with_claim s p r amount) =
      λ j lj. subst (λ (all : List ℕ). held_by s all j ≤ capital s j) (sym all-with) (good.lent j lj) in
      Finishes-from_tails (with_claim s p r amount) order lent
      (subst (λ (all : List ℕ). IsPermutation all order) (sym all-with) h.everyone)
      (fewer_tails l (omega (arith, lr, wide)) less order (Finishes-tails s order good.lent h))

pub fewer_claims_stay_safe : FewerClaimsStaySafe
fewer_claims_stay_safe s good p r amount l lr less order h = fewer_finishes s p r amount good l lr less order h

pub smaller_claim_is_allowed : SmallerClaimIsAllowed
smaller_claim_is_allowed s good safe p r amount l lr less = (safe.0, fewer_finishes s p r amount good l lr less safe.0 safe.1)

-- ---- the tables

abbrev pub claimed_tables : Accounts → (p r amount : ℕ) → Accounts
claimed_tables a p r amount = record a { claims = set a.claims p (set (row_of a.claims p) r amount) }

pub state_of-claimed : (a : Accounts) → IsSound a → (p r amount : ℕ) → p < a.processes → r < a.resources
    → state_of (claimed_tables a p r amount) ≡ with_claim (state_of a) p r amount
state_of-claimed a h p r amount l lr =
    let cut : take a.resources (set (row_of a.claims p) r amount) ≡ set (row_of (state_of a).claims p) r amount =
    take-set-lt a.resources (row_of a.claims p) r amount lr
    ∙ ap (λ (row : List ℕ). set row r amount) (sym (row_of-corner a.processes a.resources a.claims p l h.claims_length)) in
    ap (λ (t : List (List ℕ)). record (state_of a) { claims = t })
    (corner-set a.processes a.resources a.claims p (set (row_of a.claims p) r amount) l
    ∙ ap (λ (row : List ℕ). set (state_of a).claims p row) cut)

pub IsSound-claimed : (a : Accounts) → IsSound a → (p r amount : ℕ) → p < a.processes → r < a.resources
    → loan (state_of a) p r ≤ amount → amount ≤ capital (state_of a) r → IsSound (claimed_tables a p r amount)
IsSound-claimed a h p r amount l lr held within =
    let same : with_claim (state_of a) p r amount ≡ state_of (claimed_tables a p r amount) = sym (state_of-claimed a h p r amount l lr) in
    let lp : p < processes (state_of a) = (let e = processes_of a h in omega (arith, e, l)) in
    let lr' : r < resources (state_of a) = (let e = resources_of a h in omega (arith, e, lr)) in
    record {
      capital_width = h.capital_width;
      claims_length =
          (let e = length-set a.claims p (set (row_of a.claims p) r amount) in let b = h.claims_length in omega (arith, e, b));
      loans_length = h.loans_length;
      few = h.few;
      well_formed = subst IsWellFormed same (IsWellFormed-with_claim (state_of a) p r amount h.well_formed lp lr' held within);
      cash = λ j lj.
          h.cash j lj
          ∙ ap (λ (all : List ℕ). capital (state_of a) j - held_by (state_of a) all j) (sym (all-with (state_of a) p r amount))
          ∙ ap (λ (t : BankerState). cash t j) same;
    }

-- ---- a bank of them

pub claimed_other : (s : BankerState) (p r amount : ℕ) (said : ClaimSaid) (q j : ℕ) → q ≢ p
    → claim (state_claimed s p r amount said) q j ≡ claim s q j
claimed_other s p r amount Changed q j ne = claim-with_other s p r amount q j ne
claimed_other s p r amount (Rest slots) q j ne = refl

pub claimed_resources : (s : BankerState) (p r amount : ℕ) (said : ClaimSaid) → resources (state_claimed s p r amount said) ≡ resources s
claimed_resources s p r amount Changed = refl
claimed_resources s p r amount (Rest slots) = refl

-- only the claims of a job changed
pub kept_claimed : (a : Accounts) (order : List ℕ) (used : List Bool) → IsKept a order used → (p : ℕ) → IsUsed used p
    → (b : Accounts) (next : List ℕ) → IsSound b → b.processes ≡ a.processes → resources (state_of b) ≡ resources (state_of a)
    → ((q j : ℕ) → q ≢ p → claim (state_of b) q j ≡ claim (state_of a) q j)
    → Finishes (state_of b) (take b.processes next) → IsKept b next used
kept_claimed a order used k p job b next sound many mr others finishes =
    let r' = resources_of b sound in
    let r0 = resources_of a k.sound in
    record {
      sound = sound;
      finishes = finishes;
      long = k.long;
      rows = λ q u. (let l = k.rows q u in omega (arith, l, many));
      free = λ q j lq fresh lj.
          others q j (λ e. fresh (subst (λ (i : ℕ). IsUsed used i) (sym e) job))
          ∙ k.free q j (omega (arith, lq, many)) fresh (omega (arith, lj, r', r0, mr));
    }
