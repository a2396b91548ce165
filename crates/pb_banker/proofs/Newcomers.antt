-- A newcomer keeps the state safe, since he can be last; and who leaves can stay where he is.
use Rattle.std.proofs.Common.{◌≡◌, ◌≢◌, ℕ, zero, suc, ◌+◌, ◌-◌, ◌<◌, ◌≤◌, Bool, not, List, [], ◌∷◌, ◌++◌, length, get_or}
use Rattle.std.proofs.Common.{arith, sym, ap, subst, ◌∙◌, refl, inl, inr, replicate}
use Rattle.std.specs.Prelude.{nat_eq}
use Rattle.std.specs.List.{range_with_len}
use Rattle.std.specs.List.Sorted.{IsPermutation}
use Rattle.std.proofs.lemmas.Bool.{cases_eq, cases_lt, eq-eqb}
use Rattle.std.proofs.lemmas.Bool.Decides.{eqb_tells}
use Rattle.std.proofs.lemmas.List.{length-replicate, get_or-replicate, get_or_past}
use Rattle.std.proofs.lemmas.List.Sums.{sum_by-cons, sum_by_push}
use Rattle.std.proofs.lemmas.List.Sorted.{IsPermutation-trans, IsPermutation-append_left, IsPermutation-append_comm}
use Rattle.pb_base.specs.Banker.{BankerState, capital, claim, loan, row_of, processes, resources, everyone, held_by, cash}
use Rattle.pb_base.specs.Banker.{Finishes, IsWellFormed}
use Rattle.pb_base.proofs.Tails.{EachTail}
use Rattle.pb_base.proofs.Groups.{mark, times, times-none, sum_by-same_on}
use Rattle.pb_base.proofs.BankerLaws.{order_below}
use Rattle.pb_base.proofs.Safety.{FitsBefore, Finishes-tails, Finishes-from_tails}
use Rattle.pb_banker.specs.Jobs.{put_row, joined, MayJoin, NewcomersStaySafe}
use Rattle.pb_banker.specs.Askers.{others_than}
use Rattle.pb_banker.proofs.Moves.{others_than-all, others_than-none}
use Rattle.pb_banker.proofs.Parts.{part_tails, part_times}
use Rattle.pb_banker.proofs.WaitingCounts.{range-push}

-- ---- a table with another row

pub length-put_row : (table : List (List ℕ)) (p : ℕ) (row : List ℕ) → p ≤ length table
    → length (put_row table p row) ≡ p + suc (length table - suc p)
length-put_row [] zero row l = refl
length-put_row (x ∷ xs) zero row l = omega arith
length-put_row [] (suc p) row l = absurd (omega (arith, l))
length-put_row (x ∷ xs) (suc p) row l = (let h = length-put_row xs p row (omega (arith, l)) in omega (arith, h, l))

pub row-put_row_same : (table : List (List ℕ)) (p : ℕ) (row : List ℕ) → p ≤ length table → row_of (put_row table p row) p ≡ row
row-put_row_same table zero row l = refl
row-put_row_same [] (suc p) row l = absurd (omega (arith, l))
row-put_row_same (x ∷ xs) (suc p) row l = row-put_row_same xs p row (omega (arith, l))

pub row-put_row_other : (table : List (List ℕ)) (p q : ℕ) (row : List ℕ) → p ≤ length table → q ≢ p
    → row_of (put_row table p row) q ≡ row_of table q
row-put_row_other table zero zero row l ne = absurd (ne refl)
row-put_row_other [] zero (suc q) row l ne = refl
row-put_row_other (x ∷ xs) zero (suc q) row l ne = refl
row-put_row_other [] (suc p) q row l ne = absurd (omega (arith, l))
row-put_row_other (x ∷ xs) (suc p) zero row l ne = refl
row-put_row_other (x ∷ xs) (suc p) (suc q) row l ne =
    row-put_row_other xs p q row (omega (arith, l)) (λ e. ne (ap suc e))

pub zeros_at : (n r : ℕ) → get_or (replicate {A = ℕ} n 0) r 0 ≡ 0
zeros_at n r =
    elim (cases_lt r n) [
      | inl l ↦ get_or-replicate {A = ℕ} n r 0 0 l
      | inr l ↦ get_or_past (replicate {A = ℕ} n 0) r 0 (let e = length-replicate {A = ℕ} n 0 in omega (arith, e, l))
    ]

-- ---- the state with a newcomer

module _ (s : BankerState) (good : IsWellFormed s) (p : ℕ) (claims : List ℕ) (may : MayJoin s p claims) where
  t : BankerState
  t = joined s p claims

  pub many_joined : processes (joined s p claims) ≡ p + suc (processes s - suc p)
  many_joined = length-put_row s.claims p claims may.slot

  in_loans : p ≤ length s.loans
  in_loans = (let a = good.all_loans in let b = may.slot in omega (arith, a, b))

  pub claim-joined : (r : ℕ) → claim (joined s p claims) p r ≡ get_or claims r 0
  claim-joined r = ap (λ (row : List ℕ). get_or row r 0) (row-put_row_same s.claims p claims may.slot)

  pub claim-joined_other : (q r : ℕ) → q ≢ p → claim (joined s p claims) q r ≡ claim s q r
  claim-joined_other q r ne = ap (λ (row : List ℕ). get_or row r 0) (row-put_row_other s.claims p q claims may.slot ne)

  pub loan-joined_new : (r : ℕ) → loan (joined s p claims) p r ≡ 0
  loan-joined_new r =
      ap (λ (row : List ℕ). get_or row r 0) (row-put_row_same s.loans p (replicate {A = ℕ} (resources s) 0) in_loans)
      ∙ zeros_at (resources s) r

  pub loan-joined : (q r : ℕ) → r < resources s → loan (joined s p claims) q r ≡ loan s q r
  loan-joined q r lr =
      elim (cases_eq q p) [
        | inl e ↦ rw e (loan-joined_new r ∙ sym (may.nothing r lr))
        | inr ne ↦ ap (λ (row : List ℕ). get_or row r 0) (row-put_row_other s.loans p q (replicate {A = ℕ} (resources s) 0) in_loans ne)
      ]

  pub held-joined : (group : List ℕ) (r : ℕ) → r < resources s → held_by (joined s p claims) group r ≡ held_by s group r
  held-joined group r lr =
      sum_by-same_on (λ q. loan (joined s p claims) q r) (λ q. loan s q r) group (λ k d l. loan-joined (get_or group k d) r lr)

  -- all together hold what they held
  pub all-joined : (r : ℕ) → r < resources s → held_by (joined s p claims) (everyone (joined s p claims)) r ≡ held_by s (everyone s) r
  all-joined r lr =
      let n = many_joined in
      let slot = may.slot in
      let same : held_by (joined s p claims) (everyone (joined s p claims)) r ≡ held_by s (everyone (joined s p claims)) r =
      held-joined (everyone (joined s p claims)) r lr in
      elim (cases_lt p (processes s)) [
        | inl l ↦
            (let e : processes (joined s p claims) ≡ processes s = omega (arith, n, l) in
            same ∙ ap (λ (m : ℕ). held_by s (range_with_len 0 m) r) e)
        | inr l ↦
            (let at : p ≡ processes s = omega (arith, slot, l) in
            let e : processes (joined s p claims) ≡ suc (processes s) = omega (arith, n, at) in
            let z : 0 + processes s ≡ processes s = omega arith in
            let push : range_with_len 0 (suc (processes s)) ≡ range_with_len 0 (processes s) ++ processes s ∷ [] =
            range-push 0 (processes s) ∙ ap (λ (m : ℕ). range_with_len 0 (processes s) ++ m ∷ []) z in
            let none : loan s (processes s) r ≡ 0 = ap (λ (q : ℕ). loan s q r) (sym at) ∙ may.nothing r lr in
            let more : held_by s (range_with_len 0 (processes s) ++ processes s ∷ []) r ≡ held_by s (everyone s) r + loan s (processes s) r =
            sum_by_push (λ q. loan s q r) (range_with_len 0 (processes s)) (processes s) in
            let a : held_by s (everyone (joined s p claims)) r ≡ held_by s (range_with_len 0 (suc (processes s))) r =
            ap (λ (m : ℕ). held_by s (range_with_len 0 m) r) e in
            let b : held_by s (range_with_len 0 (suc (processes s))) r ≡ held_by s (range_with_len 0 (processes s) ++ processes s ∷ []) r =
            ap (λ (g : List ℕ). held_by s g r) push in
            omega (arith, same, none, more, a, b))
      ]

  pub cash-joined : (r : ℕ) → r < resources s → cash (joined s p claims) r ≡ cash s r
  cash-joined r lr = (let e = all-joined r lr in ap (λ (h : ℕ). capital s r - h) e)

  there : (q : ℕ) → q < processes (joined s p claims) → q ≢ p → q < processes s
  there q l ne = (let n = many_joined in let slot = may.slot in omega (arith, n, slot, l, ne))

  pub IsWellFormed-joined : IsWellFormed (joined s p claims)
  IsWellFormed-joined =
      record {
        few_processes = (let n = many_joined in let a = may.room in let b = good.few_processes in omega (arith, n, a, b));
        few_resources = good.few_resources;
        all_loans =
            (let n = many_joined in
            let m = length-put_row s.loans p (replicate {A = ℕ} (resources s) 0) in_loans in
            let a = good.all_loans in
            m ∙ ap (λ (k : ℕ). p + suc (k - suc p)) a ∙ sym n);
        claim_width = λ q l.
            elim (cases_eq q p) [
              | inl e ↦ rw e (ap length (row-put_row_same s.claims p claims may.slot) ∙ may.width)
              | inr ne ↦ ap length (row-put_row_other s.claims p q claims may.slot ne) ∙ good.claim_width q (there q l ne)
            ];
        loan_width = λ q l.
            elim (cases_eq q p) [
              | inl e ↦
                  rw e (ap length (row-put_row_same s.loans p (replicate {A = ℕ} (resources s) 0) in_loans) ∙ length-replicate {A = ℕ} (resources s) 0)
              | inr ne ↦
                  ap length (row-put_row_other s.loans p q (replicate {A = ℕ} (resources s) 0) in_loans ne) ∙ good.loan_width q (there q l ne)
            ];
        small = good.small;
        claims_fit = λ q r l lr.
            elim (cases_eq q p) [
              | inl e ↦ rw e (let a = claim-joined r in let b = may.fits r lr in omega (arith, a, b))
              | inr ne ↦ (let a = claim-joined_other q r ne in let b = good.claims_fit q r (there q l ne) lr in omega (arith, a, b))
            ];
        loans_fit = λ q r l lr.
            elim (cases_eq q p) [
              | inl e ↦ rw e (let a = loan-joined_new r in omega (arith, a))
              | inr ne ↦
                  (let a = claim-joined_other q r ne in
                  let c = loan-joined q r lr in
                  let b = good.loans_fit q r (there q l ne) lr in
                  omega (arith, a, b, c))
            ];
        lent = λ r lr. (let a = all-joined r lr in let b = good.lent r lr in omega (arith, a, b));
      }

  -- ---- he can be last

  -- an order without p, and p after it
  last_tails : (xs : List ℕ) → times p xs ≡ 0 → EachTail (FitsBefore s) xs → EachTail (FitsBefore (joined s p claims)) (xs ++ p ∷ [])
  last_tails [] none h = (
    λ r lr.
        (let a = claim-joined r in
        let b = may.fits r lr in
        let c : held_by (joined s p claims) [] r ≡ 0 = refl in
        omega (arith, a, b, c)),
    tt,
  )
  last_tails (x ∷ xs) none h =
      let cons = sum_by-cons (mark p) x xs in
      let rest : times p xs ≡ 0 = omega (arith, cons, none) in
      let ne : x ≢ p =
      elim (eqb_tells x p) [
        | inl e ↦ (let one : mark p x ≡ 1 = rw e.0 refl in absurd (omega (arith, cons, none, one)))
        | inr e ↦ e.1
      ] in (
        λ r lr.
            (let old : claim s x r + held_by s xs r ≤ capital s r = h.0 r lr in
            let a = claim-joined_other x r ne in
            let b : held_by (joined s p claims) (xs ++ p ∷ []) r ≡ held_by (joined s p claims) xs r + loan (joined s p claims) p r =
            sum_by_push (λ q. loan (joined s p claims) q r) xs p in
            let c = held-joined xs r lr in
            let d = loan-joined_new r in
            omega (arith, old, a, b, c, d)),
        last_tails xs rest h.1,
      )

  pub last_finishes : (order : List ℕ) → Finishes s order → Finishes (joined s p claims) (others_than p order ++ p ∷ [])
  last_finishes order h =
      let n = many_joined in
      let slot = may.slot in
      let others : ℕ → Bool = λ q. not (nat_eq q p) in
      let none : times p (others_than p order) ≡ 0 = part_times (λ q. not (nat_eq q p)) p (ap not (eq-eqb p p refl)) order in
      let tails : EachTail (FitsBefore s) (others_than p order) =
      part_tails s (λ q. not (nat_eq q p)) order (Finishes-tails s order good.lent h) in
      Finishes-from_tails (joined s p claims) (others_than p order ++ p ∷ []) IsWellFormed-joined.lent
      (elim (cases_lt p (processes s)) [
        | inl l ↦
            (let same : everyone (joined s p claims) ≡ everyone s =
            ap (λ (m : ℕ). range_with_len 0 m) (let e : processes (joined s p claims) ≡ processes s = omega (arith, n, l) in e) in
            subst (λ (ys : List ℕ). IsPermutation ys (others_than p order ++ p ∷ [])) (sym same)
            (IsPermutation-trans (everyone s) (p ∷ others_than p order) (others_than p order ++ p ∷ [])
            (others_than-all (processes s) order p h.everyone l)
            (IsPermutation-append_comm (p ∷ []) (others_than p order))))
        | inr l ↦
            (let at : p ≡ processes s = omega (arith, slot, l) in
            let e : processes (joined s p claims) ≡ suc (processes s) = omega (arith, n, at) in
            let z : 0 + processes s ≡ p = omega (arith, at) in
            let push : everyone (joined s p claims) ≡ everyone s ++ p ∷ [] =
            ap (λ (m : ℕ). range_with_len 0 m) e ∙ range-push 0 (processes s) ∙ ap (λ (m : ℕ). range_with_len 0 (processes s) ++ m ∷ []) z in
            let out : times p order ≡ 0 =
            times-none p order (λ k d i is. (let b = order_below s order h.everyone k d i in absurd (omega (arith, b, is, at)))) in
            subst (λ (ys : List ℕ). IsPermutation ys (others_than p order ++ p ∷ [])) (sym push)
            (subst (λ (ys : List ℕ). IsPermutation (everyone s ++ p ∷ []) (ys ++ p ∷ [])) (sym (others_than-none p order out))
            (IsPermutation-append_left (p ∷ []) (everyone s) order h.everyone)))
      ])
      (last_tails (others_than p order) none tails)

  -- ---- who claims nothing can stay where he is

  kept_tails : ((r : ℕ) → r < resources s → get_or claims r 0 ≡ 0) → (xs : List ℕ) → EachTail (FitsBefore s) xs
      → EachTail (FitsBefore (joined s p claims)) xs
  kept_tails nothing [] h = tt
  kept_tails nothing (x ∷ xs) h = (
    λ r lr.
        (let old : claim s x r + held_by s xs r ≤ capital s r = h.0 r lr in
        let held = held-joined xs r lr in
        elim (cases_eq x p) [
          | inl e ↦
              (let a : claim (joined s p claims) x r ≡ get_or claims r 0 = ap (λ (q : ℕ). claim (joined s p claims) q r) e ∙ claim-joined r in
              let b = nothing r lr in
              omega (arith, old, held, a, b))
          | inr ne ↦ (let a = claim-joined_other x r ne in omega (arith, old, held, a))
        ]),
    kept_tails nothing xs h.1,
  )

  pub kept_finishes : ((r : ℕ) → r < resources s → get_or claims r 0 ≡ 0) → p < processes s → (order : List ℕ)
      → Finishes s order → Finishes (joined s p claims) order
  kept_finishes nothing l order h =
      let n = many_joined in
      let same : everyone (joined s p claims) ≡ everyone s =
      ap (λ (m : ℕ). range_with_len 0 m) (let e : processes (joined s p claims) ≡ processes s = omega (arith, n, l) in e) in
      Finishes-from_tails (joined s p claims) order IsWellFormed-joined.lent
      (subst (λ (ys : List ℕ). IsPermutation ys order) (sym same) h.everyone)
      (kept_tails nothing order (Finishes-tails s order good.lent h))

pub newcomers_stay_safe : NewcomersStaySafe
newcomers_stay_safe s good p claims may safe = (
  IsWellFormed-joined s good p claims may,
  (others_than p safe.0 ++ p ∷ [], last_finishes s good p claims may safe.0 safe.1),
)
