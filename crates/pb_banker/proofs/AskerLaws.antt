-- After a loan it is enough that the asker fits after some who fit in turn, or that those before him still fit.
use Rattle.std.proofs.Common.{◌≡◌, ℕ, suc, ◌+◌, ◌<◌, ◌≤◌, List, [], ◌∷◌, ◌++◌, length, get_or, take, drop, filter}
use Rattle.std.proofs.Common.{arith, sym, ap, subst, ◌∙◌, refl, inl, inr}
use Rattle.std.specs.Prelude.{All}
use Rattle.std.specs.List.Sorted.{IsPermutation}
use Rattle.std.proofs.lemmas.Bool.{cases_lt, eq-eqb}
use Rattle.std.proofs.lemmas.Bool.Decides.{eqb_tells}
use Rattle.std.proofs.lemmas.List.{length-append, get_or_append_left, take-append-le, drop-append-le, drop_more, take-append-drop}
use Rattle.std.proofs.lemmas.List.Elements.{All-head, All-tail}
use Rattle.std.proofs.lemmas.List.Sums.{sum_by-cons, sum_by-append, sum_by-le-sum_by}
use Rattle.std.proofs.lemmas.List.Sorted.{sum_by-IsPermutation}
use Rattle.pb_base.specs.declared.pair.Pair.{Pair}
use Rattle.pb_base.specs.Bundle.{amount_in}
use Rattle.pb_base.specs.Banker.{BankerState, capital, claim, loan, processes, resources, everyone, held_by, cash}
use Rattle.pb_base.specs.Banker.{with_loan, Finishes, FitsAfter, IsWellFormed}
use Rattle.pb_base.proofs.BankerLaws.{loan-with_loan, loan-with_loan_other}
use Rattle.pb_base.proofs.Groups.{mark, times, times-range, times-range_one, sum_by-same_but, sum_by-one_other}
use Rattle.pb_base.proofs.LoanRows.{amount_in-le, amount_in-cons, amount_of_pair}
use Rattle.pb_base.proofs.Safety.{IsLent, FitsBefore, FitsAfter-FitsBefore, Finishes-tails, Finishes-from_tails, all_held}
use Rattle.pb_base.proofs.Tails.{EachTail, EachTail-index, sum_by_parts}
use Rattle.pb_banker.specs.Askers.{IsCovered, FitBy, AskerIsEnough, PlaceIsEnough}
use Rattle.pb_banker.proofs.Parts.{part_tails, part_times}

-- a list of which each holds with all after it, before one of which each holds with those after it and all of the other
EachTail-join : (q : ℕ → List ℕ → Type 0) (xs ys : List ℕ)
    → ((k : ℕ) → k < length xs → q (get_or xs k 0) (drop (suc k) xs ++ ys)) → EachTail q ys → EachTail q (xs ++ ys)
EachTail-join q [] ys h t = t
EachTail-join q (x ∷ xs) ys h t =
    (h 0 (omega arith), EachTail-join q xs ys (λ k l. h (suc k) (omega (arith, l))) t)

-- ---- the state after a loan

-- those among whom p is not fit as before
others_tails : (s : BankerState) (p : ℕ) (pairs : List Pair) (xs : List ℕ) → times p xs ≡ 0
    → EachTail (FitsBefore s) xs → EachTail (FitsBefore (with_loan s p pairs)) xs
others_tails s p pairs [] none h = tt
others_tails s p pairs (x ∷ xs) none h =
    let cons = sum_by-cons (mark p) x xs in
    let here : FitsBefore (with_loan s p pairs) x xs =
    λ r lr.
    let old : claim s x r + held_by s xs r ≤ capital s r = h.0 r lr in
    let held : held_by (with_loan s p pairs) xs r ≡ held_by s xs r =
    sum_by-same_but (λ q. loan (with_loan s p pairs) q r) (λ q. loan s q r) p
    (λ q ne. loan-with_loan_other s p pairs q r ne) xs (omega (arith, cons, none)) in
    omega (arith, old, held) in
    (here, others_tails s p pairs xs (omega (arith, cons, none)) h.1)

-- the loans with the new one are within the capital
pub lent_with : (s : BankerState) (p : ℕ) (pairs : List Pair) → IsWellFormed s → IsCovered s p pairs → IsLent (with_loan s p pairs)
lent_with s p pairs good asked r lr =
    let within : amount_in pairs r ≤ cash s r =
    amount_in-le pairs (λ q. cash s q) r asked.distinct asked.within_cash in
    let mine : loan (with_loan s p pairs) p r ≡ loan s p r + amount_in pairs r = loan-with_loan s p pairs r good asked.process asked.below in
    let once : times p (everyone s) ≡ 1 = times-range_one p 0 (processes s) (omega arith) (let b = asked.process in omega (arith, b)) in
    let one = sum_by-one_other (λ q. loan (with_loan s p pairs) q r) (λ q. loan s q r) p
    (λ q ne. loan-with_loan_other s p pairs q r ne) (everyone s) once in
    let fits : held_by s (everyone s) r ≤ capital s r = good.lent r lr in
    omega (arith, within, mine, one, fits)

pub asker_is_enough : AskerIsEnough
asker_is_enough s good order h p pairs asked found others out all fits =
    let rest : List ℕ = filter others order in
    let lent : IsLent (with_loan s p pairs) = lent_with s p pairs good asked in
    let tails : EachTail (FitsBefore s) (filter others order) = part_tails s others order (Finishes-tails s order good.lent h) in
    let behind : EachTail (FitsBefore (with_loan s p pairs)) (filter others order) =
    others_tails s p pairs (filter others order) (part_times others p out order) tails in
    let long = length-append found (filter others order) in
    let front : (k : ℕ) → k < length found
    → FitsBefore (with_loan s p pairs) (get_or found k 0) (drop (suc k) found ++ filter others order) =
    λ k l.
    let a : take k (found ++ filter others order) ≡ take k found = take-append-le k found (filter others order) (omega (arith, l)) in
    let b : get_or (found ++ filter others order) k 0 ≡ get_or found k 0 = get_or_append_left found (filter others order) 0 k l in
    let c : drop (suc k) (found ++ filter others order) ≡ drop (suc k) found ++ filter others order =
    drop-append-le (suc k) found (filter others order) (omega (arith, l)) in
    let f : FitsAfter (with_loan s p pairs) (take k found) (get_or found k 0) = fits k l in
    let f' : FitsAfter (with_loan s p pairs) (take k (found ++ filter others order)) (get_or (found ++ filter others order) k 0) =
    rw (a, b) f in
    let g : FitsBefore (with_loan s p pairs) (get_or (found ++ filter others order) k 0) (drop (suc k) (found ++ filter others order)) =
    FitsAfter-FitsBefore (with_loan s p pairs) (found ++ filter others order) k all lent (omega (arith, l, long)) f' in
    rw (← b, ← c) g in
    Finishes-from_tails (with_loan s p pairs) (found ++ filter others order) lent all
    (EachTail-join (FitsBefore (with_loan s p pairs)) found (filter others order) front behind)

-- ---- the place of the asker

tails_behind : (q : ℕ → List ℕ → Type 0) (before : List ℕ) (p : ℕ) (after : List ℕ) → EachTail q (before ++ p ∷ after) → EachTail q (p ∷ after)
tails_behind q [] p after h = h
tails_behind q (x ∷ xs) p after h = tails_behind q xs p after h.1

-- p is once in an order, so not after itself
alone_behind : (s : BankerState) (before : List ℕ) (p : ℕ) (after : List ℕ) → IsPermutation (everyone s) (before ++ p ∷ after)
    → times p after ≡ 0
alone_behind s before p after all =
    let once : times p (everyone s) ≤ 1 = times-range p 0 (processes s) in
    let same : times p (before ++ p ∷ after) ≡ times p (everyone s) = sum_by-IsPermutation (mark p) (everyone s) (before ++ p ∷ after) all in
    let split : times p (before ++ p ∷ after) ≡ times p before + times p (p ∷ after) = sum_by-append (mark p) before (p ∷ after) in
    let cons : times p (p ∷ after) ≡ mark p p + times p after = sum_by-cons (mark p) p after in
    let one : mark p p ≡ 1 = rw (eq-eqb p p refl) refl in
    omega (arith, once, same, split, cons, one)

-- of a resource that is not asked everybody holds what he held
not_asked : (s : BankerState) (p : ℕ) (pairs : List Pair) (r : ℕ) → IsWellFormed s → IsCovered s p pairs → amount_in pairs r ≡ 0
    → (xs : List ℕ) → held_by (with_loan s p pairs) xs r ≤ held_by s xs r
not_asked s p pairs r good asked none xs =
    sum_by-le-sum_by (λ q. loan (with_loan s p pairs) q r) (λ q. loan s q r) xs
    (λ q.
    elim (eqb_tells q p) [
      | inl h ↦
          (let mine : loan (with_loan s p pairs) p r ≡ loan s p r + amount_in pairs r =
          loan-with_loan s p pairs r good asked.process asked.below in
          let there : loan (with_loan s p pairs) q r ≡ loan (with_loan s p pairs) p r = ap (λ (x : ℕ). loan (with_loan s p pairs) x r) h.1 in
          let here : loan s q r ≡ loan s p r = ap (λ (x : ℕ). loan s x r) h.1 in
          let goal : loan (with_loan s p pairs) q r ≤ loan s q r = omega (arith, mine, there, here, none) in
          goal)
      | inr h ↦
          (let same = loan-with_loan_other s p pairs q r h.1 in
          let goal : loan (with_loan s p pairs) q r ≤ loan s q r = omega (arith, same) in
          goal)
    ])

-- what holds of the resource of each pair that has some holds of each that is asked
asked_of : (P : ℕ → Type 0) (pairs : List Pair) (r : ℕ) → 0 < amount_in pairs r → All (λ pair. 0 < pair.amount → P pair.resource) pairs
    → P r
asked_of P [] r some each = absurd (omega (arith, some))
asked_of P (pair ∷ pairs) r some each =
    let cons = amount_in-cons pair pairs r in
    elim (eqb_tells pair.resource r) [
      | inl h ↦
          (let one : amount_of_pair r pair ≡ pair.amount = rw h.0 refl in
          elim (cases_lt 0 pair.amount) [
            | inl has ↦ subst P h.1 (All-head (λ pair. 0 < pair.amount → P pair.resource) pair pairs each has)
            | inr none ↦
                asked_of P pairs r (omega (arith, some, cons, one, none))
                (All-tail (λ pair. 0 < pair.amount → P pair.resource) pair pairs each)
          ])
      | inr h ↦
          (let none : amount_of_pair r pair ≡ 0 = rw h.0 refl in
          asked_of P pairs r (omega (arith, some, cons, none)) (All-tail (λ pair. 0 < pair.amount → P pair.resource) pair pairs each))
    ]

module _ (s : BankerState) (good : IsWellFormed s) (before : List ℕ) (p : ℕ) (after : List ℕ) (h : Finishes s (before ++ p ∷ after))
    (pairs : List Pair) (asked : IsCovered s p pairs)
    (fit : All (λ pair. 0 < pair.amount → FitBy (with_loan s p pairs) before pair.resource) pairs) where
  lent : IsLent (with_loan s p pairs)
  lent = lent_with s p pairs good asked

  tails : EachTail (FitsBefore s) (before ++ p ∷ after)
  tails = Finishes-tails s (before ++ p ∷ after) good.lent h

  -- the asker and those after him
  from_p : EachTail (FitsBefore (with_loan s p pairs)) (p ∷ after)
  from_p =
      let behind : EachTail (FitsBefore s) (p ∷ after) = tails_behind (FitsBefore s) before p after tails in
      let none : times p after ≡ 0 = alone_behind s before p after h.everyone in
      let at_p : FitsBefore (with_loan s p pairs) p after =
      λ r lr.
      let a : claim s p r + held_by s after r ≤ capital s r = behind.0 r lr in
      let b : held_by (with_loan s p pairs) after r ≡ held_by s after r =
      sum_by-same_but (λ q. loan (with_loan s p pairs) q r) (λ q. loan s q r) p (λ q ne. loan-with_loan_other s p pairs q r ne) after none in
      omega (arith, a, b) in
      (at_p, others_tails s p pairs after none behind.1)

  -- those before him, by a resource that is asked
  by_asked : (k r : ℕ) → k < length before → r < resources s → 0 < amount_in pairs r
      → claim s (get_or before k 0) r + held_by (with_loan s p pairs) (drop (suc k) before ++ p ∷ after) r ≤ capital s r
  by_asked k r l lr some =
      let long = length-append before (p ∷ after) in
      let a : take k (before ++ p ∷ after) ≡ take k before = take-append-le k before (p ∷ after) (omega (arith, l)) in
      let b : get_or (before ++ p ∷ after) k 0 ≡ get_or before k 0 = get_or_append_left before (p ∷ after) 0 k l in
      let c : drop (suc k) (before ++ p ∷ after) ≡ drop (suc k) before ++ p ∷ after = drop-append-le (suc k) before (p ∷ after) (omega (arith, l)) in
      let parts = sum_by_parts (λ q. loan (with_loan s p pairs) q r) (before ++ p ∷ after) k (omega (arith, l, long)) in
      let a' : held_by (with_loan s p pairs) (take k (before ++ p ∷ after)) r ≡ held_by (with_loan s p pairs) (take k before) r =
      ap (λ (ys : List ℕ). held_by (with_loan s p pairs) ys r) a in
      let b' : loan (with_loan s p pairs) (get_or (before ++ p ∷ after) k 0) r ≡ loan (with_loan s p pairs) (get_or before k 0) r =
      ap (λ (q : ℕ). loan (with_loan s p pairs) q r) b in
      let c' : held_by (with_loan s p pairs) (drop (suc k) (before ++ p ∷ after)) r
      ≡ held_by (with_loan s p pairs) (drop (suc k) before ++ p ∷ after) r =
      ap (λ (ys : List ℕ). held_by (with_loan s p pairs) ys r) c in
      let whole = all_held (with_loan s p pairs) (before ++ p ∷ after) r h.everyone in
      let within = lent r lr in
      let here = asked_of (λ q. FitBy (with_loan s p pairs) before q) pairs r some fit k l in
      omega (arith, parts, a', b', c', whole, within, here)

  by_other : (k r : ℕ) → k < length before → r < resources s → amount_in pairs r ≡ 0
      → claim s (get_or before k 0) r + held_by (with_loan s p pairs) (drop (suc k) before ++ p ∷ after) r ≤ capital s r
  by_other k r l lr none =
      let long = length-append before (p ∷ after) in
      let a = not_asked s p pairs r good asked none (drop (suc k) before ++ p ∷ after) in
      let b : get_or (before ++ p ∷ after) k 0 ≡ get_or before k 0 = get_or_append_left before (p ∷ after) 0 k l in
      let c : drop (suc k) (before ++ p ∷ after) ≡ drop (suc k) before ++ p ∷ after = drop-append-le (suc k) before (p ∷ after) (omega (arith, l)) in
      let old : FitsBefore s (get_or (before ++ p ∷ after) k 0) (drop (suc k) (before ++ p ∷ after)) =
      EachTail-index (FitsBefore s) (before ++ p ∷ after) tails k (omega (arith, l, long)) in
      let old' : FitsBefore s (get_or before k 0) (drop (suc k) before ++ p ∷ after) = rw (← b, ← c) old in
      let d : claim s (get_or before k 0) r + held_by s (drop (suc k) before ++ p ∷ after) r ≤ capital s r = old' r lr in
      omega (arith, a, d)

  kept_order : Finishes (with_loan s p pairs) (before ++ p ∷ after)
  kept_order =
      Finishes-from_tails (with_loan s p pairs) (before ++ p ∷ after) lent h.everyone
      (EachTail-join (FitsBefore (with_loan s p pairs)) before (p ∷ after)
      (λ k l r lr.
      elim (cases_lt 0 (amount_in pairs r)) [
        | inl some ↦ by_asked k r l lr some
        | inr none ↦ by_other k r l lr (omega (arith, none))
      ])
      from_p)

pub place_is_enough : PlaceIsEnough
place_is_enough s good order h place l pairs asked fit =
    let p : ℕ = get_or order place 0 in
    let cut : order ≡ take place order ++ get_or order place 0 ∷ drop (place + 1) order =
    sym (take-append-drop place order) ∙ ap (λ (ys : List ℕ). take place order ++ ys) (drop_more order place 0 l) in
    subst (λ (ys : List ℕ). Finishes (with_loan s (get_or order place 0) pairs) ys) (sym cut)
    (kept_order s good (take place order) (get_or order place 0) (drop (place + 1) order)
    (subst (λ (ys : List ℕ). Finishes s ys) cut h) pairs asked fit)
