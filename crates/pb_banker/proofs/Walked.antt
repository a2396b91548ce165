-- The walk along an order that somebody gives.
use Rattle.std.proofs.Common.{◌≡◌, ◌≢◌, ℕ, ◌+◌, ◌<◌, ◌≤◌, Bool, true, false, not, List, [], ◌∷◌, ◌++◌, length, get_or, set, take, drop}
use Rattle.std.proofs.Common.{arith, sym, ap, subst, ◌∙◌, refl, inl, inr, replicate}
use Rattle.std.specs.Prelude.{Contains}
use Rattle.std.specs.List.Sorted.{IsPermutation}
use Rattle.std.proofs.lemmas.Bool.{false≢true, cases_eq, eq-eqb}
use Rattle.std.proofs.lemmas.List.{length-append, get_or_append_left, get_or_at, take-append-le, take-append-drop, take_at, take_more, length-take-le, get_or-take}
use Rattle.std.proofs.lemmas.List.{get_or-set_other, length-set, get_or-replicate, length-replicate}
use Rattle.std.proofs.lemmas.List.Sums.{sum_by-append, get_or-le-sum_by}
use Rattle.std.proofs.lemmas.List.Sorted.{sum_by-IsPermutation}
use Rattle.pb_base.specs.Banker.{BankerState, loan, processes, everyone, members, cash, held_by, FitsAfter}
use Rattle.pb_base.proofs.Cases.{bool_cases}
use Rattle.pb_base.proofs.Groups.{mark, times, times-range, range_below}
use Rattle.pb_banker.specs.declared.accounts.Accounts.{Accounts}
use Rattle.pb_banker.specs.Accounts.{state_of, FitsIn, IsSound}
use Rattle.pb_banker.specs.Jobs.{IsUsed}
use Rattle.pb_banker.specs.Orders.{free_slots, GoesWell, IsFinishingOrder, IsFirstShort}
use Rattle.pb_banker.proofs.TableCells.{processes_of, resources_of}
use Rattle.pb_banker.proofs.Search.{marked, EachFits, in_order, InTurn, InTurn-more, Progress, Progress-start}
use Rattle.pb_banker.proofs.SetMembers.{filter-same, filter-has, Contains-range}
use Rattle.pb_banker.proofs.Walk.{IsAvailable, IsAvailable-start, IsAvailable-more, FitsAfter-from_FitsIn, room_for}

-- an order so far: who is not in it waits, each fits after those before it, and what there is then
pub record Walked (s : BankerState) (used : List Bool) (order : List ℕ) (waiting : List Bool) (available : List ℕ) : Type 0 where
  pub parts : IsPermutation (everyone s) (order ++ members s (marked waiting))
  pub fits : EachFits s order
  pub have : IsAvailable s order available
  pub taken : (q : ℕ) → q < 64 → marked waiting q ≡ false → IsUsed used q
  pub long : length waiting ≡ 64
  pub jobs : (i : ℕ) → i < length order → IsUsed used (get_or order i 0)
  pub once : (i : ℕ) → i < length order → ¬ Contains (take i order) (get_or order i 0)

pub Walked-start : (a : Accounts) → IsSound a → (used : List Bool) → Walked (state_of a) used [] (replicate {A = Bool} 64 true) a.cash
Walked-start a h used =
    let n = processes_of a h in
    let few = h.few in
    let all : (p : ℕ) → p < 64 → marked (replicate {A = Bool} 64 true) p ≡ true = λ p l. get_or-replicate {A = Bool} 64 p true false l in
    let start : Progress (state_of a) [] (replicate {A = Bool} 64 true) =
    Progress-start (state_of a) (replicate {A = Bool} 64 true) (λ p l. all p (omega (arith, n, few, l))) in
    record {
      parts = start.parts;
      fits = start.fits;
      have = IsAvailable-start a h;
      taken = λ q l gone. absurd (false≢true (sym gone ∙ all q l));
      long = length-replicate {A = Bool} 64 true;
      jobs = λ i l. absurd (let no : ⊥ = omega (arith, l) in no);
      once = λ i l. absurd (let no : ⊥ = omega (arith, l) in no);
    }

some_times : (xs : List ℕ) (p : ℕ) → Contains xs p → 1 ≤ times p xs
some_times xs p h =
    let f : ℕ → ℕ = mark p in
    let c : f (get_or xs h.0 p) ≤ times p xs = get_or-le-sum_by (mark p) xs h.0 p h.1 in
    let one : mark p (get_or xs h.0 p) ≡ 1 = ap (mark p) h.2 ∙ (let e : mark p p ≡ 1 = rw (eq-eqb p p refl) refl in e) in
    omega (arith, c, one)

-- who waits is not in the order
pub Walked-out : (s : BankerState) (used : List Bool) (order : List ℕ) (waiting : List Bool) (available : List ℕ) (p : ℕ)
    → Walked s used order waiting available → p < processes s → marked waiting p ≡ true → ¬ Contains order p
Walked-out s used order waiting available p w l waits h =
    let there : Contains (members s (marked waiting)) p =
    filter-has (marked waiting) (everyone s) p waits (Contains-range (processes s) p l) in
    let a = some_times order p h in
    let b = some_times (members s (marked waiting)) p there in
    let most : times p (everyone s) ≤ 1 = times-range p 0 (processes s) in
    let same : times p (order ++ members s (marked waiting)) ≡ times p (everyone s) =
    sum_by-IsPermutation (mark p) (everyone s) (order ++ members s (marked waiting)) w.parts in
    let split : times p (order ++ members s (marked waiting)) ≡ times p order + times p (members s (marked waiting)) =
    sum_by-append (mark p) order (members s (marked waiting)) in
    omega (arith, a, b, most, same, split)

below_or_at : (k n : ℕ) → k < n + 1 → k ≢ n → k < n
below_or_at k n l ne = omega (arith, l, ne)

pub Walked-more : (s : BankerState) (used : List Bool) (order : List ℕ) (waiting : List Bool) (available next : List ℕ) (p : ℕ)
    → Walked s used order waiting available → p < processes s → p < 64 → IsUsed used p → marked waiting p ≡ true → FitsAfter s order p
    → IsAvailable s (order ++ p ∷ []) next → Walked s used (order ++ p ∷ []) (set waiting p false) next
Walked-more s used order waiting available next p h l small has waits fits have =
    let wide = h.long in
    let inside : p < length waiting = omega (arith, small, wide) in
    let kept : (q : ℕ) → q ≢ p → marked (set waiting p false) q ≡ marked waiting q = λ q ne. get_or-set_other waiting p q false false ne in
    let turn : InTurn s (order ++ p ∷ []) (set waiting p false) =
    InTurn-more s order waiting p (record { parts = h.parts; fits = h.fits }) l inside waits fits in
    let many : length (order ++ p ∷ []) ≡ length order + 1 = length-append order (p ∷ []) in
    let front : take (length order) (order ++ p ∷ []) ≡ order = take_at order (p ∷ []) (length order) refl in
    let last : get_or (order ++ p ∷ []) (length order) 0 ≡ p = get_or_at order p [] 0 (length order) refl in
    record {
      parts = turn.parts;
      fits = turn.fits;
      have = have;
      taken = λ q lq free.
          elim (cases_eq q p) [
            | inl e ↦ subst (λ (j : ℕ). IsUsed used j) (sym e) has
            | inr ne ↦ h.taken q lq (sym (kept q ne) ∙ free)
          ];
      long = length-set waiting p false ∙ wide;
      jobs = λ k b.
          elim (cases_eq k (length order)) [
            | inl at ↦ rw (at, last) has
            | inr ne ↦
                (let lt : k < length order = below_or_at k (length order) (omega (arith, b, many)) ne in
                let g : get_or (order ++ p ∷ []) k 0 ≡ get_or order k 0 = get_or_append_left order (p ∷ []) 0 k lt in
                rw g (h.jobs k lt))
          ];
      once = λ k b.
          elim (cases_eq k (length order)) [
            | inl at ↦ rw (at, front, last) (Walked-out s used order waiting available p h l waits)
            | inr ne ↦
                (let lt : k < length order = below_or_at k (length order) (omega (arith, b, many)) ne in
                let t : take k (order ++ p ∷ []) ≡ take k order = take-append-le k order (p ∷ []) (omega (arith, lt)) in
                let g : get_or (order ++ p ∷ []) k 0 ≡ get_or order k 0 = get_or_append_left order (p ∷ []) 0 k lt in
                rw (t, g) (h.once k lt))
          ];
    }

-- the next of the order
pub Walked-next : (a : Accounts) → IsSound a → (used : List Bool) (order : List ℕ) (k : ℕ) (waiting : List Bool) (available next : List ℕ)
    → Walked (state_of a) used (take k order) waiting available → k < length order → get_or order k 0 < a.processes
    → IsUsed used (get_or order k 0) → marked waiting (get_or order k 0) ≡ true → FitsIn (state_of a) available (get_or order k 0)
    → ((r : ℕ) → r < a.resources → get_or next r 0 ≡ get_or available r 0 + loan (state_of a) (get_or order k 0) r)
    → Walked (state_of a) used (take (k + 1) order) (set waiting (get_or order k 0) false) next
Walked-next a h used order k waiting available next w l lp has waits fits added =
    let n = processes_of a h in
    let few = h.few in
    let more : take (k + 1) order ≡ take k order ++ get_or order k 0 ∷ [] = take_more order k 0 l in
    rw more
    (Walked-more (state_of a) used (take k order) waiting available next (get_or order k 0) w (omega (arith, n, lp)) (omega (arith, few, lp)) has waits
    (FitsAfter-from_FitsIn (state_of a) (take k order) available (get_or order k 0) w.have fits)
    (IsAvailable-more a h (take k order) available next (get_or order k 0) w.have added))

pub Walked-room : (a : Accounts) → IsSound a → (used : List Bool) (order : List ℕ) (waiting : List Bool) (available : List ℕ) (p : ℕ)
    → Walked (state_of a) used order waiting available → p < a.processes → marked waiting p ≡ true
    → (r : ℕ) → r < a.resources → get_or available r 0 + loan (state_of a) p r ≤ 1000000
Walked-room a h used order waiting available p w l waits r lr =
    let n = processes_of a h in
    let m = resources_of a h in
    room_for (state_of a) order (members (state_of a) (marked waiting)) available p r h.well_formed w.parts w.have
    (filter-has (marked waiting) (everyone (state_of a)) p waits (Contains-range (processes (state_of a)) p (omega (arith, n, l))))
    (omega (arith, m, lr))

-- who does not wait is in the order
pub Walked-in : (s : BankerState) (used : List Bool) (order : List ℕ) (waiting : List Bool) (available : List ℕ) (p : ℕ)
    → Walked s used order waiting available → p < processes s → marked waiting p ≡ false → Contains order p
Walked-in s used order waiting available p w l gone =
    elim (in_order s order (marked waiting) w.parts p l) [
      | inl waits ↦ absurd (false≢true (sym gone ∙ waits))
      | inr h ↦ h
    ]

-- if no job waits, the order finishes
pub Walked-all : (s : BankerState) (used : List Bool) (order : List ℕ) (waiting : List Bool) (available : List ℕ)
    → Walked s used order waiting available → processes s ≤ 64 → ((p : ℕ) → p < 64 → IsUsed used p → marked waiting p ≡ false)
    → IsFinishingOrder s used order
Walked-all s used order waiting available w few none =
    let same : members s (marked waiting) ≡ free_slots s used =
    filter-same (λ p. not (get_or used p false)) (marked waiting) (everyone s)
    (λ k d l.
    let b = range_below 0 (processes s) k d l in
    let small : get_or (everyone s) k d < 64 = omega (arith, b, few) in
    elim (bool_cases (get_or used (get_or (everyone s) k d) false)) [
      | inl has ↦ none (get_or (everyone s) k d) small has ∙ sym (ap not has)
      | inr free ↦
          elim (bool_cases (marked waiting (get_or (everyone s) k d))) [
            | inl waits ↦ waits ∙ sym (ap not free)
            | inr gone ↦ absurd (false≢true (sym free ∙ w.taken (get_or (everyone s) k d) small gone))
          ]
    ]) in
    record {
      jobs = subst (λ (xs : List ℕ). IsPermutation (everyone s) (order ++ xs)) same w.parts;
      fits = w.fits;
    }

-- nothing is wrong in the places that were walked
pub Walked-well : (s : BankerState) (used : List Bool) (order : List ℕ) (k : ℕ) (waiting : List Bool) (available : List ℕ)
    → Walked s used (take k order) waiting available → k ≤ length order → GoesWell s used order k
Walked-well s used order k waiting available w l =
    let long : length (take k order) ≡ k = length-take-le k order l in
    record {
      jobs = λ i b. subst (λ (j : ℕ). IsUsed used j) (get_or-take k order i 0 b) (w.jobs i (omega (arith, long, b)));
      once = λ i b.
          (let g : get_or (take k order) i 0 ≡ get_or order i 0 = get_or-take k order i 0 b in
          let t : take i (take k order) ≡ take i order =
          sym (take-append-le i (take k order) (drop k order) (omega (arith, long, b)))
          ∙ ap (take i) (take-append-drop k order) in
          let apart : ¬ Contains (take i (take k order)) (get_or (take k order) i 0) = w.once i (omega (arith, long, b)) in
          rw (sym t, sym g) apart);
      fits = w.fits;
    }

-- what the one in the next place lacks
pub Walked-short : (s : BankerState) (used : List Bool) (order : List ℕ) (waiting : List Bool) (available : List ℕ) (p r : ℕ)
    → Walked s used order waiting available → IsFirstShort s (λ q. get_or available q 0) p r
    → IsFirstShort s (λ q. cash s q + held_by s order q) p r
Walked-short s used order waiting available p r w h =
    record {
      there = h.there;
      short = (let a = w.have r h.there in let b = h.short in omega (arith, a, b));
      first = λ q l.
          (let lr = h.there in
          let a = w.have q (omega (arith, l, lr)) in
          let b = h.first q l in
          omega (arith, a, b));
    }
