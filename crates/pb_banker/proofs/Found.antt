-- Those whom a search by the asker finds, and the order that it makes.
use Rattle.std.proofs.Common.{◌≡◌, ℕ, ◌+◌, ◌<◌, ◌≤◌, Bool, true, false, not, List, [], ◌∷◌, ◌++◌, length, get_or, set, take, filter}
use Rattle.std.proofs.Common.{arith, sym, ap, subst, ◌∙◌, refl, replicate}
use Rattle.std.specs.Prelude.{All, Contains, nat_eq}
use Rattle.std.specs.List.{range_with_len}
use Rattle.std.specs.List.Sorted.{IsPermutation}
use Rattle.std.proofs.lemmas.Bool.{false≢true, eq-eqb}
use Rattle.std.proofs.lemmas.List.{length-append, length-take-le, length-set, get_or-take, take-take, take_more_set}
use Rattle.std.proofs.lemmas.List.{length-replicate, get_or-replicate}
use Rattle.std.proofs.lemmas.List.Sorted.{length_permutation, IsPermutation-trans, IsPermutation-append_right}
use Rattle.std.proofs.lemmas.List.FromFn.{length-range_with_len}
use Rattle.pb_base.specs.declared.pair.Pair.{Pair}
use Rattle.pb_base.specs.Banker.{BankerState, processes, everyone, members, with_loan, FitsAfter, Finishes, IsSafe}
use Rattle.pb_banker.specs.declared.accounts.Accounts.{Accounts}
use Rattle.pb_banker.specs.declared.accounts.Search.{Search}
use Rattle.pb_banker.specs.Accounts.{state_of, FitsIn, IsSound}
use Rattle.pb_banker.specs.Askers.{others_than, IsCovered, FitBy, IsLentFrom, IsFound, IsLeftBy}
use Rattle.pb_banker.proofs.AskerLaws.{asker_is_enough, place_is_enough}
use Rattle.pb_banker.proofs.Moves.{others_than-all, place_below, has_place}
use Rattle.pb_banker.proofs.Parts.{IsPermutation-part}
use Rattle.pb_banker.proofs.Search.{marked, InTurn, InTurn-more, Progress-start, waiting_stuck, safe_none_stuck}
use Rattle.pb_banker.proofs.SetMembers.{filter-has, Contains-range}
use Rattle.pb_banker.proofs.TableCells.{processes_of}
use Rattle.pb_banker.proofs.Walk.{FitsAfter-from_FitsIn, FitsIn-from_FitsAfter, IsAvailable-start}

-- ---- those found

-- while somebody waits, fewer are found than there are
pub found_few : (a : Accounts) → IsSound a → (f : Search) → IsFound (state_of a) f → (p : ℕ) → p < a.processes
    → get_or f.waiting p false ≡ true → f.count < a.processes
found_few a h f found p l waits =
    let n = processes_of a h in
    let few = found.few in
    let long = found.places in
    let front : length (take f.count f.order) ≡ f.count = length-take-le f.count f.order (omega (arith, few, long)) in
    let has : Contains (members (state_of a) (marked f.waiting)) p =
    filter-has (marked f.waiting) (everyone (state_of a)) p waits (Contains-range (processes (state_of a)) p (omega (arith, n, l))) in
    let some = has.1 in
    let x : length (take f.count f.order ++ members (state_of a) (marked f.waiting)) ≡ length (everyone (state_of a)) =
    length_permutation (everyone (state_of a)) (take f.count f.order ++ members (state_of a) (marked f.waiting)) found.parts in
    let y = length-append (take f.count f.order) (members (state_of a) (marked f.waiting)) in
    let z : length (everyone (state_of a)) ≡ processes (state_of a) = length-range_with_len 0 (processes (state_of a)) in
    omega (arith, n, front, some, x, y, z)

pub nobody_found : (a : Accounts) → IsSound a
    → IsFound (state_of a) (record { order = replicate {A = ℕ} 64 0; waiting = replicate {A = Bool} 64 true; count = 0 })
nobody_found a h =
    let n = processes_of a h in
    let few = h.few in
    let start =
    Progress-start (state_of a) (replicate {A = Bool} 64 true)
    (λ p l. get_or-replicate {A = Bool} 64 p true false (omega (arith, n, few, l))) in
    record {
      few = omega arith;
      places = length-replicate {A = ℕ} 64 0;
      flags = length-replicate {A = Bool} 64 true;
      parts = start.parts;
      fits = start.fits;
    }

pub one_found : (a : Accounts) → IsSound a → (f : Search) → IsFound (state_of a) f
    → (p : ℕ) → p < a.processes → get_or f.waiting p false ≡ true → (amounts : List ℕ) → IsLeftBy (state_of a) f amounts
    → FitsIn (state_of a) amounts p
    → IsFound (state_of a) (record { order = set f.order f.count p; waiting = set f.waiting p false; count = f.count + 1 })
one_found a h f found p l waits amounts left fits =
    let n = processes_of a h in
    let few = h.few in
    let long = found.places in
    let long' = found.flags in
    let room = found_few a h f found p l waits in
    let turn : InTurn (state_of a) (take f.count f.order ++ p ∷ []) (set f.waiting p false) =
    InTurn-more (state_of a) (take f.count f.order) f.waiting p (record { parts = found.parts; fits = found.fits })
    (omega (arith, n, l)) (omega (arith, l, few, long')) waits
    (FitsAfter-from_FitsIn (state_of a) (take f.count f.order) amounts p left fits) in
    let more : take (f.count + 1) (set f.order f.count p) ≡ take f.count f.order ++ p ∷ [] =
    take_more_set f.order f.count p (omega (arith, room, few, long)) in
    record {
      few = omega (arith, room, few);
      places = length-set f.order f.count p ∙ long;
      flags = length-set f.waiting p false ∙ long';
      parts = subst (λ (xs : List ℕ). IsPermutation (everyone (state_of a)) (xs ++ members (state_of a) (marked (set f.waiting p false)))) (sym more) turn.parts;
      fits = subst (λ (xs : List ℕ). (k : ℕ) → k < length xs → FitsAfter (state_of a) (take k xs) (get_or xs k 0)) (sym more) turn.fits;
    }

-- if nobody fits who waits, and the asker does, the state is not safe
pub stuck_asker : (a : Accounts) → IsSound a → (f : Search) → IsFound (state_of a) f → (amounts : List ℕ) → IsLeftBy (state_of a) f amounts
    → ((q : ℕ) → q < a.processes → get_or f.waiting q false ≡ true → ¬ FitsIn (state_of a) amounts q)
    → (p : ℕ) → p < a.processes → get_or f.waiting p false ≡ true → ¬ IsSafe (state_of a)
stuck_asker a h f found amounts left none p l waits safe =
    let n = processes_of a h in
    let stuck =
    waiting_stuck (state_of a) (take f.count f.order) f.waiting found.parts
    (λ q lq w fits. none q (omega (arith, n, lq)) w (FitsIn-from_FitsAfter (state_of a) (take f.count f.order) amounts q left fits)) in
    false≢true (sym (safe_none_stuck (state_of a) (marked f.waiting) safe stuck p (omega (arith, n, l))) ∙ waits)

-- whoever is below the number of processes is met along an order
pub all_met : (a : Accounts) → IsSound a → (P : ℕ → Type 0) (order : List ℕ) → IsPermutation (everyone (state_of a)) (take a.processes order)
    → ((i : ℕ) → i < a.processes → P (get_or order i 0)) → (q : ℕ) → q < a.processes → P q
all_met a h P order all each q l =
    let n = processes_of a h in
    let all' : IsPermutation (range_with_len 0 a.processes) (take a.processes order) =
    subst (λ (m : ℕ). IsPermutation (range_with_len 0 m) (take a.processes order)) n all in
    let at = place_below a.processes order q (has_place a.processes order q all' l) in
    subst P at.2 (each at.0 at.1)

-- ---- the orders after a loan

module _ (a : Accounts) (h : IsSound a) (p : ℕ) (pairs : List Pair) (order : List ℕ)
    (lent : IsLentFrom (state_of a) p pairs (take a.processes order)) where
  people : processes lent.before ≡ a.processes
  people = sym (ap processes lent.is) ∙ processes_of a h

  pub asker_below : p < a.processes
  asker_below = (let e = people in let l = lent.covered.process in omega (arith, e, l))

  pub everyone_in : IsPermutation (everyone (state_of a)) (take a.processes order)
  everyone_in =
      subst (λ (s : BankerState). IsPermutation (everyone s) (take a.processes order)) (sym lent.is) lent.finishes.everyone

  pub range_in : IsPermutation (range_with_len 0 a.processes) (take a.processes order)
  range_in = subst (λ (m : ℕ). IsPermutation (range_with_len 0 m) (take a.processes order)) (processes_of a h) everyone_in

  after_loan : (xs : List ℕ) → Finishes (with_loan lent.before p pairs) xs → Finishes (state_of a) xs
  after_loan xs f = subst (λ (s : BankerState). Finishes s xs) (sym lent.is) f

  pub front_finishes : (next : List ℕ) → FitsIn (state_of a) a.cash p → take a.processes next ≡ p ∷ others_than p (take a.processes order)
      → Finishes (state_of a) (take a.processes next)
  front_finishes next fits is =
      let first : FitsAfter (state_of a) [] p = FitsAfter-from_FitsIn (state_of a) [] a.cash p (IsAvailable-start a h) fits in
      let turn : (k : ℕ) → k < length (p ∷ []) → FitsAfter (with_loan lent.before p pairs) (take k (p ∷ [])) (get_or (p ∷ []) k 0) =
      λ k l. subst (λ (s : BankerState). FitsAfter s (take k (p ∷ [])) (get_or (p ∷ []) k 0)) lent.is
      (let at : k ≡ 0 = omega (arith, l) in rw at first) in
      subst (λ (xs : List ℕ). Finishes (state_of a) xs) (sym is)
      (after_loan (p ∷ others_than p (take a.processes order))
      (asker_is_enough lent.before lent.well_formed (take a.processes order) lent.finishes p pairs lent.covered
      (p ∷ []) (λ q. not (nat_eq q p)) (ap not (eq-eqb p p refl))
      (others_than-all (processes lent.before) (take a.processes order) p lent.finishes.everyone lent.covered.process) turn))

  pub place_finishes : (place : ℕ) → place < a.processes → get_or order place 0 ≡ p → a.processes ≤ length order
      → All (λ pair. 0 < pair.amount → FitBy (state_of a) (take place order) pair.resource) pairs → Finishes (state_of a) (take a.processes order)
  place_finishes place l at long fit =
      let is : get_or (take a.processes order) place 0 ≡ p = get_or-take a.processes order place 0 l ∙ at in
      let front : take place (take a.processes order) ≡ take place order = take-take place a.processes order (omega (arith, l)) in
      let many = length-take-le a.processes order long in
      let fit' : All (λ pair. 0 < pair.amount → FitBy (with_loan lent.before p pairs) (take place (take a.processes order)) pair.resource) pairs =
      subst (λ (xs : List ℕ). All (λ pair. 0 < pair.amount → FitBy (with_loan lent.before p pairs) xs pair.resource) pairs) (sym front)
      (subst (λ (s : BankerState). All (λ pair. 0 < pair.amount → FitBy s (take place order) pair.resource) pairs) lent.is fit) in
      after_loan (take a.processes order)
      (subst (λ (q : ℕ). Finishes (with_loan lent.before q pairs) (take a.processes order)) is
      (place_is_enough lent.before lent.well_formed (take a.processes order) lent.finishes place (omega (arith, l, many)) pairs
      (subst (λ (q : ℕ). IsCovered lent.before q pairs) (sym is) lent.covered)
      (subst (λ (q : ℕ). All (λ pair. 0 < pair.amount → FitBy (with_loan lent.before q pairs) (take place (take a.processes order)) pair.resource) pairs) (sym is) fit')))

  -- those found first, and the others as they were
  parts_of : (f : Search) → IsFound (state_of a) f
      → IsPermutation (everyone (state_of a)) (take f.count f.order ++ filter (marked f.waiting) (take a.processes order))
  parts_of f found =
      IsPermutation-trans (everyone (state_of a)) (take f.count f.order ++ members (state_of a) (marked f.waiting))
      (take f.count f.order ++ filter (marked f.waiting) (take a.processes order)) found.parts
      (IsPermutation-append_right (take f.count f.order) (members (state_of a) (marked f.waiting)) (filter (marked f.waiting) (take a.processes order))
      (IsPermutation-part (marked f.waiting) (everyone (state_of a)) (take a.processes order) everyone_in))

  pub found_finishes : (f : Search) (next : List ℕ) → IsFound (state_of a) f → get_or f.waiting p false ≡ false
      → take a.processes next ≡ take f.count f.order ++ filter (marked f.waiting) (take a.processes order)
      → Finishes (state_of a) (take a.processes next)
  found_finishes f next found out is =
      subst (λ (xs : List ℕ). Finishes (state_of a) xs) (sym is)
      (after_loan (take f.count f.order ++ filter (marked f.waiting) (take a.processes order))
      (asker_is_enough lent.before lent.well_formed (take a.processes order) lent.finishes p pairs lent.covered
      (take f.count f.order) (marked f.waiting) out
      (subst (λ (s : BankerState). IsPermutation (everyone s) (take f.count f.order ++ filter (marked f.waiting) (take a.processes order))) lent.is
      (parts_of f found))
      (subst (λ (s : BankerState). (k : ℕ) → k < length (take f.count f.order) → FitsAfter s (take k (take f.count f.order)) (get_or (take f.count f.order) k 0))
      lent.is found.fits)))

  -- they are as many as there are
  pub found_room : (f : Search) → IsFound (state_of a) f
      → f.count + length (filter (marked f.waiting) (take a.processes order)) ≡ a.processes
  found_room f found =
      let n = processes_of a h in
      let long = found.places in
      let few = found.few in
      let front : length (take f.count f.order) ≡ f.count = length-take-le f.count f.order (omega (arith, few, long)) in
      let x = length_permutation (everyone (state_of a)) (take f.count f.order ++ filter (marked f.waiting) (take a.processes order)) (parts_of f found) in
      let y = length-append (take f.count f.order) (filter (marked f.waiting) (take a.processes order)) in
      let z : length (everyone (state_of a)) ≡ processes (state_of a) = length-range_with_len 0 (processes (state_of a)) in
      omega (arith, n, front, x, y, z)
