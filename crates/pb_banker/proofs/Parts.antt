-- A part of an order, each in its old place among the others of the part.
use Rattle.std.proofs.Common.{◌≡◌, ℕ, suc, ◌+◌, ◌<◌, ◌≤◌, Bool, true, false, not, List, [], ◌∷◌, ◌++◌, length, get_or, set, take, drop}
use Rattle.std.proofs.Common.{filter, arith, sym, ap, ◌∙◌, refl, inl, inr, append_assoc, append-nil}
use Rattle.std.specs.Prelude.{Contains}
use Rattle.std.specs.List.{remove}
use Rattle.std.specs.List.Sorted.{IsPermutation}
use Rattle.std.proofs.lemmas.Bool.{false≢true, eq-eqb}
use Rattle.std.proofs.lemmas.Bool.Decides.{eqb_tells}
use Rattle.std.proofs.lemmas.List.{length-append, take_more, take-take, take-append-drop, take_more_set}
use Rattle.std.proofs.lemmas.List.Elements.{filter-append}
use Rattle.std.proofs.lemmas.List.Filters.{sum_by-filter_both}
use Rattle.std.proofs.lemmas.List.Sums.{sum_by-cons}
use Rattle.std.proofs.lemmas.List.Sorted.{IsPermutation-refl, IsPermutation-trans, IsPermutation-sym, IsPermutation-cons, IsPermutation-remove}
use Rattle.std.proofs.lemmas.List.Sorted.{sum_by-IsPermutation}
use Rattle.pb_base.specs.Banker.{BankerState, loan, held_by}
use Rattle.pb_base.proofs.Cases.{bool_cases}
use Rattle.pb_base.proofs.Groups.{mark, times}
use Rattle.pb_base.proofs.Safety.{FitsBefore}
use Rattle.pb_base.proofs.Tails.{EachTail}
use Rattle.pb_banker.proofs.SetMembers.{filter-yes, filter-no}

-- it holds no more
part_held : (s : BankerState) (g : ℕ → Bool) (xs : List ℕ) (r : ℕ) → held_by s (filter g xs) r ≤ held_by s xs r
part_held s g xs r =
    let both : held_by s (filter g xs) r + held_by s (filter (λ q. not (g q)) xs) r ≡ held_by s xs r =
    sum_by-filter_both g (λ q. not (g q)) (λ q. refl) (λ q. loan s q r) xs in
    omega (arith, both)

-- who fits with all after him, fits with those of the part that are after him
pub part_tails : (s : BankerState) (g : ℕ → Bool) (xs : List ℕ) → EachTail (FitsBefore s) xs → EachTail (FitsBefore s) (filter g xs)
part_tails s g [] h = tt
part_tails s g (x ∷ xs) h =
    let rest : EachTail (FitsBefore s) (filter g xs) = part_tails s g xs h.1 in
    let here : FitsBefore s x (filter g xs) =
    λ r lr. (let a = h.0 r lr in let b = part_held s g xs r in omega (arith, a, b)) in
    elim (bool_cases (g x)) [
      | inl e ↦ rw (filter-yes g x xs e) (here, rest)
      | inr e ↦ rw (filter-no g x xs e) rest
    ]

-- who does not belong to the part is not in it
pub part_times : (g : ℕ → Bool) (p : ℕ) → g p ≡ false → (xs : List ℕ) → times p (filter g xs) ≡ 0
part_times g p out [] = refl
part_times g p out (x ∷ xs) =
    let rest : times p (filter g xs) ≡ 0 = part_times g p out xs in
    elim (bool_cases (g x)) [
      | inl e ↦
          (let none : mark p x ≡ 0 =
          elim (eqb_tells x p) [
            | inl h ↦ absurd (false≢true (sym out ∙ ap g (sym h.1) ∙ e))
            | inr h ↦ rw h.0 refl
          ] in
          let cons = sum_by-cons (mark p) x (filter g xs) in
          let goal : times p (x ∷ filter g xs) ≡ 0 = omega (arith, rest, none, cons) in
          rw (filter-yes g x xs e) goal)
      | inr e ↦ rw (filter-no g x xs e) rest
    ]

-- who belongs to the part is in it as often
part_times_in : (g : ℕ → Bool) (p : ℕ) → g p ≡ true → (xs : List ℕ) → times p (filter g xs) ≡ times p xs
part_times_in g p belongs [] = refl
part_times_in g p belongs (x ∷ xs) =
    let rest : times p (filter g xs) ≡ times p xs = part_times_in g p belongs xs in
    let all = sum_by-cons (mark p) x xs in
    elim (bool_cases (g x)) [
      | inl e ↦
          (let some = sum_by-cons (mark p) x (filter g xs) in
          let goal : times p (x ∷ filter g xs) ≡ times p (x ∷ xs) = omega (arith, rest, all, some) in
          rw (filter-yes g x xs e) goal)
      | inr e ↦
          (let none : mark p x ≡ 0 =
          elim (eqb_tells x p) [
            | inl h ↦ absurd (false≢true (sym e ∙ ap g h.1 ∙ belongs))
            | inr h ↦ rw h.0 refl
          ] in
          let goal : times p (filter g xs) ≡ times p (x ∷ xs) = omega (arith, rest, all, none) in
          rw (filter-no g x xs e) goal)
    ]

-- ---- the same part of two orders

has_one : (p : ℕ) (xs : List ℕ) → 1 ≤ times p xs → Contains xs p
has_one p [] some = absurd (omega (arith, some))
has_one p (x ∷ xs) some =
    let all = sum_by-cons (mark p) x xs in
    elim (eqb_tells x p) [
      | inl h ↦ (0, (omega arith), h.1)
      | inr h ↦
          (let none : mark p x ≡ 0 = rw h.0 refl in
          let rest = has_one p xs (omega (arith, some, all, none)) in
          let l = rest.1 in
          (suc rest.0, (omega (arith, l)), rest.2))
    ]

-- lists in which each number occurs as often
permutation_from_times : (xs ys : List ℕ) → ((q : ℕ) → times q xs ≡ times q ys) → IsPermutation xs ys
permutation_from_times [] [] same = IsPermutation-refl {X = ℕ} []
permutation_from_times [] (y ∷ ys) same =
    let none : times y [] ≡ times y (y ∷ ys) = same y in
    let cons = sum_by-cons (mark y) y ys in
    let one : mark y y ≡ 1 = rw (eq-eqb y y refl) refl in
    let empty : times y [] ≡ 0 = refl in
    absurd (omega (arith, none, cons, one, empty))
permutation_from_times (x ∷ xs) ys same =
    let first = sum_by-cons (mark x) x xs in
    let one : mark x x ≡ 1 = rw (eq-eqb x x refl) refl in
    let also = same x in
    let at = has_one x ys (omega (arith, first, one, also)) in
    let less : IsPermutation ys (x ∷ remove ys at.0) = IsPermutation-remove ys at.0 x at.1 (sym at.2) in
    let rest : IsPermutation xs (remove ys at.0) =
    permutation_from_times xs (remove ys at.0)
    (λ q.
    let a = sum_by-cons (mark q) x xs in
    let b = sum_by-cons (mark q) x (remove ys at.0) in
    let c : times q (x ∷ remove ys at.0) ≡ times q ys = sum_by-IsPermutation (mark q) ys (x ∷ remove ys at.0) less in
    let d = same q in
    omega (arith, a, b, c, d)) in
    IsPermutation-trans (x ∷ xs) (x ∷ remove ys at.0) ys (IsPermutation-cons x xs (remove ys at.0) rest)
    (IsPermutation-sym ys (x ∷ remove ys at.0) less)

pub IsPermutation-part : (g : ℕ → Bool) (xs ys : List ℕ) → IsPermutation xs ys → IsPermutation (filter g xs) (filter g ys)
IsPermutation-part g xs ys all =
    permutation_from_times (filter g xs) (filter g ys)
    (λ q.
    elim (bool_cases (g q)) [
      | inl e ↦
          part_times_in g q e xs ∙ sym (sum_by-IsPermutation (mark q) xs ys all) ∙ sym (part_times_in g q e ys)
      | inr e ↦ part_times g q e xs ∙ sym (part_times g q e ys)
    ])

-- ---- a part of the first of an order

-- one more belongs to it
pub part_next : (g : ℕ → Bool) (xs : List ℕ) (k : ℕ) → k < length xs → g (get_or xs k 0) ≡ true
    → filter g (take (k + 1) xs) ≡ filter g (take k xs) ++ get_or xs k 0 ∷ []
part_next g xs k l belongs =
    ap (filter g) (take_more xs k 0 l)
    ∙ filter-append g (take k xs) (get_or xs k 0 ∷ [])
    ∙ ap (λ (ys : List ℕ). filter g (take k xs) ++ ys) (filter-yes g (get_or xs k 0) [] belongs)

-- one more does not
pub part_next_no : (g : ℕ → Bool) (xs : List ℕ) (k : ℕ) → k < length xs → g (get_or xs k 0) ≡ false
    → filter g (take (k + 1) xs) ≡ filter g (take k xs)
part_next_no g xs k l not_in =
    ap (filter g) (take_more xs k 0 l)
    ∙ filter-append g (take k xs) (get_or xs k 0 ∷ [])
    ∙ ap (λ (ys : List ℕ). filter g (take k xs) ++ ys) (filter-no g (get_or xs k 0) [] not_in)
    ∙ append-nil (filter g (take k xs))

-- with one more it is at most as large as that of a longer order
pub part_room : (g : ℕ → Bool) (xs : List ℕ) (k n : ℕ) → k < n → n ≤ length xs → g (get_or xs k 0) ≡ true
    → length (filter g (take k xs)) + 1 ≤ length (filter g (take n xs))
part_room g xs k n l few belongs =
    let next = ap length (part_next g xs k (omega (arith, l, few)) belongs) in
    let one = length-append (filter g (take k xs)) (get_or xs k 0 ∷ []) in
    let front : take (k + 1) (take n xs) ≡ take (k + 1) xs = take-take (k + 1) n xs (omega (arith, l)) in
    let whole : filter g (take n xs) ≡ filter g (take (k + 1) xs) ++ filter g (drop (k + 1) (take n xs)) =
    ap (filter g) (sym (take-append-drop (k + 1) (take n xs)))
    ∙ filter-append g (take (k + 1) (take n xs)) (drop (k + 1) (take n xs))
    ∙ ap (λ (ys : List ℕ). filter g ys ++ filter g (drop (k + 1) (take n xs))) front in
    let all = ap length whole in
    let both = length-append (filter g (take (k + 1) xs)) (filter g (drop (k + 1) (take n xs))) in
    omega (arith, next, one, all, both)

-- one more is put after a part
pub one_put : (g : ℕ → Bool) (front next order : List ℕ) (count k : ℕ) → k < length order → g (get_or order k 0) ≡ true
    → count < length next → take count next ≡ front ++ filter g (take k order)
    → take (count + 1) (set next count (get_or order k 0)) ≡ front ++ filter g (take (k + 1) order)
one_put g front next order count k l belongs room so_far =
    take_more_set next count (get_or order k 0) room
    ∙ ap (λ (ys : List ℕ). ys ++ get_or order k 0 ∷ []) so_far
    ∙ append_assoc front (filter g (take k order)) (get_or order k 0 ∷ [])
    ∙ ap (λ (ys : List ℕ). front ++ ys) (sym (part_next g order k l belongs))
