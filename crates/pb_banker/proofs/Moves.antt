-- Orders in which one process is moved.
use Rattle.std.proofs.Common.{◌≡◌, ◌≢◌, ℕ, ◌+◌, ◌-◌, ◌<◌, ◌≤◌, not, List, [], ◌∷◌, ◌++◌, length, get_or, set, take, drop}
use Rattle.std.proofs.Common.{arith, sym, ap, subst, ◌∙◌, refl, inl, inr, append_assoc}
use Rattle.std.specs.Prelude.{Contains, nat_eq}
use Rattle.std.specs.List.{range_with_len}
use Rattle.std.specs.List.Sorted.{IsPermutation}
use Rattle.std.proofs.lemmas.Bool.{eq-eqb}
use Rattle.std.proofs.lemmas.Bool.Decides.{eqb_tells}
use Rattle.std.proofs.lemmas.List.{length-append, take-append-drop, take_more, take-take, take_at, drop_at, length-take-le}
use Rattle.std.proofs.lemmas.List.{length-take, get_or-take, get_or_default, take_more_set, take_all}
use Rattle.std.proofs.lemmas.List.Elements.{filter-append}
use Rattle.std.proofs.lemmas.List.Sums.{sum_by-cons, sum_by-append}
use Rattle.std.proofs.lemmas.List.Sorted.{sum_by-IsPermutation, Contains-permutation, All-permutation, length_permutation}
use Rattle.std.proofs.lemmas.List.Sorted.{IsPermutation-trans, IsPermutation-middle}
use Rattle.std.proofs.lemmas.List.FromFn.{length-range_with_len}
use Rattle.pb_base.proofs.Groups.{mark, times, times-none, times-range, range_below}
use Rattle.pb_banker.specs.Askers.{others_than}
use Rattle.pb_banker.proofs.SetMembers.{filter-yes, filter-no, Contains-range}

-- ---- an order without p

-- whoever is not in an order is not missed
pub others_than-none : (p : ℕ) (xs : List ℕ) → times p xs ≡ 0 → others_than p xs ≡ xs
others_than-none p [] none = refl
others_than-none p (x ∷ xs) none =
    let cons = sum_by-cons (mark p) x xs in
    elim (eqb_tells x p) [
      | inl h ↦ (let one : mark p x ≡ 1 = rw h.0 refl in absurd (omega (arith, cons, none, one)))
      | inr h ↦
          filter-yes (λ q. not (nat_eq q p)) x xs (ap not h.0)
          ∙ ap (λ (ys : List ℕ). x ∷ ys) (others_than-none p xs (omega (arith, cons, none)))
    ]

pub others_than-cut : (p : ℕ) (before after : List ℕ) → times p before ≡ 0 → times p after ≡ 0
    → others_than p (before ++ p ∷ after) ≡ before ++ after
others_than-cut p before after none none' =
    filter-append (λ q. not (nat_eq q p)) before (p ∷ after)
    ∙ ap (λ (ys : List ℕ). ys ++ others_than p (p ∷ after)) (others_than-none p before none)
    ∙ ap (λ (ys : List ℕ). before ++ ys)
    (filter-no (λ q. not (nat_eq q p)) p after (ap not (eq-eqb p p refl)) ∙ others_than-none p after none')

-- ---- where p is

-- an order of all below n is cut at p, which is neither before nor after itself
pub record IsCutAt (n : ℕ) (order : List ℕ) (p k : ℕ) : Type 0 where
  pub before : List ℕ
  pub after : List ℕ
  pub place : length before ≡ k
  pub whole : take n order ≡ before ++ p ∷ after
  pub split : order ≡ (before ++ p ∷ []) ++ (after ++ drop n order)
  pub none_before : times p before ≡ 0
  pub none_after : times p after ≡ 0

pub cut_at : (n : ℕ) (order : List ℕ) (p k : ℕ) → IsPermutation (range_with_len 0 n) (take n order) → n ≤ length order
    → k < n → get_or order k 0 ≡ p → IsCutAt n order p k
cut_at n order p k all long l at =
    let before : List ℕ = take k order in
    let after : List ℕ = drop (k + 1) (take n order) in
    let more : take (k + 1) (take n order) ≡ take k order ++ p ∷ [] =
    take-take (k + 1) n order (omega (arith, l))
    ∙ take_more order k 0 (omega (arith, l, long))
    ∙ ap (λ (q : ℕ). take k order ++ q ∷ []) at in
    let pieces : take n order ≡ (take k order ++ p ∷ []) ++ drop (k + 1) (take n order) =
    sym (take-append-drop (k + 1) (take n order))
    ∙ ap (λ (ys : List ℕ). ys ++ drop (k + 1) (take n order)) more in
    let whole : take n order ≡ take k order ++ p ∷ drop (k + 1) (take n order) =
    pieces ∙ append_assoc (take k order) (p ∷ []) (drop (k + 1) (take n order)) in
    let once : times p (range_with_len 0 n) ≤ 1 = times-range p 0 n in
    let same : times p (take n order) ≡ times p (range_with_len 0 n) = sum_by-IsPermutation (mark p) (range_with_len 0 n) (take n order) all in
    let parts : times p (take n order) ≡ times p (take k order) + times p (p ∷ drop (k + 1) (take n order)) =
    ap (times p) whole ∙ sum_by-append (mark p) (take k order) (p ∷ drop (k + 1) (take n order)) in
    let cons : times p (p ∷ drop (k + 1) (take n order)) ≡ mark p p + times p (drop (k + 1) (take n order)) =
    sum_by-cons (mark p) p (drop (k + 1) (take n order)) in
    let one : mark p p ≡ 1 = rw (eq-eqb p p refl) refl in
    record {
      before = take k order;
      after = drop (k + 1) (take n order);
      place = length-take-le k order (omega (arith, l, long));
      whole = whole;
      split = sym (take-append-drop n order)
          ∙ ap (λ (ys : List ℕ). ys ++ drop n order) pieces
          ∙ append_assoc (take k order ++ p ∷ []) (drop (k + 1) (take n order)) (drop n order);
      none_before = omega (arith, once, same, parts, cons, one);
      none_after = omega (arith, once, same, parts, cons, one);
    }

-- whoever is below n has a place
pub has_place : (n : ℕ) (order : List ℕ) (p : ℕ) → IsPermutation (range_with_len 0 n) (take n order) → p < n → Contains (take n order) p
has_place n order p all l = Contains-permutation (range_with_len 0 n) (take n order) p all (Contains-range n p l)

-- whoever has a place in the first of an order has one in all of it
pub place_below : (n : ℕ) (order : List ℕ) (p : ℕ) → Contains (take n order) p → (k : ℕ) × k < n × (get_or order k 0 ≡ p)
place_below n order p h =
    let many = length-take n order in
    let l = h.1 in
    let below : h.0 < n = omega (arith, many, l) in
    (h.0, below, sym (get_or-take n order h.0 0 below) ∙ get_or_default (take n order) h.0 0 p h.1 ∙ h.2)

-- all below n are p and the others
pub others_than-all : (n : ℕ) (order : List ℕ) (p : ℕ) → IsPermutation (range_with_len 0 n) order → p < n
    → IsPermutation (range_with_len 0 n) (p ∷ others_than p order)
others_than-all n order p all l =
    let many : length order ≡ n = length_permutation (range_with_len 0 n) order all ∙ length-range_with_len 0 n in
    let first : take n order ≡ order = take_all n order (omega (arith, many)) in
    let all' : IsPermutation (range_with_len 0 n) (take n order) = subst (λ (ys : List ℕ). IsPermutation (range_with_len 0 n) ys) (sym first) all in
    let at = place_below n order p (has_place n order p all' l) in
    let cut = cut_at n order p at.0 all' (omega (arith, many)) at.1 at.2 in
    let whole : order ≡ cut.before ++ p ∷ cut.after = sym first ∙ cut.whole in
    let others : others_than p order ≡ cut.before ++ cut.after =
    ap (others_than p) whole ∙ others_than-cut p cut.before cut.after cut.none_before cut.none_after in
    subst (λ (ys : List ℕ). IsPermutation (range_with_len 0 n) (p ∷ ys)) (sym others)
    (IsPermutation-trans (range_with_len 0 n) (cut.before ++ p ∷ cut.after) (p ∷ (cut.before ++ cut.after))
    (subst (λ (ys : List ℕ). IsPermutation (range_with_len 0 n) ys) whole all) (IsPermutation-middle cut.before p cut.after))

-- ---- p moved to the front, and after all others

pub moved_to_front : (n : ℕ) (order : List ℕ) (p k : ℕ) (front : List ℕ) → IsCutAt n order p k → n ≤ length order
    → front ≡ drop k (take (k + 1) order) ++ take k (take (k + 1) order)
    → take n (front ++ drop (k + 1) order) ≡ p ∷ others_than p (take n order)
moved_to_front n order p k front cut long is =
    let b : List ℕ = cut.before in
    let a : List ℕ = cut.after in
    let r : List ℕ = drop n order in
    let w : List ℕ = cut.before ++ p ∷ [] in
    let lw : length (cut.before ++ p ∷ []) ≡ k + 1 = length-append cut.before (p ∷ []) ∙ ap (λ (m : ℕ). m + 1) cut.place in
    let up : take (k + 1) order ≡ cut.before ++ p ∷ [] =
    ap (take (k + 1)) cut.split ∙ take_at (cut.before ++ p ∷ []) (cut.after ++ drop n order) (k + 1) lw in
    let down : drop (k + 1) order ≡ cut.after ++ drop n order =
    ap (drop (k + 1)) cut.split ∙ drop_at (cut.before ++ p ∷ []) (cut.after ++ drop n order) (k + 1) lw in
    let turned : front ≡ p ∷ cut.before =
    is ∙ ap (λ (ys : List ℕ). drop k ys ++ take k ys) up
    ∙ ap (λ (ys : List ℕ). ys ++ take k (cut.before ++ p ∷ [])) (drop_at cut.before (p ∷ []) k cut.place)
    ∙ ap (λ (ys : List ℕ). p ∷ ys) (take_at cut.before (p ∷ []) k cut.place) in
    let len : length (p ∷ (cut.before ++ cut.after)) ≡ n =
    (let e = length-append cut.before cut.after in
    let f = length-append cut.before (p ∷ cut.after) in
    let g : length (take n order) ≡ length (cut.before ++ p ∷ cut.after) = ap length cut.whole in
    let m = length-take-le n order long in
    omega (arith, e, f, g, m)) in
    ap (λ (ys : List ℕ). take n (ys ++ drop (k + 1) order)) turned
    ∙ ap (λ (ys : List ℕ). take n ((p ∷ cut.before) ++ ys)) down
    ∙ ap (take n) (sym (append_assoc (p ∷ cut.before) cut.after (drop n order)))
    ∙ take_at (p ∷ (cut.before ++ cut.after)) (drop n order) n len
    ∙ ap (λ (ys : List ℕ). p ∷ ys)
    (sym (others_than-cut p cut.before cut.after cut.none_before cut.none_after) ∙ ap (others_than p) (sym cut.whole))

pub moved_to_back : (n : ℕ) (order : List ℕ) (p k : ℕ) (back : List ℕ) → IsCutAt n order p k → n ≤ length order
    → back ≡ drop 1 (take (n - k) (drop k order)) ++ take 1 (take (n - k) (drop k order))
    → take n (take k order ++ (back ++ drop (n - k) (drop k order))) ≡ others_than p (take n order) ++ p ∷ []
moved_to_back n order p k back cut long is =
    let split : order ≡ cut.before ++ (p ∷ cut.after ++ drop n order) =
    cut.split ∙ append_assoc cut.before (p ∷ []) (cut.after ++ drop n order) in
    let up : take k order ≡ cut.before =
    ap (take k) split ∙ take_at cut.before (p ∷ cut.after ++ drop n order) k cut.place in
    let down : drop k order ≡ (p ∷ cut.after) ++ drop n order =
    ap (drop k) split ∙ drop_at cut.before (p ∷ cut.after ++ drop n order) k cut.place in
    let len : length (p ∷ cut.after) ≡ n - k =
    (let f = length-append cut.before (p ∷ cut.after) in
    let g : length (take n order) ≡ length (cut.before ++ p ∷ cut.after) = ap length cut.whole in
    let m = length-take-le n order long in
    let b = cut.place in
    omega (arith, f, g, m, b)) in
    let part : take (n - k) (drop k order) ≡ p ∷ cut.after =
    ap (take (n - k)) down ∙ take_at (p ∷ cut.after) (drop n order) (n - k) len in
    let rest : drop (n - k) (drop k order) ≡ drop n order =
    ap (drop (n - k)) down ∙ drop_at (p ∷ cut.after) (drop n order) (n - k) len in
    let turned : back ≡ cut.after ++ p ∷ [] = is ∙ ap (λ (ys : List ℕ). drop 1 ys ++ take 1 ys) part in
    let all : length (cut.before ++ (cut.after ++ p ∷ [])) ≡ n =
    (let e = length-append cut.before (cut.after ++ p ∷ []) in
    let f = length-append cut.after (p ∷ []) in
    let b = cut.place in
    let g = len in
    let j = length-append cut.before (p ∷ cut.after) in
    let h : length (take n order) ≡ length (cut.before ++ p ∷ cut.after) = ap length cut.whole in
    let m = length-take-le n order long in
    omega (arith, e, f, b, g, j, h, m)) in
    ap (λ (ys : List ℕ). take n (ys ++ (back ++ drop (n - k) (drop k order)))) up
    ∙ ap (λ (ys : List ℕ). take n (cut.before ++ (ys ++ drop (n - k) (drop k order)))) turned
    ∙ ap (λ (ys : List ℕ). take n (cut.before ++ ((cut.after ++ p ∷ []) ++ ys))) rest
    ∙ ap (take n) (sym (append_assoc cut.before (cut.after ++ p ∷ []) (drop n order)))
    ∙ take_at (cut.before ++ (cut.after ++ p ∷ [])) (drop n order) n all
    ∙ sym (append_assoc cut.before cut.after (p ∷ []))
    ∙ ap (λ (ys : List ℕ). ys ++ p ∷ [])
    (sym (others_than-cut p cut.before cut.after cut.none_before cut.none_after) ∙ ap (others_than p) (sym cut.whole))

-- n put after all below n
pub put_at_end : (n : ℕ) (order : List ℕ) → IsPermutation (range_with_len 0 n) (take n order) → n < length order
    → take (n + 1) (set order n n) ≡ others_than n (take n order) ++ n ∷ []
put_at_end n order all l =
    let none : times n (take n order) ≡ 0 =
    times-none n (take n order)
    (All-permutation (λ q. q ≢ n) (range_with_len 0 n) (take n order) all
    (λ k d l' e. (let b = range_below 0 n k d l' in absurd (omega (arith, b, e))))) in
    take_more_set order n n l ∙ ap (λ (ys : List ℕ). ys ++ n ∷ []) (sym (others_than-none n (take n order) none))
