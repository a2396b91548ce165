-- Resources that are put into an order one after another, each once no hold of it stands inside one of those that
-- are left.
use Rattle.std.proofs.Common.{◌≡◌, ◌∙◌, ◌⊎◌, inl, inr, ⊎_elim, ℕ, zero, suc, ◌+◌, ◌<◌, ◌≤◌, true, false, cond, eqb}
use Rattle.std.proofs.Common.{List, [], ◌∷◌, ◌++◌, length, get_or, Option, Some, None, refl, sym, ap, subst, arith}
use Rattle.std.proofs.Common.{eq-eqb, eqb-true, length-append, append-nil, add-one}
use Rattle.std.specs.Prelude.{All, IfNone, IfOk, IfSome, Result, Ok, Err, slice_get, remove}
use Rattle.std.specs.List.{range_with_len}
use Rattle.std.specs.List.Sorted.{IsPermutation}
use Rattle.std.proofs.lemmas.Bool.{cases_lt}
use Rattle.std.proofs.lemmas.List.Elements.{All-append}
use Rattle.std.proofs.lemmas.List.Sorted.{All-permutation, IsPermutation-more, IsPermutation-refl, IsPermutation-sym}
use Rattle.std.proofs.lemmas.Option.{get_or_from_slice_get, slice_get-get_or, slice_get_within}
use Rattle.pb_base.proofs.Cases.{bool_cases}
use Rattle.pb_base.proofs.Lists.{all_at, get_some}
use Rattle.pb_names.specs.Program.{Process}
use Rattle.pb_plan.proofs.NestLemmas.{among_is, followed, among_fits}
use Rattle.pb_plan.specs.Nests.{AskBelow, IsAmong, IsBegun, IsInside, nest_among}
use Rattle.pb_plan.specs.Orders.{place}
use Rattle.pb_plan.specs.Scarce.{IsFollowedAmong, IsLaterAmong}
use Rattle.pb_plan.specs.declared.nest.Nest.{Nest}

-- ---- what was looked for

-- what was found is so in another way too
pub each_found : {X E : Type 0} (result : Result (Option X) E) (P Q : X → Type 0) → ((x : X) → P x → Q x)
    → IfOk result (λ found. IfSome found P) → IfOk result (λ found. IfSome found Q)
each_found (Ok (Some x)) P Q so is = so x is
each_found (Ok None) P Q so is = tt
each_found (Err e) P Q so is = tt

-- so is what holds if nothing was found
pub none_found : {X E : Type 0} (result : Result (Option X) E) (P Q : Type 0) → (P → Q) → IfOk result (λ found. IfNone found P)
    → IfOk result (λ found. IfNone found Q)
none_found (Ok (Some x)) P Q so is = tt
none_found (Ok None) P Q so is = so is
none_found (Err e) P Q so is = tt

-- one more number
range_push : (a n : ℕ) → range_with_len a (suc n) ≡ range_with_len a n ++ (a + n) ∷ []
range_push a zero = ap (λ x. x ∷ []) (omega arith)
range_push a (suc n) =
    ap (λ xs. a ∷ xs) (range_push (a + 1) n
    ∙ ap (λ x. range_with_len (a + 1) n ++ x ∷ []) (omega arith))

pub range_more : (n : ℕ) → range_with_len 0 (n + 1) ≡ range_with_len 0 n ++ n ∷ []
range_more n = rw add-one (range_push 0 n ∙ ap (λ x. range_with_len 0 n ++ x ∷ []) (omega arith))

-- ---- places in an order

place_in : (order : List ℕ) (k d : ℕ) → k < length order → place order (get_or order k d) < length order
place_in [] k d u = absurd (omega (arith, u))
place_in (x ∷ order) zero d u =
    let e : place (x ∷ order) x ≡ 0 = ap (λ b. cond b 0 (suc (place order x))) (eq-eqb x x refl) in omega (arith, e)
place_in (x ∷ order) (suc k) d u = ⊎_elim
    (λ same.
    let e : place (x ∷ order) (get_or order k d) ≡ 0 =
    ap (λ b. cond b 0 (suc (place order (get_or order k d)))) same in
    omega (arith, e))
    (λ other.
    let e : place (x ∷ order) (get_or order k d) ≡ suc (place order (get_or order k d)) =
    ap (λ b. cond b 0 (suc (place order (get_or order k d)))) other in
    let rest = place_in order k d (omega (arith, u)) in
    omega (arith, e, rest))
    (bool_cases (eqb x (get_or order k d)))

-- after one more resource at the end
record IsPushed (order : List ℕ) (r x : ℕ) : Type 0 where
  old : place order x < length order → place (order ++ r ∷ []) x ≡ place order x
  own : length order ≤ place order x → x ≡ r → place (order ++ r ∷ []) x ≡ length order
  none : length order ≤ place order x → (x ≡ r → ⊥) → place (order ++ r ∷ []) x ≡ suc (length order)

place_pushed : (order : List ℕ) (r x : ℕ) → IsPushed order r x
place_pushed [] r x = record {
  old = λ u. absurd (omega (arith, u));
  own = λ u e. ap (λ b. cond b 0 1) (eq-eqb r x (sym e));
  none = λ u ne. ⊎_elim (λ same. absurd (ne (sym (eqb-true r x same)))) (λ other. ap (λ b. cond b 0 1) other)
      (bool_cases (eqb r x));
}
place_pushed (y ∷ order) r x = ⊎_elim (λ same. here same) (λ other. there other (place_pushed order r x))
    (bool_cases (eqb y x))
  where
    here : eqb y x ≡ true → IsPushed (y ∷ order) r x
    here same =
        let e : place (y ∷ order) x ≡ 0 = ap (λ b. cond b 0 (suc (place order x))) same in
        let f : place (y ∷ order ++ r ∷ []) x ≡ 0 = ap (λ b. cond b 0 (suc (place (order ++ r ∷ []) x))) same in
        record {
          old = λ u. f ∙ sym e;
          own = λ u z. absurd (omega (arith, u, e));
          none = λ u z. absurd (omega (arith, u, e));
        }

    there : eqb y x ≡ false → IsPushed order r x → IsPushed (y ∷ order) r x
    there other p =
        let e : place (y ∷ order) x ≡ suc (place order x) = ap (λ b. cond b 0 (suc (place order x))) other in
        let f : place (y ∷ order ++ r ∷ []) x ≡ suc (place (order ++ r ∷ []) x) =
        ap (λ b. cond b 0 (suc (place (order ++ r ∷ []) x))) other in
        record {
          old = λ u. f ∙ ap suc (p.old (omega (arith, u, e))) ∙ sym e;
          own = λ u z. f ∙ ap suc (p.own (omega (arith, u, e)) z);
          none = λ u z. f ∙ ap suc (p.none (omega (arith, u, e)) z);
        }

-- ---- what is in order, and what is left

-- what is left is among the resources
pub left_among : (resources order left : List ℕ) (r : ℕ) → IsPermutation resources (order ++ left) → IsAmong left r
    → IsAmong resources r
left_among resources order left r all among =
    let itself : All (IsAmong resources) resources = λ k d u. (k, slice_get-get_or resources k d u) in
    let both = All-permutation (IsAmong resources) resources (order ++ left) all itself in
    all_at (IsAmong resources) left among.0 r (behind order both) among.1
  where
    behind : (xs : List ℕ) → All (IsAmong resources) (xs ++ left) → All (IsAmong resources) left
    behind [] both = both
    behind (x ∷ xs) both = behind xs (λ k d u. both (suc k) d (omega (arith, u)))

module _ (processes : List Process) (n : ℕ) (below : AskBelow n processes) (resources : List ℕ) where
  pub begun : IsBegun processes resources [] resources
  begun = record {
    all = IsPermutation-refl resources;
    later = λ outer inner found is there u. absurd (omega (arith, u));
  }

  -- a resource is in order, or left
  in_or_left : (order left : List ℕ) (r : ℕ) → IsAmong resources r → IsPermutation resources (order ++ left)
      → (place order r < length order) ⊎ IsAmong left r
  in_or_left order left r among all =
      let P : ℕ → Type 0 = λ x. (place order x < length order) ⊎ IsAmong left x in
      let both : All P (order ++ left) = All-append P order left (λ k d l. inl (place_in order k d l)) (λ k d l. inr (k, slice_get-get_or left k d l)) in
      let each = All-permutation P (order ++ left) resources (IsPermutation-sym resources (order ++ left) all) both in
      all_at P resources among.0 r each among.1

  pub begun_more : (order left : List ℕ) (i r : ℕ) → slice_get left i ≡ Some r
      → ((found : Nest) → IsInside processes left r found → ⊥) → IsBegun processes resources order left
      → IsBegun processes resources (order ++ r ∷ []) (remove left i)
  begun_more order left i r at free b = record {
    all =
        IsPermutation-more resources order left i r (slice_get_within left i r at)
        (sym (get_or_from_slice_get left i r r at)) b.all;
    later = later;
  }
    where
      outer_in : (outer : ℕ) (found : Nest) → nest_among outer r processes ≡ Some found → IsAmong resources outer
          → place order outer < length order
      outer_in outer found is there =
          let facts = among_is n outer r processes found below is in
          ⊎_elim (λ u. u)
          (λ among.
          absurd (free found (
            subst (IsAmong left) (sym facts.outer_is) among,
            subst (λ o. nest_among o r processes ≡ Some found) (sym facts.outer_is) is,
          )))
          (in_or_left order left outer there b.all)

      later : (outer inner : ℕ) (found : Nest) → nest_among outer inner processes ≡ Some found → IsAmong resources outer
          → place (order ++ r ∷ []) inner < length (order ++ r ∷ [])
          → place (order ++ r ∷ []) outer < place (order ++ r ∷ []) inner
      later outer inner found is there u = ⊎_elim
          (λ old.
          let less = b.later outer inner found is there old in
          let o = (place_pushed order r outer).old (omega (arith, less, old)) in
          let p = (place_pushed order r inner).old old in
          omega (arith, less, o, p))
          (λ new. ⊎_elim
          (λ same.
          let e = eqb-true inner r same in
          let inside = outer_in outer found (subst (λ k. nest_among outer k processes ≡ Some found) e is) there in
          let o = (place_pushed order r outer).old inside in
          let p = (place_pushed order r inner).own new e in
          omega (arith, inside, o, p))
          (λ other.
          let p = (place_pushed order r inner).none new (λ e. let w : true ≡ false = sym (eq-eqb inner r e) ∙ other in cc) in
          let many = length-append order (r ∷ []) in
          absurd (omega (arith, u, p, many)))
          (bool_cases (eqb inner r)))
          (cases_lt (place order inner) (length order))

  -- ---- at the end

  pub all_placed : (order left : List ℕ) → length left ≡ 0 → IsBegun processes resources order left
      → IsPermutation resources order
  all_placed order [] none b = subst (IsPermutation resources) (append-nil order) b.all
  all_placed order (r ∷ left) none b = absurd (omega (arith, none))

  pub all_followed : (order left : List ℕ) → length left ≡ 0 → IsBegun processes resources order left
      → IsFollowedAmong resources order processes
  all_followed order left none b =
      followed (IsLaterAmong resources order) processes
      (λ outer inner some. there outer inner (nest_among outer inner processes) refl some)
    where
      there : (outer inner : ℕ) (o : Option Nest) → nest_among outer inner processes ≡ o
          → (nest_among outer inner processes ≡ None → ⊥) → IsLaterAmong resources order outer inner
      there outer inner None e some = absurd (some e)
      there outer inner (Some found) e some = λ from to.
          b.later outer inner found e from (⊎_elim (λ u. u)
          (λ among.
          let u = slice_get_within left among.0 inner among.1 in
          absurd (omega (arith, u, none)))
          (in_or_left order left inner to b.all))

  -- if each of some is inside another of them, there is no order
  pub none_followed : (order left : List ℕ) → IsBegun processes resources order left → (length left ≡ 0 → ⊥)
      → ((r : ℕ) → IsAmong left r → (found : Nest) × IsInside processes left r found)
      → (other : List ℕ) → IsFollowedAmong resources other processes → ⊥
  none_followed order left b some each other h =
      let r = get_some left 0 (not_zero (length left) some) in
      falls (suc (place other r.0)) r.0 (0, r.1) (omega arith)
    where
      not_zero : (k : ℕ) → (k ≡ 0 → ⊥) → 0 < k
      not_zero zero s = absurd (s refl)
      not_zero (suc k) s = omega arith

      falls : (m r : ℕ) → IsAmong left r → place other r < m → ⊥
      falls zero r among u = omega (arith, u)
      falls (suc m) r among u =
          let next = each r among in
          let less =
          among_fits (IsLaterAmong resources other) next.0.outer r processes next.0 h next.1.1
          (left_among resources order left next.0.outer b.all next.1.0) (left_among resources order left r b.all among) in
          falls m next.0.outer next.1.0 (omega (arith, u, less))
