-- Time goes from left to right.
use Rattle.std.proofs.Common.{◌≡◌, ◌<◌, ◌≤◌, ℕ, zero, suc, ◌+◌, ◌-◌, ◌*◌, ◌/◌, min, Bool, true, false, cond, List, [], ◌∷◌}
use Rattle.std.proofs.Common.{refl, sym, ap, ◌∙◌, subst, arith, Some, get_or, length}
use Rattle.std.specs.Prelude.{nat_le, slice_get}
use Rattle.std.proofs.lemmas.Bool.{le-leb, lt-leb, leb-true, leb-false}
use Rattle.std.proofs.lemmas.Grind.{common_steps}
use Rattle.std.proofs.lemmas.Nat.{le-div}
use Rattle.std.proofs.lemmas.Option.{slice_get-get_or}
use Rattle.std.proofs.Math.Nat.{div-mul-le_self, div-le_of_le-mul}
use Rattle.pb_draw_picture.specs.Axis.{IsBehind, IsChain, IsChainFrom, squeezed, x_at, x_from, x_in}
use Rattle.pb_draw_picture.specs.declared.knot.Knot.{Knot}
use Rattle.pb_draw_picture.specs.declared.sizes.TheConstants.{SIDE}

-- a test, by cases
by_test : {P : Type 0} (m n : ℕ) → (m ≤ n → nat_le m n ≡ true → P) → (n < m → nat_le m n ≡ false → P) → P
by_test {P} m n within past_it = go (nat_le m n) refl
  where
    go : (b : Bool) → nat_le m n ≡ b → P
    go true e = within (leb-true m n e) e
    go false e = past_it (leb-false m n e) e

-- ---- silent picks

min_mono : (a b of : ℕ) → a ≤ b → min a of ≤ min b of
min_mono a b of le = grind (arith, common_steps)

min_self : (a of : ℕ) → min a of ≤ min of of
min_self a of = grind (arith, common_steps)

div_mono : (a b of : ℕ) → 0 < of → a ≤ b → a / of ≤ b / of
div_mono a b of some le =
    let part : a / of * of ≤ a = div-mul-le_self a of in
    le-div (a / of) b of some (omega (arith, part, le))

squeezed_le : (a b of : ℕ) → min a of ≤ min b of → squeezed a of ≤ squeezed b of
squeezed_le a b of le =
    by_test of 15
    (λ few e. subst (λ (c : Bool). cond c (min a of * 6) (min a of * 90 / of) ≤ cond c (min b of * 6) (min b of * 90 / of)) (sym e) (omega (arith, le)))
    (λ many e. subst (λ (c : Bool). cond c (min a of * 6) (min a of * 90 / of) ≤ cond c (min b of * 6) (min b of * 90 / of)) (sym e)
    (div_mono (min a of * 90) (min b of * 90) of (omega (arith, many)) (omega (arith, le))))

pub squeezed_few : (a of : ℕ) → squeezed a of ≤ 90
squeezed_few a of =
    let low : min a of ≤ of = grind (arith, common_steps) in
    by_test of 15
    (λ few e. subst (λ (c : Bool). cond c (min a of * 6) (min a of * 90 / of) ≤ 90) (sym e) (omega (arith, few, low)))
    (λ many e. subst (λ (c : Bool). cond c (min a of * 6) (min a of * 90 / of) ≤ 90) (sym e) (div-le_of_le-mul of (omega (arith, low))))

-- ---- one event

end_of : Knot → ℕ
end_of k = k.x + k.width + squeezed k.silent k.silent

at_start : (k : Knot) (i : ℕ) → i ≤ k.position → x_in k i ≡ k.x
at_start k i le =
    ap (λ (b : Bool). cond b k.x (k.x + k.width + squeezed (i - k.position - 1) k.silent)) (le-leb i k.position le)

behind_start : (k : Knot) (i : ℕ) → k.position < i → x_in k i ≡ k.x + k.width + squeezed (i - k.position - 1) k.silent
behind_start k i lt =
    ap (λ (b : Bool). cond b k.x (k.x + k.width + squeezed (i - k.position - 1) k.silent)) (lt-leb i k.position lt)

in_ge : (k : Knot) (i : ℕ) → k.x ≤ x_in k i
in_ge k i =
    by_test i k.position
    (λ le e. let h = at_start k i le in omega (arith, h))
    (λ lt e. let h = behind_start k i lt in omega (arith, h))

in_end : (k : Knot) (i : ℕ) → x_in k i ≤ end_of k
unfolding end_of
in_end k i =
    by_test i k.position
    (λ le e. let h = at_start k i le in omega (arith, h))
    (λ lt e.
    let h = behind_start k i lt in
    let s : squeezed (i - k.position - 1) k.silent ≤ squeezed k.silent k.silent =
    squeezed_le (i - k.position - 1) k.silent k.silent (min_self (i - k.position - 1) k.silent) in
    omega (arith, h, s))

in_wide : (k : Knot) (i : ℕ) → k.position < i → k.x + k.width ≤ x_in k i
in_wide k i lt = let h = behind_start k i lt in omega (arith, h)

in_mono : (k : Knot) (i j : ℕ) → i ≤ j → x_in k i ≤ x_in k j
in_mono k i j le =
    by_test i k.position
    (λ here e. let h = at_start k i here in let g = in_ge k j in omega (arith, h, g))
    (λ lt e.
    let later : k.position < j = omega (arith, lt, le) in
    let h = behind_start k i lt in
    let g = behind_start k j later in
    let s : squeezed (i - k.position - 1) k.silent ≤ squeezed (j - k.position - 1) k.silent =
    squeezed_le (i - k.position - 1) (j - k.position - 1) k.silent
    (min_mono (i - k.position - 1) (j - k.position - 1) k.silent (omega (arith, le))) in
    omega (arith, h, g, s))

-- ---- events one after another

past : (k next : Knot) (knots : List Knot) (i : ℕ) → next.position ≤ i → x_from k (next ∷ knots) i ≡ x_from next knots i
past k next knots i le = ap (λ (b : Bool). cond b (x_from next knots i) (x_in k i)) (le-leb next.position i le)

not_past : (k next : Knot) (knots : List Knot) (i : ℕ) → i < next.position → x_from k (next ∷ knots) i ≡ x_in k i
not_past k next knots i lt = ap (λ (b : Bool). cond b (x_from next knots i) (x_in k i)) (lt-leb next.position i lt)

next_ge : (k next : Knot) → IsBehind next k → end_of k ≤ next.x
unfolding end_of
next_ge k next h = h.right

wide : (k : Knot) → k.x + k.width ≤ end_of k
unfolding end_of
wide k = omega arith

from_ge : (k : Knot) (knots : List Knot) (i : ℕ) → IsChainFrom k knots → k.x ≤ x_from k knots i
from_ge k [] i chain = in_ge k i
from_ge k (next ∷ knots) i chain =
    by_test next.position i
    (λ le e.
    let h = past k next knots i le in
    let g = from_ge next knots i chain.1 in
    let b = next_ge k next chain.0 in
    let s = in_end k k.position in
    let t = in_ge k k.position in
    omega (arith, h, g, b, s, t))
    (λ lt e. let h = not_past k next knots i lt in let g = in_ge k i in omega (arith, h, g))

from_mono : (k : Knot) (knots : List Knot) (i j : ℕ) → IsChainFrom k knots → i ≤ j → x_from k knots i ≤ x_from k knots j
from_mono k [] i j chain le = in_mono k i j le
from_mono k (next ∷ knots) i j chain le =
    by_test next.position i
    (λ here e.
    let there : next.position ≤ j = omega (arith, here, le) in
    let h = past k next knots i here in
    let g = past k next knots j there in
    let m = from_mono next knots i j chain.1 le in
    omega (arith, h, g, m))
    (λ lt e.
    by_test next.position j
    (λ there e'.
    let h = not_past k next knots i lt in
    let g = past k next knots j there in
    let s = in_end k i in
    let b = next_ge k next chain.0 in
    let m = from_ge next knots j chain.1 in
    omega (arith, h, g, s, b, m))
    (λ later e'.
    let h = not_past k next knots i lt in
    let g = not_past k next knots j later in
    let m = in_mono k i j le in
    omega (arith, h, g, m)))

-- a later event is at a later position
not_before : (k c : Knot) (knots : List Knot) (n : ℕ) → IsChainFrom k knots → slice_get (k ∷ knots) n ≡ Some c → k.position ≤ c.position
not_before k c knots zero chain there = grind (arith, common_steps)
not_before k c [] (suc n) chain there = grind (arith, common_steps)
not_before k c (next ∷ knots) (suc n) chain there =
    let h = not_before next c knots n chain.1 there in
    let b = chain.0.later in
    omega (arith, h, b)

-- what comes later is to the right of an event
from_wide : (k c : Knot) (knots : List Knot) (n j : ℕ) → IsChainFrom k knots → slice_get (k ∷ knots) n ≡ Some c
    → c.position < j → x_from k knots c.position + c.width ≤ x_from k knots j
from_wide k c [] zero j chain there later =
    subst (λ (d : Knot). d.position < j → x_in k d.position + d.width ≤ x_in k j) (some_is k c there)
    (λ lt. let h = at_start k k.position (omega arith) in let g = in_wide k j lt in omega (arith, h, g)) later
  where
    some_is : (a b : Knot) → Some a ≡ Some b → a ≡ b
    some_is a b e = grind (arith, common_steps)
from_wide k c (next ∷ knots) zero j chain there later =
    subst (λ (d : Knot). d.position < j → x_from k (next ∷ knots) d.position + d.width ≤ x_from k (next ∷ knots) j) (some_is k c there)
    (λ lt.
    let b = chain.0.later in
    let h = not_past k next knots k.position b in
    let s = at_start k k.position (omega arith) in
    by_test next.position j
    (λ le e.
    let g = past k next knots j le in
    let m = from_ge next knots j chain.1 in
    let r = next_ge k next chain.0 in
    let w = wide k in
    omega (arith, h, s, g, m, r, w))
    (λ before e.
    let g = not_past k next knots j before in
    let m = in_wide k j lt in
    omega (arith, h, s, g, m)))
    later
  where
    some_is : (a b : Knot) → Some a ≡ Some b → a ≡ b
    some_is a b e = grind (arith, common_steps)
from_wide k c [] (suc n) j chain there later = grind (arith, common_steps)
from_wide k c (next ∷ knots) (suc n) j chain there later =
    let first : next.position ≤ c.position = not_before next c knots n chain.1 there in
    let h = past k next knots c.position first in
    let g = past k next knots j (omega (arith, first, later)) in
    let m = from_wide next c knots n j chain.1 there later in
    omega (arith, h, g, m)

-- a position is at the last event that is not after it
from_at : (k c : Knot) (knots : List Knot) (n i : ℕ) → IsChainFrom k knots → slice_get (k ∷ knots) n ≡ Some c → c.position ≤ i
    → ((d : Knot) → slice_get knots n ≡ Some d → i < d.position) → x_from k knots i ≡ x_in c i
from_at k c [] zero i chain there here after = grind (arith, common_steps)
from_at k c (next ∷ knots) zero i chain there here after =
    not_past k next knots i (after next refl) ∙ grind (arith, common_steps)
from_at k c [] (suc n) i chain there here after = grind (arith, common_steps)
from_at k c (next ∷ knots) (suc n) i chain there here after =
    let first : next.position ≤ c.position = not_before next c knots n chain.1 there in
    past k next knots i (omega (arith, first, here)) ∙ from_at next c knots n i chain.1 there here after

-- ---- the whole axis

pub axis_forward : (knots : List Knot) (i j : ℕ) → IsChain knots → i ≤ j → x_at knots i ≤ x_at knots j
axis_forward [] i j chain le = omega arith
axis_forward (k ∷ knots) i j chain le = from_mono k knots i j chain.1 le

pub axis_wide : (knots : List Knot) (c : Knot) (n i j : ℕ) → IsChain knots → slice_get knots n ≡ Some c → c.position ≡ i → i < j
    → SIDE ≤ c.width → x_at knots i + SIDE ≤ x_at knots j
axis_wide [] c n i j chain there is lt wide = grind (arith, common_steps)
axis_wide (k ∷ knots) c n i j chain there is lt wide =
    let at : c.position < j = omega (arith, is, lt) in
    let h = from_wide k c knots n j chain.1 there at in
    let e = ap (x_from k knots) is in
    omega (arith, h, e, wide)

pub axis_at : (knots : List Knot) (c : Knot) (n i : ℕ) → IsChain knots → slice_get knots n ≡ Some c → c.position ≤ i
    → ((d : Knot) → slice_get knots (n + 1) ≡ Some d → i < d.position) → x_at knots i ≡ x_in c i
axis_at [] c n i chain there here after = grind (arith, common_steps)
axis_at (k ∷ knots) c n i chain there here after =
    from_at k c knots n i chain.1 there here
    (λ d e. after d (subst (λ (m : ℕ). slice_get (k ∷ knots) m ≡ Some d) (let s : suc n ≡ n + 1 = omega arith in s) e))

-- before all events there is nothing
pub axis_none : (knots : List Knot) (i : ℕ) → IsChain knots → ((d : Knot) → slice_get knots 0 ≡ Some d → i < d.position)
    → x_at knots i ≡ 0
axis_none [] i chain after = refl
axis_none (k ∷ knots) i chain after = let lt : i < k.position = after k refl in let e = chain.0 in absurd (omega (arith, lt, e))
