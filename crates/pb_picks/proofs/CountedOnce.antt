-- Counted picks that say one list of picks are the same if each count is as great as can be.
use Rattle.std.proofs.Common.{◌≡◌, ℕ, zero, suc, ◌<◌, List, [], ◌∷◌, ◌++◌, replicate, refl, sym, ap, subst, arith}
use Rattle.pb_base.specs.declared.pick.Pick.{Pick}
use Rattle.pb_history.specs.Replays.{spread}
use Rattle.pb_history.specs.declared.counted.CountedPick.{CountedPick}
use Rattle.pb_picks.specs.Counted.{AreApart}

pub some_first : (c : CountedPick) (picks : List CountedPick) → AreApart (c ∷ picks) → 0 < c.count
some_first c [] apart = apart
some_first c (d ∷ picks) apart = apart.0

pub apart_rest : (c : CountedPick) (picks : List CountedPick) → AreApart (c ∷ picks) → AreApart picks
apart_rest c [] apart = tt
apart_rest c (d ∷ picks) apart = apart.2

-- a list that does not begin with this pick
abbrev BeginsOtherwise : Pick → List Pick → Type 0
BeginsOtherwise pick picks = (rest : List Pick) → picks ≡ pick ∷ rest → ⊥

rest_begins_otherwise : (c : CountedPick) (picks : List CountedPick) → AreApart (c ∷ picks) → BeginsOtherwise c.pick (spread picks)
rest_begins_otherwise c [] apart rest same = cc
rest_begins_otherwise c (d ∷ picks) apart rest same = go d.count (some_first d picks apart.2) same
  where
    go : (n : ℕ) → 0 < n → replicate n d.pick ++ spread picks ≡ c.pick ∷ rest → ⊥
    go zero some same = absurd (omega (arith, some))
    go (suc n) some same = apart.1 (let first : d.pick ≡ c.pick = cc in sym first)

-- one pick a number of times, and then another pick or none
same_start : (m n : ℕ) (pick : Pick) (xs ys : List Pick) → BeginsOtherwise pick xs → BeginsOtherwise pick ys
    → replicate m pick ++ xs ≡ replicate n pick ++ ys → (m ≡ n) × (xs ≡ ys)
same_start zero zero pick xs ys other others same = (refl, same)
same_start zero (suc n) pick xs ys other others same = absurd (other (replicate n pick ++ ys) same)
same_start (suc m) zero pick xs ys other others same = absurd (others (replicate m pick ++ xs) (sym same))
same_start (suc m) (suc n) pick xs ys other others same =
    let rest : replicate m pick ++ xs ≡ replicate n pick ++ ys = cc in
    let h = same_start m n pick xs ys other others rest in
    (ap (λ (k : ℕ). suc k) h.0, h.1)

same_first : (m n : ℕ) (p q : Pick) (xs ys : List Pick) → 0 < m → 0 < n → replicate m p ++ xs ≡ replicate n q ++ ys → p ≡ q
same_first zero n p q xs ys some others same = absurd (omega (arith, some))
same_first (suc m) zero p q xs ys some others same = absurd (omega (arith, others))
same_first (suc m) (suc n) p q xs ys some others same = cc

pub counted_once : (a b : List CountedPick) → AreApart a → AreApart b → spread a ≡ spread b → a ≡ b
counted_once [] [] apart others same = refl
counted_once [] (d ∷ b) apart others same = absurd (none d.count (some_first d b others) same)
  where
    none : (n : ℕ) → 0 < n → [] ≡ replicate n d.pick ++ spread b → ⊥
    none zero some same = omega (arith, some)
    none (suc n) some same = cc
counted_once (c ∷ a) [] apart others same = absurd (none c.count (some_first c a apart) same)
  where
    none : (n : ℕ) → 0 < n → replicate n c.pick ++ spread a ≡ [] → ⊥
    none zero some same = omega (arith, some)
    none (suc n) some same = cc
counted_once (c ∷ a) (d ∷ b) apart others same =
    let pick : c.pick ≡ d.pick =
    same_first c.count d.count c.pick d.pick (spread a) (spread b) (some_first c a apart) (some_first d b others) same in
    let others_here : BeginsOtherwise c.pick (spread b) =
    subst (λ (p : Pick). BeginsOtherwise p (spread b)) (sym pick) (rest_begins_otherwise d b others) in
    let same_here : replicate c.count c.pick ++ spread a ≡ replicate d.count c.pick ++ spread b =
    subst (λ (p : Pick). replicate c.count c.pick ++ spread a ≡ replicate d.count p ++ spread b) (sym pick) same in
    let both = same_start c.count d.count c.pick (spread a) (spread b) (rest_begins_otherwise c a apart) others_here same_here in
    let rest = counted_once a b (apart_rest c a apart) (apart_rest d b others) both.1 in
    let first : c ≡ d = λ i. record { pick = pick i; count = both.0 i } in
    λ i. first i ∷ rest i
