-- What Booleans and numbers can be.
use Rattle.std.proofs.Common.{◌≡◌, ◌≢◌, ◌⊎◌, inl, inr, ℕ, Bool, true, false, ◌&&◌, cond, not, nat_eq, refl, ap, eqb-true}
use Rattle.std.proofs.Common.{eq-eqb, ne_eqb}
use Rattle.std.proofs.lemmas.Bool.{eqb-false}

pub bool_cases : (b : Bool) → (b ≡ true) ⊎ (b ≡ false)
bool_cases true = inl refl
bool_cases false = inr refl

pub not_true : (b : Bool) → not b ≡ true → b ≡ false
not_true true h = absurd cc
not_true false h = refl

pub both_true : (a b : Bool) → (a && b) ≡ true → (a ≡ true) × (b ≡ true)
both_true true b e = (refl, e)
both_true false b e = absurd cc

pub same_or_not : (a b : ℕ) → (a ≡ b) ⊎ (a ≢ b)
same_or_not a b = go (nat_eq a b) refl
  where
    go : (z : Bool) → nat_eq a b ≡ z → (a ≡ b) ⊎ (a ≢ b)
    go true e = inl (eqb-true a b e)
    go false e = inr (eqb-false a b e)

-- a choice by whether two numbers are the same, where they are and where they are not

pub if_same : {A : Type 0} (a n : ℕ) (x y : A) → a ≡ n → cond (nat_eq a n) x y ≡ x
if_same a n x y e = ap (λ b. cond b x y) (eq-eqb a n e)

pub if_other : {A : Type 0} (a n : ℕ) (x y : A) → (a ≡ n → ⊥) → cond (nat_eq a n) x y ≡ y
if_other a n x y ne = ap (λ b. cond b x y) (ne_eqb a n ne)
