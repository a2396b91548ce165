-- Step curves: values that change at some positions.
use Rattle.std.specs.Prelude.{◌≡◌, ℕ, ◌<◌, ◌≤◌, nat_le, cond, List, [], ◌∷◌}

-- what a curve shows at position i: the value of the last of its steps that is not after i, and before any
-- step `v`
abbrev pub shown_at : {S V : Type 0} → (at : S → ℕ) → (value : S → V) → (v : V) → List S → (i : ℕ) → V
shown_at at value v [] i = v
shown_at at value v (s ∷ steps) i = shown_at at value (cond (nat_le (at s) i) (value s) v) steps i

-- no step is after position n
abbrev pub NoneBehind : {S : Type 0} → (at : S → ℕ) → (n : ℕ) → List S → Type 0
NoneBehind at n [] = Unit {0}
NoneBehind at n (s ∷ steps) = (at s ≤ n) × NoneBehind at n steps

-- each step is after the one before it
abbrev pub AreRising : {S : Type 0} → (at : S → ℕ) → List S → Type 0
AreRising at [] = Unit {0}
AreRising at (s ∷ []) = Unit {0}
AreRising at (s ∷ t ∷ steps) = (at s < at t) × AreRising at (t ∷ steps)

-- each step shows something else than the one before it
abbrev pub AreChanges : {S V : Type 0} → (value : S → V) → (AreAlike : V → V → Type 0) → List S → Type 0
AreChanges value AreAlike [] = Unit {0}
AreChanges value AreAlike (s ∷ []) = Unit {0}
AreChanges value AreAlike (s ∷ t ∷ steps) = (AreAlike (value s) (value t) → ⊥) × AreChanges value AreAlike (t ∷ steps)

-- up to position n what a curve shows at each position is so; its steps are one after the other, each of them shows
-- something else than the one before it, and none is after n
pub record IsCurveOf {S V : Type 0} (at : S → ℕ) (value : S → V) (v : V) (AreAlike : V → V → Type 0) (IsSo : ℕ → V → Type 0) (n : ℕ)
    (steps : List S) : Type 0 where
  pub shows : (i : ℕ) → i ≤ n → IsSo i (shown_at at value v steps i)
  pub early : NoneBehind at n steps
  pub rising : AreRising at steps
  pub changes : AreChanges value AreAlike steps

-- a curve shows what `f` says of each position
abbrev pub IsCurve : {S V : Type 0} → (at : S → ℕ) → (value : S → V) → (v : V) → (f : ℕ → V) → (n : ℕ) → List S → Type 0
IsCurve at value v f = IsCurveOf at value v (λ x y. x ≡ y) (λ i x. x ≡ f i)
