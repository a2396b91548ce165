-- Step curves that grow.
use Rattle.std.proofs.Common.{◌≡◌, ◌⊎◌, ℕ, zero, suc, ◌+◌, ◌-◌, ◌<◌, ◌≤◌, Bool, true, false, cond, List, [], ◌∷◌, ◌++◌, refl}
use Rattle.std.proofs.Common.{sym, ap, ◌∙◌, subst, inl, inr, arith, length, get_or}
use Rattle.std.specs.Prelude.{nat_le}
use Rattle.std.proofs.lemmas.Bool.{le-leb, lt-leb, leb-true, leb-false}
use Rattle.pb_draw.specs.Curves.{AreChanges, AreRising, IsCurveOf, NoneBehind, shown_at}

last_or_before : (i n : ℕ) → i ≤ n + 1 → (i ≤ n) ⊎ (i ≡ n + 1)
last_or_before i n within = go (nat_le i n) refl
  where
    go : (b : Bool) → nat_le i n ≡ b → (i ≤ n) ⊎ (i ≡ n + 1)
    go true e = inl (leb-true i n e)
    go false e = (let past : n < i = leb-false i n e in inr (omega (arith, past, within)))

module _ {S V : Type 0} (at : S → ℕ) (value : S → V) where
  -- one more step decides from its position on
  shown_more : (v : V) (steps : List S) (s : S) (i : ℕ)
      → shown_at at value v (steps ++ s ∷ []) i ≡ cond (nat_le (at s) i) (value s) (shown_at at value v steps i)
  shown_more v [] s i = refl
  shown_more v (t ∷ steps) s i = shown_more (cond (nat_le (at t) i) (value t) v) steps s i

  -- after its last step a curve stays
  shown_later : (v : V) (steps : List S) (n i : ℕ) → NoneBehind at n steps → n ≤ i
      → shown_at at value v steps i ≡ shown_at at value v steps n
  shown_later v [] n i early le = refl
  shown_later v (s ∷ steps) n i early le =
      let first : at s ≤ n = early.0 in
      let here : nat_le (at s) i ≡ true = le-leb (at s) i (omega (arith, first, le)) in
      let there : nat_le (at s) n ≡ true = le-leb (at s) n first in
      ap (λ (b : Bool). shown_at at value (cond b (value s) v) steps i) here
      ∙ (shown_later (value s) steps n i early.1 le
      ∙ sym (ap (λ (b : Bool). shown_at at value (cond b (value s) v) steps n) there))

  none_behind_later : (steps : List S) (n m : ℕ) → n ≤ m → NoneBehind at n steps → NoneBehind at m steps
  none_behind_later [] n m le early = early
  none_behind_later (s ∷ steps) n m le early =
      let first : at s ≤ n = early.0 in
      (omega (arith, first, le), none_behind_later steps n m le early.1)

  none_behind_more : (steps : List S) (s : S) (n : ℕ) → NoneBehind at n steps → at s ≤ n → NoneBehind at n (steps ++ s ∷ [])
  none_behind_more [] s n early le = (le, tt)
  none_behind_more (t ∷ steps) s n early le = (early.0, none_behind_more steps s n early.1 le)

  -- a step after all others
  rising_more : (steps : List S) (s : S) (n : ℕ) → NoneBehind at n steps → n < at s → AreRising at steps → AreRising at (steps ++ s ∷ [])
  rising_more [] s n early less rising = tt
  rising_more (t ∷ []) s n early less rising = (let first : at t ≤ n = early.0 in omega (arith, first, less), tt)
  rising_more (t ∷ u ∷ steps) s n early less rising = (rising.0, rising_more (u ∷ steps) s n early.1 less rising.1)

  -- one that shows something else
  changing_more : (AreAlike : V → V → Type 0) (v : V) (steps : List S) (s : S) (n : ℕ) → NoneBehind at n steps
      → (AreAlike (shown_at at value v steps n) (value s) → ⊥) → AreChanges value AreAlike steps → AreChanges value AreAlike (steps ++ s ∷ [])
  changing_more AreAlike v [] s n early other changes = tt
  changing_more AreAlike v (t ∷ []) s n early other changes =
      let first : at t ≤ n = early.0 in
      let shown : cond (nat_le (at t) n) (value t) v ≡ value t = ap (λ (b : Bool). cond b (value t) v) (le-leb (at t) n first) in
      (subst (λ (x : V). AreAlike x (value s) → ⊥) shown other, tt)
  changing_more AreAlike v (t ∷ u ∷ steps) s n early other changes =
      (changes.0, changing_more AreAlike (cond (nat_le (at t) n) (value t) v) (u ∷ steps) s n early.1 other changes.1)

  -- a position more, for which what is shown is right as well
  pub curve_stays : (v : V) (AreAlike : V → V → Type 0) (IsSo : ℕ → V → Type 0) (n : ℕ) (steps : List S) → IsCurveOf at value v AreAlike IsSo n steps
      → IsSo (n + 1) (shown_at at value v steps n) → IsCurveOf at value v AreAlike IsSo (n + 1) steps
  curve_stays v AreAlike IsSo n steps c same = record {
    shows = λ i within. elim (last_or_before i n within) [
      | inl before ↦ c.shows i before
      | inr last ↦
          subst (λ (k : ℕ). IsSo k (shown_at at value v steps k)) (sym last)
          (subst (λ (x : V). IsSo (n + 1) x) (sym (shown_later v steps n (n + 1) c.early (omega arith))) same)
    ];
    early = none_behind_later steps n (n + 1) (omega arith) c.early;
    rising = c.rising;
    changes = c.changes;
  }

  -- one more step decides what is shown at its position
  pub shown_last : (v : V) (steps : List S) (s : S) (n : ℕ) → at s ≡ n → shown_at at value v (steps ++ s ∷ []) n ≡ value s
  shown_last v steps s n here =
      let le : at s ≤ n = omega (arith, here) in
      shown_more v steps s n ∙ ap (λ (b : Bool). cond b (value s) (shown_at at value v steps n)) (le-leb (at s) n le)

  -- and one at which it changes
  pub curve_changes : (v : V) (AreAlike : V → V → Type 0) (IsSo : ℕ → V → Type 0) (n : ℕ) (steps : List S) (s : S) → IsCurveOf at value v AreAlike IsSo n steps
      → at s ≡ n + 1 → IsSo (n + 1) (value s) → (AreAlike (shown_at at value v steps n) (value s) → ⊥) → IsCurveOf at value v AreAlike IsSo (n + 1) (steps ++ s ∷ [])
  curve_changes v AreAlike IsSo n steps s c here is other = record {
    shows = λ i within. elim (last_or_before i n within) [
      | inl before ↦
          let later : n < at s = omega (arith, here) in
          let not : nat_le (at s) i ≡ false = lt-leb (at s) i (omega (arith, later, before)) in
          let same : shown_at at value v (steps ++ s ∷ []) i ≡ shown_at at value v steps i =
          shown_more v steps s i ∙ ap (λ (b : Bool). cond b (value s) (shown_at at value v steps i)) not in
          subst (λ (x : V). IsSo i x) (sym same) (c.shows i before)
      | inr last ↦
          subst (λ (k : ℕ). IsSo k (shown_at at value v (steps ++ s ∷ []) k)) (sym last)
          (subst (λ (x : V). IsSo (n + 1) x) (sym (shown_last v steps s (n + 1) here)) is)
    ];
    early = none_behind_more steps s (n + 1) (none_behind_later steps n (n + 1) (omega arith) c.early) (omega (arith, here));
    rising = rising_more steps s n c.early (omega (arith, here)) c.rising;
    changes = changing_more AreAlike v steps s n c.early other c.changes;
  }

  -- the same, of a position that is counted from the one after it
  pub curve_stays_at : (v : V) (AreAlike : V → V → Type 0) (IsSo : ℕ → V → Type 0) (n : ℕ) (steps : List S) → 0 < n → IsCurveOf at value v AreAlike IsSo (n - 1) steps
      → IsSo n (shown_at at value v steps (n - 1)) → IsCurveOf at value v AreAlike IsSo n steps
  curve_stays_at v AreAlike IsSo n steps some c same =
      let e : n - 1 + 1 ≡ n = omega (arith, some) in
      subst (λ (k : ℕ). IsCurveOf at value v AreAlike IsSo k steps) e
      (curve_stays v AreAlike IsSo (n - 1) steps c (subst (λ (k : ℕ). IsSo k (shown_at at value v steps (n - 1))) (sym e) same))

  pub curve_changes_at : (v : V) (AreAlike : V → V → Type 0) (IsSo : ℕ → V → Type 0) (n : ℕ) (steps : List S) (s : S) → 0 < n
      → IsCurveOf at value v AreAlike IsSo (n - 1) steps → at s ≡ n → IsSo n (value s)
      → (AreAlike (shown_at at value v steps (n - 1)) (value s) → ⊥) → IsCurveOf at value v AreAlike IsSo n (steps ++ s ∷ [])
  curve_changes_at v AreAlike IsSo n steps s some c here is other =
      let e : n - 1 + 1 ≡ n = omega (arith, some) in
      subst (λ (k : ℕ). IsCurveOf at value v AreAlike IsSo k (steps ++ s ∷ [])) e
      (curve_changes v AreAlike IsSo (n - 1) steps s c (here ∙ sym e) (subst (λ (k : ℕ). IsSo k (value s)) (sym e) is) other)

  -- after all its steps a curve shows what the last of them says
  pub shown_at_end : (v : V) (steps : List S) (k : ℕ) (s : S) (n : ℕ) → k + 1 ≡ length steps → s ≡ get_or steps k s
      → NoneBehind at n steps → shown_at at value v steps n ≡ value s
  shown_at_end v [] k s n many is early = absurd (omega (arith, many))
  shown_at_end v (t ∷ []) k s n many is early =
      let first : at t ≤ n = early.0 in
      let zero_is : k ≡ 0 = omega (arith, many) in
      let same : s ≡ t = is ∙ ap (λ (j : ℕ). get_or (t ∷ []) j s) zero_is in
      ap (λ (b : Bool). cond b (value t) v) (le-leb (at t) n first) ∙ ap value (sym same)
  shown_at_end v (t ∷ u ∷ steps) zero s n many is early = absurd (omega (arith, many))
  shown_at_end v (t ∷ u ∷ steps) (suc k) s n many is early =
      shown_at_end (cond (nat_le (at t) n) (value t) v) (u ∷ steps) k s n (omega (arith, many)) is early.1
