-- The last pick of which something holds, looked for from the end on.
use Rattle.std.proofs.Common.{◌≡◌, ℕ, ◌<◌, ◌≤◌, true, false, Option, Some, None, inl, inr, arith}
use Rattle.std.specs.Option.{is_some}
use Rattle.std.proofs.lemmas.Bool.{cases_lt}
use Rattle.pb_debug_positions.specs.Searches.{IsLast}

module _ (Holds : ℕ → Type 0) (start end past : ℕ) (later : (j : ℕ) → end ≤ j → j < past → Holds j → ⊥) where
  -- one that was found is the last of all
  pub last_of_all : (last : Option ℕ) → end ≤ past → is_some last ≡ true → IsLast Holds start end last → IsLast Holds 0 past last
  last_of_all None within some is = absurd cc
  last_of_all (Some k) within some (le, lt, holds, none) = (
    omega arith,
    omega (arith, lt, within),
    holds,
    λ j above below does. elim (cases_lt j end) [
      | inl before ↦ none j above before does
      | inr behind ↦ later j behind below does
    ],
  )

  -- and if none was found there is none from here on
  pub none_from : (last : Option ℕ) → is_some last ≡ false → IsLast Holds start end last
      → (j : ℕ) → start ≤ j → j < past → Holds j → ⊥
  none_from (Some k) none is j le lt does = absurd cc
  none_from None none is j le lt does = elim (cases_lt j end) [
    | inl before ↦ is j le before does
    | inr behind ↦ later j behind lt does
  ]
