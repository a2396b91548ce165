-- An input that keeps what was read of it.
use Rattle.std.specs.Prelude.{◌≡◌, ℕ, ◌-◌, List, ◌++◌, Option, None, Some, length, min, take, ⊤}

-- such an input: the bytes still to come, if they are known, the failures, the first bytes that were read, or
-- none of them if out of memory to keep them, and how many more are kept
pub record KeptSource : Type 0 where
  pub rest : Option (List ℕ)
  pub failures : ℕ
  pub kept : Option (List ℕ)
  pub room : ℕ

-- these bytes are kept after the others, or nothing is kept from now on
abbrev pub IsAdded : List ℕ → (old new : Option (List ℕ)) → Type 0
IsAdded bytes old None = ⊤
IsAdded bytes None (Some new) = ⊥
IsAdded bytes (Some old) (Some new) = new ≡ old ++ bytes

-- of these bytes, which were read, as many are kept as there is room for
abbrev pub KeepsMore : KeptSource → KeptSource → (given : List ℕ) → Type 0
KeepsMore old new given =
    (new.room ≡ old.room - length given) × IsAdded (take (min old.room (length given)) given) old.kept new.kept
