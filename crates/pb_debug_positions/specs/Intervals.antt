-- How far checkpoints are apart.
use Rattle.std.specs.Prelude.{◌≡◌, ℕ, ◌+◌, ◌/◌, ◌≤◌, max}

-- 4,096 picks, or the number of picks divided by 64, rounded up, if that is more
abbrev pub interval_of : ℕ → ℕ
interval_of n = max 4096 ((n + 63) / 64)

-- the distance for the first of n picks, however many those are
abbrev pub IsInterval : (n interval : ℕ) → Type 0
IsInterval n interval = (first : ℕ) × (first ≤ n) × (interval ≡ interval_of first)
