-- The numbers of running arms.
use Rattle.std.proofs.Common.{◌≡◌, ◌⊎◌, inl, inr, ℕ, suc, ◌+◌, ◌<◌, ◌≤◌, refl, ap, arith}
use Rattle.pb_names.specs.Program.{Arms, NoArm, AndArm, count}
use Rattle.pb_names.specs.Source.{begin, running_arms}

-- a parbegin begins as many arms as it has
pub running_begin : (arms : Arms) → running_arms (begin arms) ≡ count arms
running_begin NoArm = refl
running_begin (AndArm arm arms) = ap suc (running_begin arms)

-- the number is n, or in a range
abbrev pub Mine : ℕ → ℕ → ℕ → ℕ → Type 0
Mine n lo hi a = (a ≡ n) ⊎ ((lo ≤ a) × (a < hi))

-- the number is one of k from n on, or in a range
abbrev pub AllMine : ℕ → ℕ → ℕ → ℕ → ℕ → Type 0
AllMine n k lo hi a = ((n ≤ a) × (a < n + k)) ⊎ ((lo ≤ a) × (a < hi))

-- a number of the first arm is one of all
pub first_mine : (n k lo mid hi a : ℕ) → mid ≤ hi → Mine n lo mid a → AllMine n (suc k) lo hi a
first_mine n k lo mid hi a l (inl m) = inl (omega (arith, m), omega (arith, m))
first_mine n k lo mid hi a l (inr m) = inr (m.0, omega (arith, m.1, l))

-- a number of the later arms is one of all
pub later_mine : (n k lo mid hi a : ℕ) → lo ≤ mid → AllMine (n + 1) k mid hi a → AllMine n (suc k) lo hi a
later_mine n k lo mid hi a l (inl m) = inl (omega (arith, m.0), omega (arith, m.1))
later_mine n k lo mid hi a l (inr m) = inr (omega (arith, m.0, l), m.1)
