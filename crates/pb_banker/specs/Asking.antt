-- What a call of `ask` does.
use Rattle.std.specs.Prelude.{◌≡◌, ◌≢◌, ℕ, ◌+◌, ◌*◌, ◌≤◌, List, ◌↔◌}
use Rattle.pb_base.specs.declared.pair.Pair.{Pair}
use Rattle.pb_base.specs.Banker.{BankerState, processes, with_loan, Finishes, IsLeastFirst, IsAllowed, IsOverClaim}
use Rattle.pb_base.specs.Banker.{IsWithinClaim, IsWithinCash}
use Rattle.pb_banker.specs.declared.answer.Answer.{Answer}
use Rattle.pb_banker.specs.declared.answer.Answer.TheVariants.{Granted, NotNow, OverClaim}

-- the answer: over a claim, else granted exactly if allowed
pub record Answers (s : BankerState) (p : ℕ) (pairs : List Pair) (answer : Answer) : Type 0 where
  pub over_claim : (answer ≡ OverClaim) ↔ IsOverClaim s p pairs
  pub granted : (answer ≡ Granted) ↔ IsAllowed s p pairs

-- the state after the answer: only a grant changes it
abbrev pub state_after : BankerState → ℕ → List Pair → Answer → BankerState
state_after s p pairs Granted = with_loan s p pairs
state_after s p pairs NotNow = s
state_after s p pairs OverClaim = s

-- which order is kept for the next time, always one that finishes: the same if nothing is granted or if
-- it still finishes, else the least-first order of the state with the new loan
pub record KeepsOrder (s : BankerState) (p : ℕ) (pairs : List Pair) (kept_order : List ℕ) (answer : Answer)
    (next : List ℕ) : Type 0 where
  pub finishes : Finishes (state_after s p pairs answer) next
  pub refused : answer ≢ Granted → next ≡ kept_order
  pub kept : Finishes (with_loan s p pairs) kept_order → next ≡ kept_order
  pub found : answer ≡ Granted → ¬ Finishes (with_loan s p pairs) kept_order
      → IsLeastFirst (with_loan s p pairs) next

-- how many processes were compared with what is available: none if claim or cash refuse, each once if
-- else the kept order still finishes, and P + P (P + 1) / 2 of P processes at most
pub record Looked (s : BankerState) (p : ℕ) (pairs : List Pair) (kept_order : List ℕ) (looked : ℕ) : Type 0 where
  pub refused_first : ¬ (IsWithinClaim s p pairs × IsWithinCash s pairs) → looked ≡ 0
  pub kept : Finishes (with_loan s p pairs) kept_order → looked ≤ processes s
  pub walked : IsWithinClaim s p pairs → IsWithinCash s pairs → Finishes (with_loan s p pairs) kept_order
      → looked ≡ processes s
  pub most : 2 * looked ≤ 2 * processes s + processes s * (processes s + 1)
