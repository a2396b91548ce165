-- Which requests never wait for the banker.
use Rattle.std.specs.Prelude.{◌≡◌, ℕ, ◌<◌, List, All, Some}
use Rattle.pb_base.specs.declared.pair.Pair.{Pair}
use Rattle.pb_base.specs.declared.pick.Pick.{Pick}
use Rattle.pb_base.specs.Bundle.{IsDistinct}
use Rattle.pb_base.specs.Banker.{BankerState, IsAllowed, IsSafe, IsWellFormed, IsWithinClaim, processes, resources}
use Rattle.pb_base.specs.Steppers.{Bundle, Takes, State, Move, IsGranted, move_of}
use Rattle.pb_code.specs.Code.{CodeProcess, code_step}
use Rattle.pb_code.specs.Reached.{CodeReaches}
use Rattle.pb_code.specs.Whole.{Code, bank_of}
use Rattle.pb_plan.specs.Needs.{AllFree, IsFree}

-- in a safe state a request within its claim, of resources of which there is enough for all claims at once, is
-- allowed
abbrev pub FreeRequestsAreAllowed : Type 0
FreeRequestsAreAllowed =
    (s : BankerState) (p : ℕ) (pairs : List Pair) → IsWellFormed s → IsSafe s → p < processes s
    → IsDistinct pairs → All (λ pair. pair.resource < resources s) pairs
    → All (λ pair. IsFree s.claims s.capital pair.resource) pairs
    → IsWithinClaim s p pairs → IsAllowed s p pairs

-- so is every request that the code comes to, if it asks for such resources alone
abbrev pub FreeRequestsAreGranted : Code → Type 0
FreeRequestsAreGranted code =
    (s : State CodeProcess) → CodeReaches code s
    → (pick : Pick) (move : Move CodeProcess) (bundle : Bundle)
    → move_of (code_step code.processes) s pick ≡ Some move → move.effect ≡ Takes bundle
    → All (λ pair. IsFree code.claims code.capital pair.resource) bundle
    → IsGranted (bank_of code) s.loans pick.process move.effect

-- if there is enough of each resource for all claims at once, that is every request
abbrev pub AllRequestsAreGranted : Code → Type 0
AllRequestsAreGranted code =
    AllFree code.claims code.capital → (s : State CodeProcess) → CodeReaches code s
    → (pick : Pick) (move : Move CodeProcess) (bundle : Bundle)
    → move_of (code_step code.processes) s pick ≡ Some move → move.effect ≡ Takes bundle
    → IsGranted (bank_of code) s.loans pick.process move.effect
