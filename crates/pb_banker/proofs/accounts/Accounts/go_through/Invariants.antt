use Rattle.std.proofs.Common.{◌≡◌, ◌<◌, ◌≤◌, ℕ, false, true, slice_index, slice_index_or}
use Rattle.pb_banker.specs.Accounts.{state_of, FitsIn}
use Rattle.pb_banker.specs.Askers.{IsFound, IsLeftBy}
use Rattle.pb_banker.proofs.accounts.Accounts.go_through.Given as goal

abbrev pub invariant-loop-i : goal.invariant-loop-i
invariant-loop-i l =
    record {
      found : IsFound (state_of l.self) l.found;
      left : IsLeftBy (state_of l.self) l.found l.available;
      more : l.initial.found.count ≤ l.found.count;
      none : l.found.count ≡ l.initial.found.count → (j : ℕ) → j < l.i → slice_index_or l.found.waiting (slice_index l.order j) false ≡ true
          → FitsIn (state_of l.self) l.available (slice_index l.order j) → ⊥;
    }
