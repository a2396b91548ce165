use Rattle.std.proofs.Common.{◌≡◌, ◌<◌, ◌≤◌, ◌+◌, ℕ, slice_index, take}
use Rattle.pb_base.specs.Banker.{cash, held_by, remaining_claim}
use Rattle.pb_banker.specs.Accounts.{state_of}
use Rattle.pb_banker.proofs.accounts.Accounts.still_fit_by.Given as goal

abbrev pub invariant-loop-k : goal.invariant-loop-k
invariant-loop-k l =
    record {
      available : l.available ≡ cash (state_of l.self) l.r + held_by (state_of l.self) (take l.k l.order) l.r;
      fits : (j : ℕ) → j < l.k → remaining_claim (state_of l.self) (slice_index l.order j) l.r
          ≤ cash (state_of l.self) l.r + held_by (state_of l.self) (take j l.order) l.r;
    }
