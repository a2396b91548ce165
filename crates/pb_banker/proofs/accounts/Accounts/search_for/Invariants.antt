use Rattle.std.proofs.Common.{◌-◌, take}
use Rattle.std.specs.List.Sorted.{IsPermutation}
use Rattle.pb_base.specs.Banker.{everyone}
use Rattle.pb_banker.specs.Accounts.{state_of}
use Rattle.pb_banker.specs.Askers.{IsFound, IsLeftBy}
use Rattle.pb_banker.proofs.accounts.Accounts.search_for.Given as goal

abbrev pub invariant-loop-found : goal.invariant-loop-found
invariant-loop-found l =
    record {
      everyone : IsPermutation (everyone (state_of l.self)) (take l.self.processes l.way);
      found : IsFound (state_of l.self) l.found;
      left : IsLeftBy (state_of l.self) l.found l.available;
    }

abbrev pub decreases-loop-found : goal.decreases-loop-found
decreases-loop-found l = l.self.processes - l.found.count
