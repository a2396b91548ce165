use Rattle.std.proofs.Common.{ℕ, ◌-◌, length}
use Rattle.std.specs.Prelude.{Contains}
use Rattle.pb_verifier.specs.Given.{instrs_of}
use Rattle.pb_verifier.proofs.ReachSearch.{IsSearch}
use Rattle.pb_verifier.proofs.reach.reached.Given as goal

abbrev pub invariant-loop-next : goal.invariant-loop-next
invariant-loop-next l = record {
  search : IsSearch l.entries (instrs_of l.code) l.next l.found.items l.order.items;
  starts : (p : ℕ) → Contains l.entries p → Contains l.order.items p;
}

abbrev pub decreases-loop-next : goal.decreases-loop-next
decreases-loop-next l = length (instrs_of l.code) - l.next
