use Rattle.std.proofs.Common.{◌≡◌, ◌↔◌}
use Rattle.pb_verifier.specs.Given.{instrs_of}
use Rattle.pb_verifier.specs.Holdings.{IsChain, held}
use Rattle.pb_verifier.proofs.holdings.same_holds.Given as goal

abbrev pub invariant-loop-left : goal.invariant-loop-left
invariant-loop-left l = record {
  one : IsChain (instrs_of l.code) l.table l.left l.a;
  two : IsChain (instrs_of l.code) l.table l.left l.b;
  same : (held (instrs_of l.code) l.table l.left l.a ≡ held (instrs_of l.code) l.table l.left l.b) ↔ (held (instrs_of
      l.code) l.table l.count l.one ≡ held (instrs_of l.code) l.table l.count l.two);
}

abbrev pub decreases-loop-left : goal.decreases-loop-left
decreases-loop-left l = l.left
