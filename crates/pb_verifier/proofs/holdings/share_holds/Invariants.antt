use Rattle.pb_verifier.specs.Given.{instrs_of}
use Rattle.pb_verifier.proofs.SharedHolds.{AreEqual}
use Rattle.pb_verifier.proofs.holdings.share_holds.Given as goal

abbrev pub invariant-loop-left : goal.invariant-loop-left
invariant-loop-left l = AreEqual (instrs_of l.code) l.fn.table.items l.table.items l.left l.a l.b

abbrev pub decreases-loop-left : goal.decreases-loop-left
decreases-loop-left l = l.left
