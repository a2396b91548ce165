use Rattle.std.proofs.Common.{◌≡◌, ◌++◌, drop}
use Rattle.pb_findings.specs.Sarif.{related_from}
use Rattle.pb_findings.proofs.results.put_all_related.Given as goal

abbrev pub invariant-loop-i : goal.invariant-loop-i
invariant-loop-i l =
    l.out.items ++ related_from l.name l.i (drop l.i l.spots) ≡ l.fn.out.items ++ related_from l.name 0 l.spots
