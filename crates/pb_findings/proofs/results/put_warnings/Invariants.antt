use Rattle.std.proofs.Common.{◌≡◌, ◌++◌, take}
use Rattle.std.specs.List.{flat_map}
use Rattle.pb_findings.specs.Sarif.{warned_sarif}
use Rattle.pb_findings.proofs.results.put_warnings.Given as goal

abbrev pub invariant-loop-one : goal.invariant-loop-one
invariant-loop-one l = l.out.items ≡ l.fn.out.items ++ flat_map (warned_sarif l.name) (take l.one-index l.warned)
