use Rattle.std.proofs.Common.{◌≡◌, ◌++◌, take}
use Rattle.std.specs.List.{flat_map}
use Rattle.pb_findings.specs.Gcc.{warned_gcc}
use Rattle.pb_findings.proofs.gcc.put_warnings.Given as goal

abbrev pub invariant-loop-one : goal.invariant-loop-one
invariant-loop-one l = l.out.items ≡ l.fn.out.items ++ flat_map (warned_gcc l.name) (take l.one-index l.warned)
