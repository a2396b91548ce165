use Rattle.std.proofs.Common.{◌≡◌, ◌++◌, take}
use Rattle.std.specs.List.{flat_map}
use Rattle.pb_findings.specs.Gcc.{found_gcc}
use Rattle.pb_findings.proofs.gcc.put_texts.Given as goal

abbrev pub invariant-loop-found : goal.invariant-loop-found
invariant-loop-found l = l.out.items ≡ l.fn.out.items ++ flat_map (found_gcc l.name) (take l.found-index l.texts)
