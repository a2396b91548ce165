use Rattle.std.proofs.Common.{◌≡◌, ◌++◌, take}
use Rattle.std.specs.List.{flat_map}
use Rattle.pb_findings.specs.Sarif.{found_sarif}
use Rattle.pb_findings.proofs.results.put_texts.Given as goal

abbrev pub invariant-loop-found : goal.invariant-loop-found
invariant-loop-found l = l.out.items ≡ l.fn.out.items ++ flat_map (found_sarif l.name) (take l.found-index l.texts)
