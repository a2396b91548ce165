use Rattle.std.proofs.Common.{◌≡◌, ◌++◌, take}
use Rattle.std.specs.List.{flat_map}
use Rattle.pb_findings.specs.Objects.{warned_text}
use Rattle.pb_findings.specs.Strings.{further}
use Rattle.pb_findings.proofs.object.put_further_warned.Given as goal

abbrev pub invariant-loop-one : goal.invariant-loop-one
invariant-loop-one l = l.out.items ≡ l.fn.out.items ++ flat_map (further warned_text) (take l.one-index l.warned)
