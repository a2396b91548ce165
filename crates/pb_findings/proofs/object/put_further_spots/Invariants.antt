use Rattle.std.proofs.Common.{◌≡◌, ◌++◌, take}
use Rattle.std.specs.List.{flat_map}
use Rattle.pb_findings.specs.Objects.{spot_text}
use Rattle.pb_findings.specs.Strings.{further}
use Rattle.pb_findings.proofs.object.put_further_spots.Given as goal

abbrev pub invariant-loop-spot : goal.invariant-loop-spot
invariant-loop-spot l = l.out.items ≡ l.fn.out.items ++ flat_map (further spot_text) (take l.spot-index l.spots)
