use Rattle.std.proofs.Common.{◌≡◌, ◌++◌, take}
use Rattle.pb_server_claims.specs.Said.{further_lines}
use Rattle.pb_server_claims.proofs.said.put_further.Given as goal

abbrev pub invariant-loop-part : goal.invariant-loop-part
invariant-loop-part l = l.out.items ≡ l.initial.out.items ++ further_lines (take l.part-index l.parts)
