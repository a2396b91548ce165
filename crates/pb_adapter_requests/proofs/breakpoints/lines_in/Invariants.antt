use Rattle.std.proofs.Common.{◌≡◌, map}
use Rattle.std.specs.Prelude.{slice_index_or}
use Rattle.serde_json.specs.Data.{null}
use Rattle.serde_json.specs.View.{view}
use Rattle.pb_adapter_requests.specs.Breakpoints.{line_in, numbers_below}
use Rattle.pb_adapter_requests.proofs.breakpoints.lines_in.Given as goal

abbrev pub invariant-loop-i : goal.invariant-loop-i
invariant-loop-i l = l.lines.items ≡ numbers_below (λ i. line_in l.counting (slice_index_or (map view l.list) i null)) l.i
