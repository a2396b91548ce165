use Rattle.std.proofs.Common.{◌≡◌, map}
use Rattle.std.specs.Prelude.{slice_index_or}
use Rattle.serde_json.specs.View.{view}
use Rattle.pb_code.specs.View.{labels_view}
use Rattle.pb_adapter_requests.specs.Breakpoints.{answered_line}
use Rattle.pb_adapter_requests.specs.Responses.{list_below}
use Rattle.pb_adapter_requests.proofs.breakpoints.breakpoints_body.Given as goal

abbrev pub invariant-loop-i : goal.invariant-loop-i
invariant-loop-i l =
    map view l.list.items
    ≡ list_below (λ i. answered_line l.own l.counting (labels_view l.labels) (slice_index_or l.lines i 0)) l.i
