use Rattle.std.proofs.Common.{◌≡◌, map}
use Rattle.std.specs.Prelude.{pos, slice_index_or}
use Rattle.std.specs.Fmt.{decimal, signed_decimal}
use Rattle.serde_json.specs.View.{view}
use Rattle.pb_adapter_requests.specs.Responses.{list_below}
use Rattle.pb_adapter_values.specs.Values.{variable_data}
use Rattle.pb_adapter_values.proofs.variables.operands.Given as goal

abbrev pub invariant-loop-i : goal.invariant-loop-i
invariant-loop-i l =
    map view l.list.items
    ≡ list_below (λ i. variable_data (decimal i) (signed_decimal (slice_index_or l.values i (pos 0)))) l.i
