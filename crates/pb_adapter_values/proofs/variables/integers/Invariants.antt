use Rattle.std.proofs.Common.{◌≡◌, map}
use Rattle.std.specs.Prelude.{pos, slice_index_or}
use Rattle.std.specs.Fmt.{signed_decimal}
use Rattle.serde_json.specs.View.{view}
use Rattle.pb_base.specs.Lines.{name_of}
use Rattle.pb_adapter_requests.specs.Responses.{list_below}
use Rattle.pb_adapter_values.specs.Values.{variable_data}
use Rattle.pb_adapter_values.proofs.variables.integers.Given as goal

abbrev pub invariant-loop-i : goal.invariant-loop-i
invariant-loop-i l =
    map view l.list.items
    ≡ list_below (λ x. variable_data (name_of (map (λ name. name.items) l.names) x) (signed_decimal (slice_index_or l.vars x (pos 0)))) l.i
