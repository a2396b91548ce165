use Rattle.std.proofs.Common.{◌≡◌, map}
use Rattle.std.specs.Fmt.{decimal}
use Rattle.serde_json.specs.View.{view}
use Rattle.pb_banker.specs.Lenders.{lender_state}
use Rattle.pb_base.specs.Banker.{cash}
use Rattle.pb_base.specs.Lines.{name_of}
use Rattle.pb_adapter_requests.specs.Responses.{list_below}
use Rattle.pb_adapter_values.specs.Values.{variable_data}
use Rattle.pb_adapter_values.proofs.variables.all_cash.Given as goal

abbrev pub invariant-loop-r : goal.invariant-loop-r
invariant-loop-r l =
    map view l.list.items
    ≡ list_below (λ r. variable_data (name_of (map (λ name. name.items) l.names) r) (decimal (cash (lender_state l.lender) r))) l.r
