use Rattle.std.proofs.Common.{◌≡◌, map}
use Rattle.serde_json.specs.View.{view}
use Rattle.pb_banker.specs.Lenders.{lender_state}
use Rattle.pb_base.specs.Banker.{claim, loan}
use Rattle.pb_base.specs.Lines.{name_of}
use Rattle.pb_adapter_requests.specs.Responses.{list_below}
use Rattle.pb_adapter_values.specs.Values.{loan_words, variable_data}
use Rattle.pb_adapter_values.proofs.variables.loans.Given as goal

abbrev pub invariant-loop-r : goal.invariant-loop-r
invariant-loop-r l =
    map view l.list.items
    ≡ list_below (λ r. variable_data (name_of (map (λ name. name.items) l.names) r)
    (loan_words (loan (lender_state l.lender) l.p r) (claim (lender_state l.lender) l.p r))) l.r
