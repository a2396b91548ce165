use Rattle.std.proofs.Common.{◌≡◌, ap, arith, map}
use Rattle.std.proofs.lemmas.Result.{IfOk-weaker}
use Rattle.serde_json.specs.View.{view}
use Rattle.pb_outline.specs.Places.{place}
use Rattle.pb_server_names.specs.Symbols.{integer_data, symbol_data}
use Rattle.pb_server_names.proofs.Ends.{integer_ends}
use Rattle.pb_server_names.proofs.symbols.integer_value.Goals as goal

pub returns : goal.returns
returns c =
    let text = c.args.text.now in
    let one = place c.args.one.now in
    IfOk-weaker c.symbol_value.result
    (λ v. view v ≡ symbol_data text one (record { start = c.args.one.now.at; end = c.saturating_add.result }) (map view c.new.result.items))
    (λ v. view v ≡ integer_data text one)
    (λ v is. integer_ends text one c.saturating_add.result (map view c.new.result.items) (view v) (omega arith) c.saturating_add.ensures
    (ap (map view) c.new.ensures.items) is)
    c.symbol_value.ensures
