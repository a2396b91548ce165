use Rattle.std.proofs.Common.{◌≡◌, All, false, map}
use Rattle.serde_json.specs.View.{items_view, view}
use Rattle.serde_json.specs.Written.{items_have_float}
use Rattle.pb_diagnostics.specs.Actions.{IsAction}
use Rattle.pb_diagnostics.proofs.act.actions.Given as goal

abbrev pub invariant-loop-mend : goal.invariant-loop-mend
invariant-loop-mend l =
    All (IsAction l.uri l.text) (map view l.list.items) × (items_have_float (items_view l.list.items) ≡ false)
