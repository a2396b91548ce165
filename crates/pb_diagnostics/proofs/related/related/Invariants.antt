use Rattle.std.proofs.Common.{◌≡◌, false}
use Rattle.serde_json.specs.View.{items_view}
use Rattle.serde_json.specs.Written.{items_have_float}
use Rattle.pb_diagnostics.proofs.related.related.Given as goal

abbrev pub invariant-loop-spot : goal.invariant-loop-spot
invariant-loop-spot l = items_have_float (items_view l.items.items) ≡ false
