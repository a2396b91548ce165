use Rattle.std.proofs.Common.{◌≡◌, All, List, false, map, sym, subst}
use Rattle.serde_json.specs.View.{items_view, view}
use Rattle.serde_json.specs.Written.{items_have_float}
use Rattle.serde_json.specs.declared.value.Value.{Value}
use Rattle.pb_diagnostics.specs.Actions.{IsAction}
use Rattle.pb_diagnostics.proofs.ActionLemmas.{one_more_action}
use Rattle.pb_diagnostics.proofs.FreeLemmas.{one_more_free}
use Rattle.pb_diagnostics.proofs.act.actions.Goals as goal

pub loop-mend-preserved : goal.loop-mend-preserved
loop-mend-preserved c =
    let uri = c.args.uri.now in
    let text = c.args.text.now in
    let before = c.loop-mend.list.items in
    let one = c.in_ok-action.field-0 in
    let more = sym c.in_ok-push.ensures.items in (
      subst (λ (vs : List Value). All (IsAction uri text) (map view vs)) more
          (one_more_action uri text before one c.loop-mend.invariant.0 c.in_ok-action.ensures.action),
      subst (λ (vs : List Value). items_have_float (items_view vs) ≡ false) more
          (one_more_free before one c.loop-mend.invariant.1 c.in_ok-action.ensures.float_free),
    )
