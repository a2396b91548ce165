-- Lists of actions.
use Rattle.std.proofs.Common.{All, ℕ, List, [], ◌∷◌, ◌++◌, map, sym, subst}
use Rattle.std.proofs.lemmas.List.{map-append}
use Rattle.std.proofs.lemmas.List.Elements.{All-push}
use Rattle.serde_json.specs.View.{view}
use Rattle.serde_json.specs.declared.value.Value.{Value}
use Rattle.pb_diagnostics.specs.Actions.{IsAction}

-- a list with one action more
pub one_more_action : (uri text : List ℕ) (vs : List Value) (v : Value) → All (IsAction uri text) (map view vs)
    → IsAction uri text (view v) → All (IsAction uri text) (map view (vs ++ v ∷ []))
one_more_action uri text vs v all one =
    subst (All (IsAction uri text)) (sym (map-append view vs (v ∷ []))) (All-push (IsAction uri text) (map view vs) (view v) all one)
