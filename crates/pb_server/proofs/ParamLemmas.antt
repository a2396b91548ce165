-- The last item of a list.
use Rattle.std.proofs.Common.{◌≡◌, suc, ◌-◌, List, [], ◌∷◌, length, option_map, refl, ap, ◌∙◌, arith}
use Rattle.std.specs.Prelude.{slice_get}
use Rattle.serde_json.specs.View.{items_view, view}
use Rattle.serde_json.specs.declared.value.Value.{Value}
use Rattle.pb_server.specs.Params.{last_item}

pub last_is : (vs : List Value) → option_map view (slice_get vs (length vs - 1)) ≡ last_item (items_view vs)
last_is [] = refl
last_is (v ∷ []) = refl
last_is (v ∷ w ∷ vs) =
    let step : length (v ∷ w ∷ vs) - 1 ≡ suc (length (w ∷ vs) - 1) = omega arith in
    ap (λ k. option_map view (slice_get (v ∷ w ∷ vs) k)) step ∙ last_is (w ∷ vs)
