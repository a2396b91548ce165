-- Lists with no number that is no integer.
use Rattle.std.proofs.Common.{◌≡◌, List, [], ◌∷◌, ◌++◌, Vec, Global, false, refl, ap, ◌∙◌}
use Rattle.std.proofs.lemmas.Bool.{or_from, or_parts}
use Rattle.serde_json.proofs.Views.{view-Array}
use Rattle.serde_json.specs.View.{items_view, view}
use Rattle.serde_json.specs.Written.{has_float, items_have_float}
use Rattle.serde_json.specs.declared.value.Value.{Value, Array}

-- a list with one item more
pub one_more_free : (vs : List Value) (v : Value) → items_have_float (items_view vs) ≡ false → has_float (view v) ≡ false
    → items_have_float (items_view (vs ++ v ∷ [])) ≡ false
one_more_free [] v all free = or_from (has_float (view v)) false free refl
one_more_free (w ∷ vs) v all free =
    let parts = or_parts (has_float (view w)) (items_have_float (items_view vs)) all in
    or_from (has_float (view w)) (items_have_float (items_view (vs ++ v ∷ []))) parts.0 (one_more_free vs v parts.1 free)

-- a list as a value
pub list_free : (v : Vec Value Global) → items_have_float (items_view v.items) ≡ false → has_float (view (Array v)) ≡ false
list_free v free = ap has_float (view-Array v) ∙ free
