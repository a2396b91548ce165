-- The lists of breakpoints.
use Rattle.std.proofs.Common.{◌≡◌, ℕ, List, [], ◌∷◌, ◌||◌, map, refl, ap}
use Rattle.std.specs.List.{list_any}
use Rattle.serde_json.specs.Data.{Data}
use Rattle.serde_json.specs.View.{items_of, view}
use Rattle.serde_json.specs.declared.value.Value.{Value}
use Rattle.pb_code.specs.View.{process_labels_view}
use Rattle.pb_code.specs.declared.labels.ProcessLabels.{ProcessLabels as GivenLabels}
use Rattle.pb_adapter_requests.specs.Breakpoints.{datas_in, is_events, is_line}

-- the items of a list are those that it was made of
pub datas_of : (ds : List Data) → datas_in (items_of ds) ≡ ds
datas_of [] = refl
datas_of (d ∷ ds) = ap (λ (es : List Data). d ∷ es) (datas_of ds)

-- an item that asks to stop at events is among these
pub any_viewed : (vs : List Value) → list_any is_events (map view vs) ≡ list_any (λ v. is_events (view v)) vs
any_viewed [] = refl
any_viewed (v ∷ vs) = ap (λ b. is_events (view v) || b) (any_viewed vs)

-- a line is among those of some labels
pub any_labels : (n : ℕ) (ps : List GivenLabels)
    → list_any (λ l. list_any (is_line n) l.lines) (map process_labels_view ps) ≡ list_any (λ p. list_any (is_line n) p.lines.items) ps
any_labels n [] = refl
any_labels n (p ∷ ps) = ap (λ b. list_any (is_line n) p.lines.items || b) (any_labels n ps)
