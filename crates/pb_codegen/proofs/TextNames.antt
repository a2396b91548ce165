-- The names of a process and of a resource, by number.
use Rattle.std.proofs.Common.{◌≡◌, ℕ, zero, suc, ◌<◌, List, [], ◌∷◌, length, map, get_or, slice_index_or, sym, ap}
use Rattle.std.proofs.Common.{arith}
use Rattle.pb_names.specs.Program.{Process as PlainProcess, Resource as PlainResource}
use Rattle.pb_names.specs.View.{process_view, resource_view}
use Rattle.pb_names.specs.declared.resolved.Process.{Process}
use Rattle.pb_names.specs.declared.resolved.Resource.{Resource}

pub process_name : {A : Type 0} (ps : List (Process A)) (i : ℕ) (p : Process A) → i < length ps → p ≡ get_or ps i p
    → slice_index_or (map (λ (q : PlainProcess). q.name) (map process_view ps)) i [] ≡ p.name.items
process_name [] i p within at = absurd (omega (arith, within))
process_name (q ∷ ps) zero p within at = ap (λ (x : Process _). x.name.items) (sym at)
process_name (q ∷ ps) (suc i) p within at = process_name ps i p (omega (arith, within)) at

pub resource_name : {A : Type 0} (rs : List (Resource A)) (i : ℕ) (r : Resource A) → i < length rs → r ≡ get_or rs i r
    → slice_index_or (map (λ (q : PlainResource). q.name) (map resource_view rs)) i [] ≡ r.name.items
resource_name [] i r within at = absurd (omega (arith, within))
resource_name (q ∷ rs) zero r within at = ap (λ (x : Resource _). x.name.items) (sym at)
resource_name (q ∷ rs) (suc i) r within at = resource_name rs i r (omega (arith, within)) at
