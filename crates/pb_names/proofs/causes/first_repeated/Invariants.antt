use Rattle.std.proofs.Common.{◌≢◌, ℕ, ◌<◌, map, Some}
use Rattle.std.specs.Prelude.{slice_get}
use Rattle.pb_names.proofs.causes.first_repeated.Given as goal

abbrev pub invariant-loop-i : goal.invariant-loop-i
invariant-loop-i g l =
    (k : ℕ) → k < l.i → slice_get (map (λ d. d.resource.text.items) l.demands.items) k ≢ Some l.name.text.items
