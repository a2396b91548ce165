use Rattle.std.proofs.Common.{◌≡◌, ◌<◌, ℕ, Some}
use Rattle.std.specs.Prelude.{slice_get}
use Rattle.pb_code.specs.View.{code_view}
use Rattle.pb_search_engine.specs.Requirements.{SomeClaims}
use Rattle.pb_search_engine.proofs.requirements.is_claimed.Given as goal

abbrev pub invariant-loop-r : goal.invariant-loop-r
invariant-loop-r l =
    (r : ℕ) → r < l.r → slice_get (code_view l.code).names.resources r ≡ Some l.name → SomeClaims (code_view l.code) l.amount r → ⊥
