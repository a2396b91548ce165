use Rattle.std.proofs.Common.{◌≡◌, [], ◌∷◌, ◌++◌, map}
use Rattle.std.specs.Prelude.{slice_index}
use Rattle.pb_plan.specs.Needs.{free_capital, least_capital}
use Rattle.pb_plan_engine.specs.Plans.{all_below, resource_name}
use Rattle.pb_plan_engine.specs.Sayings.{Resource}
use Rattle.pb_plan_engine.specs.View.{said_view}
use Rattle.pb_plan_engine.proofs.rows.add_resources.Given as goal

abbrev pub invariant-loop-r : goal.invariant-loop-r
invariant-loop-r g l =
    map said_view l.said.items ≡ map said_view l.initial.said.items
    ++ all_below (λ r. Resource (resource_name (map (λ q. q.name.items) l.resources) r) (slice_index l.capital r)
    (least_capital l.claims r) (free_capital l.claims r) ∷ []) l.r
