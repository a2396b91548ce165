use Rattle.std.proofs.Common.{◌≡◌, [], ◌∷◌, ◌++◌, map}
use Rattle.std.specs.Prelude.{slice_index}
use Rattle.pb_base.specs.Banker.{row_of}
use Rattle.pb_joint.specs.View.{full_name}
use Rattle.pb_names.specs.View.{block_view}
use Rattle.pb_plan.specs.Parts.{parts}
use Rattle.pb_plan_engine.specs.Plans.{all_below, resource_name}
use Rattle.pb_plan_engine.specs.Sayings.{Claim}
use Rattle.pb_plan_engine.specs.View.{said_view}
use Rattle.pb_plan_engine.proofs.rows.add_process.Given as goal

abbrev pub invariant-loop-r : goal.invariant-loop-r
invariant-loop-r g l =
    map said_view l.said.items ≡ map said_view l.initial.said.items
    ++ all_below (λ r. Claim (full_name l.called) (slice_index (row_of l.claims l.p) r)
    (resource_name (map (λ q. q.name.items) l.resources) r) (parts r (block_view l.process.body.items)) ∷ []) l.r
