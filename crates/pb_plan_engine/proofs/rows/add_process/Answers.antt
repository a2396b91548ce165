use Rattle.std.proofs.Common.{◌∙◌, [], ◌∷◌, ℕ, map, ap}
use Rattle.std.specs.Prelude.{slice_index}
use Rattle.pb_base.specs.Banker.{row_of}
use Rattle.pb_joint.specs.View.{full_name}
use Rattle.pb_names.specs.View.{block_view}
use Rattle.pb_names.specs.declared.resolved.Resource.{Resource}
use Rattle.pb_plan.specs.Parts.{parts}
use Rattle.pb_plan_engine.specs.Plans.{resource_name}
use Rattle.pb_plan_engine.specs.Sayings.{Saying, Claim}
use Rattle.pb_plan_engine.specs.View.{said_view}
use Rattle.pb_plan_engine.proofs.LineLemmas.{each_next}
use Rattle.pb_plan_engine.proofs.rows.add_process.Goals as goal

pub loop-r-preserved : goal.loop-r-preserved
loop-r-preserved g c =
    let names = map (λ (q : Resource _). q.name.items) c.args.resources.now in
    let name = full_name c.args.called.now in
    let body = block_view c.args.process.now.body.items in
    let row = row_of c.args.claims.now c.args.p in
    let r = c.loop-r.r in
    each_next (λ k. Claim name (slice_index row k) (resource_name names k) (parts k body) ∷ [])
    r (map said_view c.args.said.now.items) (map said_view c.loop-r.said.items) _ (said_view c.in_ok-claim.claim ∷ [])
    c.loop-r.invariant c.in_ok-add.ensures
    (ap (λ (s : Saying). s ∷ []) (c.in_ok-claim.ensures ∙ ap (λ (k : ℕ). Claim name k (resource_name names r) (parts r body)) c.get-amount.ensures))
