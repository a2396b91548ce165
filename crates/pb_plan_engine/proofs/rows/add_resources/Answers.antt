use Rattle.std.proofs.Common.{◌≡◌, ◌∙◌, [], ◌∷◌, ℕ, List, length, map, ap, arith}
use Rattle.std.specs.Prelude.{slice_index}
use Rattle.std.proofs.lemmas.List.{length-map}
use Rattle.pb_names.specs.declared.resolved.Resource.{Resource as Given}
use Rattle.pb_plan.specs.Needs.{free_capital, least_capital}
use Rattle.pb_plan_engine.specs.Plans.{resource_name}
use Rattle.pb_plan_engine.specs.Sayings.{Resource}
use Rattle.pb_plan_engine.specs.View.{said_view}
use Rattle.pb_plan_engine.proofs.LineLemmas.{each_last, each_next}
use Rattle.pb_plan_engine.proofs.rows.add_resources.Goals as goal

pub loop-r-preserved : goal.loop-r-preserved
loop-r-preserved g c =
    let names = map (λ (q : Given _). q.name.items) c.args.resources.now in
    let capital = c.args.capital.now in
    let claims = c.args.claims.now in
    let r = c.loop-r.r in
    let least = c.least_capital-least.result in
    let free = c.free_capital-free.result in
    each_next (λ k. Resource (resource_name names k) (slice_index capital k) (least_capital claims k) (free_capital claims k) ∷ [])
    r (map said_view c.args.said.now.items) (map said_view c.loop-r.said.items) _ (Resource c.in_ok-name.name.items c.get-there.result least free ∷ [])
    c.loop-r.invariant c.in_ok-add.ensures
    (ap (λ (n : List ℕ). Resource n c.get-there.result least free ∷ []) c.in_ok-name.ensures
    ∙ ap (λ (k : ℕ). Resource (resource_name names r) k least free ∷ []) c.get-there.ensures
    ∙ ap (λ (k : ℕ). Resource (resource_name names r) (slice_index capital r) k free ∷ []) c.least_capital-least.ensures
    ∙ ap (λ (k : ℕ). Resource (resource_name names r) (slice_index capital r) (least_capital claims r) k ∷ [])
    c.free_capital-free.ensures)

pub returns : goal.returns
returns g c =
    let names = map (λ (q : Given _). q.name.items) c.args.resources.now in
    let capital = c.args.capital.now in
    let claims = c.args.claims.now in
    let all = length-map c.args.resources.now (λ (q : Given _). q.name.items) in
    let past = c.loop-r-test.false in
    let within = c.loop-r.auto.r-end in
    let same : c.loop-r.r ≡ length names = omega (arith, all, past, within) in
    each_last (λ k. Resource (resource_name names k) (slice_index capital k) (least_capital claims k) (free_capital claims k) ∷ [])
    c.loop-r.r (length names) (map said_view c.args.said.now.items) (map said_view c.loop-r.said.items) same c.loop-r.invariant
