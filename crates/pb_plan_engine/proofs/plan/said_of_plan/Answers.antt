use Rattle.std.proofs.Common.{Vec, Global, ◌≡◌, ℕ, List, [], length, map, option_map, ap, refl, subst, sym, arith}
use Rattle.std.proofs.lemmas.List.{append-nil, length-map}
use Rattle.pb_joint.specs.View.{full_name}
use Rattle.pb_names.specs.View.{resolved_view, resource_view}
use Rattle.pb_names.specs.declared.resolved.Resource.{Resource}
use Rattle.pb_plan.specs.Circles.{IsCircleAmong}
use Rattle.pb_plan.specs.declared.edge.Edge.{Edge}
use Rattle.pb_plan_engine.specs.Plans.{HasNoOrderAmong, IsPlan, scarce_of}
use Rattle.pb_plan_engine.specs.View.{said_view}
use Rattle.pb_plan_engine.specs.declared.said.Said.{Said}
use Rattle.pb_plan_engine.proofs.OrderLemmas.{ask_below, found_below, is_closed, no_order, not_closed}
use Rattle.pb_plan_engine.proofs.PlanLemmas.{closed_plan, is_plan}
use Rattle.pb_plan_engine.proofs.plan.said_of_plan.Goals as goal

pub order_said-requires : goal.order_said-requires
order_said-requires g c =
    let view = resolved_view c.args.program.now in
    let seen = length-map c.args.program.now.resources.items resource_view in
    let all = ap (λ (rs : List (Resource _)). length rs) c.deref-3.ensures.value in
    let many : length view.resources ≡ length c.deref-3.result.now = omega (arith, seen, all) in
    found_below (λ (o : Vec ℕ Global). o.items) c.args.order.now view c.args.claims.now (length c.deref-3.result.now) many c.requires.ordered

pub with_circle-requires-clause-below : goal.with_circle-requires-clause-below
with_circle-requires-clause-below g c =
    let view = resolved_view c.args.program.now in
    let is = c.requires.numbered in
    ask_below is.tree view is.numbered

pub with_circle-requires-clause-none : goal.with_circle-requires-clause-none
with_circle-requires-clause-none g c =
    let view = resolved_view c.args.program.now in
    subst (HasNoOrderAmong view) (sym c.requires.few)
    (no_order (λ (o : Vec ℕ Global). o.items) c.args.order.now view (scarce_of view c.args.claims.now) c.in-None.is c.requires.ordered)

pub returns-in-Some : goal.returns-in-Some
returns-in-Some g c =
    let view = resolved_view c.args.program.now in
    let none : List Edge = [] in
    is_plan (map full_name c.args.names.now) c.args.program.now c.args.claims.now c.args.capital.now c.bottleneck-found.result
    (option_map (λ (o : Vec ℕ Global). o.items) c.args.order.now) none (said_view c.in_ok-last.last) (said_view c.in_ok-follows.follows) (map said_view c.new-said.result.items) _ _ _ _ _
    c.deref.result.now c.deref-2.result.now c.deref-3.result.now c.requires.capital c.bottleneck-found.ensures c.requires.ordered
    (not_closed (λ (o : Vec ℕ Global). o.items) (IsCircleAmong (scarce_of view c.args.claims.now) view.processes []) none c.args.order.now c.in-Some.field-0 c.in-Some.is refl)
    c.deref.ensures.value c.deref-2.ensures.value c.deref-3.ensures.value (ap (map said_view) c.new-said.ensures.items) c.in_ok-last.ensures c.in_ok-follows.ensures c.in_ok-add_processes.ensures
    c.in_ok-add_resources.ensures c.in_ok-add.ensures c.in_ok-add-2.ensures (sym (append-nil _))

pub returns-in-None : goal.returns-in-None
returns-in-None g c =
    let view = resolved_view c.args.program.now in
    closed_plan (λ (v : Vec Said Global). map said_view v.items) c.with_circle.result (IsPlan (map full_name c.args.names.now) view c.args.claims.now) (IsCircleAmong c.args.few.now view.processes) _ c.with_circle.ensures
    (λ circle whole is made.
    is_plan (map full_name c.args.names.now) c.args.program.now c.args.claims.now c.args.capital.now c.bottleneck-found.result
    (option_map (λ (o : Vec ℕ Global). o.items) c.args.order.now) circle (said_view c.in_ok-last.last) (said_view c.in_ok-follows.follows) (map said_view c.new-said.result.items) _ _ _ _ whole
    c.deref.result.now c.deref-2.result.now c.deref-3.result.now c.requires.capital c.bottleneck-found.ensures c.requires.ordered
    (is_closed (λ (o : Vec ℕ Global). o.items) (IsCircleAmong (scarce_of view c.args.claims.now) view.processes circle) (circle ≡ []) c.args.order.now c.in-None.is
    (subst (λ (xs : List ℕ). IsCircleAmong xs view.processes circle) c.requires.few is))
    c.deref.ensures.value c.deref-2.ensures.value c.deref-3.ensures.value (ap (map said_view) c.new-said.ensures.items) c.in_ok-last.ensures c.in_ok-follows.ensures c.in_ok-add_processes.ensures
    c.in_ok-add_resources.ensures c.in_ok-add.ensures c.in_ok-add-2.ensures made)
