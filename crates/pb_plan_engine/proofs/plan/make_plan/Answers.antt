use Rattle.std.proofs.Common.{Vec, Global, ◌∙◌, ℕ, List, ap, option_map, subst}
use Rattle.pb_codegen.proofs.TextOutcomes.{capital_width, claims_width}
use Rattle.pb_names.specs.View.{resolved_view}
use Rattle.pb_plan_engine.proofs.OrderLemmas.{ask_below}
use Rattle.pb_plan_engine.proofs.PlanLemmas.{capitals_are_small}
use Rattle.pb_plan.specs.Needs.{scarce}
use Rattle.pb_plan_engine.specs.Plans.{IsOrderIfAny}
use Rattle.pb_plan_engine.proofs.plan.make_plan.Goals as goal

pub capital-requires-clause-small : goal.capital-requires-clause-small
capital-requires-clause-small g c =
    let is = c.requires.numbered in
    capitals_are_small is.tree (resolved_view c.args.program.now) is.numbered

pub capital-requires-clause-few : goal.capital-requires-clause-few
capital-requires-clause-few g c = c.requires.numbered.numbered.few_resources

pub said_of_plan-requires-clause-capital : goal.said_of_plan-requires-clause-capital
said_of_plan-requires-clause-capital g c = c.in_ok-capital.ensures

pub status-status-requires-clause-width : goal.status-status-requires-clause-width
status-status-requires-clause-width g c =
    let is = c.requires.numbered in
    capital_width (resolved_view c.args.program.now) c.in_ok-capital.capital c.args.claims.now c.in_ok-capital.ensures
    (claims_width is.tree (resolved_view c.args.program.now) c.args.claims.now is.numbered is.claimed)

pub status-status-requires-clause-capital : goal.status-status-requires-clause-capital
status-status-requires-clause-capital g c = c.in_ok-capital.ensures

pub order_of-requires : goal.order_of-requires
order_of-requires g c =
    let is = c.requires.numbered in
    ask_below is.tree (resolved_view c.args.program.now) is.numbered

pub scarce-requires : goal.scarce-requires
scarce-requires g c =
    let is = c.requires.numbered in
    capital_width (resolved_view c.args.program.now) c.in_ok-capital.capital c.args.claims.now c.in_ok-capital.ensures
    (claims_width is.tree (resolved_view c.args.program.now) c.args.claims.now is.numbered is.claimed)

pub said_of_plan-requires-clause-few : goal.said_of_plan-requires-clause-few
said_of_plan-requires-clause-few g c =
    c.deref-2.ensures.value ∙ c.in_ok-few.ensures ∙ ap (scarce c.args.claims.now) c.in_ok-capital.ensures

pub said_of_plan-requires-clause-ordered : goal.said_of_plan-requires-clause-ordered
said_of_plan-requires-clause-ordered g c =
    subst (λ (xs : List ℕ). IsOrderIfAny (resolved_view c.args.program.now) xs (option_map (λ (o : Vec ℕ Global). o.items) c.in_ok-order.order))
    (c.deref.ensures.value ∙ c.in_ok-few.ensures ∙ ap (scarce c.args.claims.now) c.in_ok-capital.ensures) c.in_ok-order.ensures

pub status-status-requires-clause-ordered : goal.status-status-requires-clause-ordered
status-status-requires-clause-ordered g c =
    subst (λ (xs : List ℕ). IsOrderIfAny (resolved_view c.args.program.now) xs (option_map (λ (o : Vec ℕ Global). o.items) c.in_ok-order.order))
    (c.deref.ensures.value ∙ c.in_ok-few.ensures ∙ ap (scarce c.args.claims.now) c.in_ok-capital.ensures) c.in_ok-order.ensures
