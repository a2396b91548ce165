use Rattle.std.proofs.Common.{Vec, Global, List, ℕ, subst, sym}
use Rattle.pb_base.specs.declared.lending.Lending.{Lending}
use Rattle.pb_claims.specs.Fits.{FitCapital, IsFirstOver}
use Rattle.pb_names.specs.View.{resolved_view}
use Rattle.pb_plan_engine.specs.Plans.{AllowsDeadlocks, RulesOutDeadlocks, may_deadlock, no_deadlock, scarce_of, too_little}
use Rattle.pb_plan_engine.proofs.OrderLemmas.{an_order, no_order, some_bottleneck}
use Rattle.pb_plan_engine.proofs.plan.status.Goals as goal

pub returns-in-ByBanker-default-clause-said : goal.returns-in-ByBanker-default-clause-said
returns-in-ByBanker-default-clause-said g c =
    let view = resolved_view c.args.program.now in
    no_deadlock (subst (FitCapital c.args.claims.now) c.requires.capital c.in-Ok.ensures.fits)
    (subst (λ (l : Lending). RulesOutDeadlocks l view c.args.claims.now) (sym c.in-ByBanker-default.is-0) tt)

pub returns-in-ByCash-Some-clause-said : goal.returns-in-ByCash-Some-clause-said
returns-in-ByCash-Some-clause-said g c =
    let view = resolved_view c.args.program.now in
    let order = c.in-ByCash-Some.field-0-1 in
    no_deadlock (subst (FitCapital c.args.claims.now) c.requires.capital c.in-Ok.ensures.fits)
    (subst (λ (l : Lending). RulesOutDeadlocks l view c.args.claims.now) (sym c.in-ByCash-Some.is-0)
    (order.items, an_order (λ (o : Vec ℕ Global). o.items) c.args.order.now order view (scarce_of view c.args.claims.now) c.in-ByCash-Some.is-1 c.requires.ordered))

pub returns-in-ByCash-None-clause-said : goal.returns-in-ByCash-None-clause-said
returns-in-ByCash-None-clause-said g c =
    let view = resolved_view c.args.program.now in
    let none = no_order (λ (o : Vec ℕ Global). o.items) c.args.order.now view (scarce_of view c.args.claims.now) c.in-ByCash-None.is-1 c.requires.ordered in
    may_deadlock (subst (FitCapital c.args.claims.now) c.requires.capital c.in-Ok.ensures.fits)
    (subst (λ (l : Lending). AllowsDeadlocks l view c.args.claims.now) (sym c.in-ByCash-None.is-0)
    (none, some_bottleneck view c.args.claims.now none))

pub returns-in-Err-clause-said : goal.returns-in-Err-clause-said
returns-in-Err-clause-said g c =
    too_little c.in-Err.over
    (subst (λ (capital : List ℕ). IsFirstOver c.args.claims.now capital c.in-Err.over) c.requires.capital c.in-Err.ensures.over)
