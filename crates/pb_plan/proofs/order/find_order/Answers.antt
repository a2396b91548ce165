use Rattle.std.proofs.Common.{◌∙◌, Vec, Global, ℕ, List, map, subst}
use Rattle.std.specs.Prelude.{IfOk, IfSome}
use Rattle.std.specs.List.Sorted.{IsPermutation}
use Rattle.pb_names.specs.View.{process_view}
use Rattle.pb_plan.proofs.EachHolds.{followed_of_all, followed_of_some}
use Rattle.pb_plan.proofs.OrderLemmas.{each_found, none_found}
use Rattle.pb_plan.specs.Orders.{IsFollowed}
use Rattle.pb_plan.specs.Scarce.{IsFollowedAmong}
use Rattle.pb_plan.proofs.order.find_order.Goals as goal

pub returns-clause-some : goal.returns-clause-some
returns-clause-some g c =
    subst (λ (xs : List ℕ). IfOk c.find_order_among.result (λ found. IfSome found (λ order. IsPermutation xs order.items)))
    (c.deref.ensures.value ∙ c.in_ok-all.ensures) c.find_order_among.ensures.some

pub returns-clause-followed : goal.returns-clause-followed
returns-clause-followed g c =
    let processes = map process_view c.args.processes.now in
    each_found c.find_order_among.result (λ (o : Vec ℕ Global). IsFollowedAmong c.deref.result.now o.items processes)
    (λ o. IsFollowed o.items processes)
    (λ o is.
    followed_of_all c.args.resources o.items processes c.requires
    (subst (λ (xs : List ℕ). IsFollowedAmong xs o.items processes) (c.deref.ensures.value ∙ c.in_ok-all.ensures) is))
    c.find_order_among.ensures.followed

pub returns-clause-none : goal.returns-clause-none
returns-clause-none g c =
    let processes = map process_view c.args.processes.now in
    none_found c.find_order_among.result ((order : List ℕ) → IsFollowedAmong c.deref.result.now order processes → ⊥)
    ((order : List ℕ) → IsFollowed order processes → ⊥)
    (λ none order is. none order (followed_of_some c.deref.result.now order processes is)) c.find_order_among.ensures.none
