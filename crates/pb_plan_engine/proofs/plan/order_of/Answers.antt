use Rattle.std.proofs.Common.{Vec, Global, ◌≡◌, ℕ, List, length, map, ap, inl, subst, sym, arith}
use Rattle.std.proofs.lemmas.List.{length-map}
use Rattle.pb_names.specs.Program.{Process}
use Rattle.pb_names.specs.View.{process_view, resolved_view, resource_view}
use Rattle.pb_names.specs.declared.resolved.Process.{Process as GivenProcess}
use Rattle.pb_plan.specs.Nests.{AskBelow, IsOrder}
use Rattle.pb_plan.specs.Orders.{IsFollowed}
use Rattle.pb_plan_engine.proofs.OrderLemmas.{no_whole, none_of, of_some, some_of, whole_order}
use Rattle.pb_plan_engine.proofs.plan.order_of.Goals as goal

pub find_order-requires : goal.find_order-requires
find_order-requires g c =
    let view = resolved_view c.args.program.now in
    let seen = length-map c.args.program.now.resources.items resource_view in
    let long = c.args.program.now.resources.ok.0 in
    let told = c.len-resources.ensures in
    let many : length view.resources ≡ c.len-resources.result = omega (arith, seen, long, told) in
    let same : view.processes ≡ map process_view c.deref.result.now =
    ap (λ (ps : List (GivenProcess _)). map process_view ps) (sym c.deref.ensures.value) in
    subst (λ (n : ℕ). AskBelow n (map process_view c.deref.result.now)) many
    (subst (λ (ps : List Process). AskBelow (length view.resources) ps) same c.requires)

pub find_order_among-requires : goal.find_order_among-requires
find_order_among-requires g c =
    let view = resolved_view c.args.program.now in
    let seen = length-map c.args.program.now.resources.items resource_view in
    let long = c.args.program.now.resources.ok.0 in
    let told = c.len-resources.ensures in
    let many : length view.resources ≡ c.len-resources.result = omega (arith, seen, long, told) in
    let same : view.processes ≡ map process_view c.deref-in_default.result.now =
    ap (λ (ps : List (GivenProcess _)). map process_view ps) (sym c.deref-in_default.ensures.value) in
    subst (λ (n : ℕ). AskBelow n (map process_view c.deref-in_default.result.now)) many
    (subst (λ (ps : List Process). AskBelow (length view.resources) ps) same c.requires)

pub returns-in_default : goal.returns-in_default
returns-in_default g c =
    let view = resolved_view c.args.program.now in
    let same : map process_view c.deref.result.now ≡ view.processes =
    ap (λ (ps : List (GivenProcess _)). map process_view ps) c.deref.ensures.value in
    let again : map process_view c.deref-in_default.result.now ≡ view.processes =
    ap (λ (ps : List (GivenProcess _)). map process_view ps) c.deref-in_default.ensures.value in
    let none = no_whole (map process_view c.deref.result.now) view same (none_of c.in_ok-all.all c.in_default.is c.in_ok-all.ensures.none) in
    of_some (λ (o : Vec ℕ Global). o.items) c.find_order_among.result c.args.few.now (map process_view c.deref-in_default.result.now) view again none
    c.find_order_among.ensures.some c.find_order_among.ensures.followed c.find_order_among.ensures.none

pub returns : goal.returns
returns g c =
    let view = resolved_view c.args.program.now in
    let seen = length-map c.args.program.now.resources.items resource_view in
    let long = c.args.program.now.resources.ok.0 in
    let told = c.len-resources.ensures in
    let many : c.len-resources.result ≡ length view.resources = omega (arith, seen, long, told) in
    let same : map process_view c.deref.result.now ≡ view.processes =
    ap (λ (ps : List (GivenProcess _)). map process_view ps) c.deref.ensures.value in
    let items = λ (o : Vec ℕ Global). o.items in
    inl (whole_order items c.in-Some.order c.len-resources.result (map process_view c.deref.result.now) view many same
    (some_of (λ o. IsOrder c.len-resources.result o.items) c.in_ok-all.all c.in-Some.order c.in-Some.is c.in_ok-all.ensures.some)
    (some_of (λ o. IsFollowed o.items (map process_view c.deref.result.now)) c.in_ok-all.all c.in-Some.order c.in-Some.is
    c.in_ok-all.ensures.followed))
