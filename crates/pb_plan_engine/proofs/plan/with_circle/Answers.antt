use Rattle.std.proofs.Common.{Vec, Global, ◌≡◌, ◌∙◌, ◌++◌, ℕ, List, length, map, ap, subst, sym, arith}
use Rattle.std.specs.Prelude.{All}
use Rattle.std.proofs.lemmas.List.{length-map}
use Rattle.pb_accept.proofs.ClaimLemmas.{names_of_resources}
use Rattle.pb_joint.specs.View.{full_name}
use Rattle.pb_names.specs.Program.{Name, Process}
use Rattle.pb_names.specs.Resolves.{resource_names}
use Rattle.pb_names.specs.View.{process_view, resolved_view, resource_view}
use Rattle.pb_names.specs.declared.resolved.Process.{Process as GivenProcess}
use Rattle.pb_names.specs.declared.resolved.Resource.{Resource}
use Rattle.pb_plan.specs.Circles.{IsBelow, IsCircleAmong}
use Rattle.pb_plan.specs.Nests.{AskBelow}
use Rattle.pb_plan.specs.Scarce.{IsFollowedAmong}
use Rattle.pb_plan_engine.specs.Plans.{said_of_circle}
use Rattle.pb_plan_engine.specs.View.{said_view}
use Rattle.pb_plan.specs.declared.edge.Edge.{Edge}
use Rattle.pb_plan_engine.proofs.OrderLemmas.{none_of, some_of}
use Rattle.pb_plan_engine.proofs.plan.with_circle.Goals as goal

pub find_circle-requires : goal.find_circle-requires
find_circle-requires g c =
    let view = resolved_view c.args.program.now in
    let seen = length-map c.args.program.now.resources.items resource_view in
    let long = c.args.program.now.resources.ok.0 in
    let told = c.len.ensures in
    let many : length view.resources ≡ c.len.result = omega (arith, seen, long, told) in
    let same : view.processes ≡ map process_view c.deref.result.now =
    ap (λ (ps : List (GivenProcess _)). map process_view ps) (sym c.deref.ensures.value) in
    subst (λ (n : ℕ). AskBelow n (map process_view c.deref.result.now)) many
    (subst (λ (ps : List Process). AskBelow (length view.resources) ps) same c.requires.below)

pub unreachable-requires : goal.unreachable-requires
unreachable-requires g c =
    let same : map process_view c.deref.result.now ≡ (resolved_view c.args.program.now).processes =
    ap (λ (ps : List (GivenProcess _)). map process_view ps) c.deref.ensures.value in
    let found = none_of c.in_ok-found.found c.in_default.is c.in_ok-found.ensures.none in
    c.requires.none found.0 (subst (IsFollowedAmong c.args.few.now found.0) same found.1)

pub add_circle-requires : goal.add_circle-requires
add_circle-requires g c =
    let processes = c.args.program.now.processes.items in
    let resources = c.args.program.now.resources.items in
    let all = ap (λ (ps : List (GivenProcess _)). length ps) c.deref.ensures.value in
    let called = c.requires.names in
    let first : length c.deref.result.now ≡ length c.args.names.now = omega (arith, all, called) in
    let long = c.args.program.now.resources.ok.0 in
    let told = c.len.ensures in
    let there = ap (λ (rs : List (Resource _)). length rs) c.deref-2.ensures.value in
    let many : c.len.result ≡ length c.deref-2.result.now = omega (arith, long, told, there) in
    let below = some_of (λ (v : Vec Edge Global). All (IsBelow (length c.deref.result.now) c.len.result) v.items) c.in_ok-found.found
    c.in-Some.circle c.in-Some.is c.in_ok-found.ensures.below in
    subst (λ (es : List Edge). All (IsBelow (length c.args.names.now) (length c.deref-2.result.now)) es) (sym c.deref-3.ensures.value)
    (subst (λ (n : ℕ). All (IsBelow (length c.args.names.now) n) c.in-Some.circle.items) many
    (subst (λ (n : ℕ). All (IsBelow n c.len.result) c.in-Some.circle.items) first below))

pub returns : goal.returns
returns g c =
    let view = resolved_view c.args.program.now in
    let same : map process_view c.deref.result.now ≡ view.processes =
    ap (λ (ps : List (GivenProcess _)). map process_view ps) c.deref.ensures.value in
    let is = some_of (λ (v : Vec Edge Global). IsCircleAmong c.args.few.now (map process_view c.deref.result.now) v.items) c.in_ok-found.found
    c.in-Some.circle c.in-Some.is c.in_ok-found.ensures.circle in
    let names = map full_name c.args.names.now in
    let resources : map (λ (r : Resource _). r.name.items) c.deref-2.result.now ≡ resource_names view =
    ap (λ (rs : List (Resource _)). map (λ (r : Resource _). r.name.items) rs) c.deref-2.ensures.value
    ∙ names_of_resources c.args.program.now in (
      c.in-Some.circle.items,
      subst (λ (ps : List Process). IsCircleAmong c.args.few.now ps c.in-Some.circle.items) same is,
      c.in_ok-add_circle.ensures
          ∙ (ap (λ (es : List Edge). map said_view c.args.said.items
          ++ said_of_circle names
          (map (λ (r : Resource _). r.name.items) c.deref-2.result.now) es) c.deref-3.ensures.value
          ∙ ap (λ (ns : List Name). map said_view c.args.said.items ++ said_of_circle names ns c.in-Some.circle.items) resources),
    )
