use Rattle.std.proofs.Common.{◌≡◌, ◌∙◌, ◌<◌, List, length, map, ap, sym, arith}
use Rattle.std.specs.Prelude.{slice_index_or}
use Rattle.std.proofs.lemmas.List.{length-map}
use Rattle.pb_accept.proofs.ClaimLemmas.{names_of_resources}
use Rattle.pb_base.specs.Banker.{row_of}
use Rattle.pb_joint.specs.Texts.{FullName}
use Rattle.pb_joint.specs.View.{full_name}
use Rattle.pb_names.specs.Program.{Block, Name, Skip}
use Rattle.pb_names.specs.Resolves.{resource_names}
use Rattle.pb_names.specs.View.{block_view, process_view, resolved_view}
use Rattle.pb_names.specs.declared.resolved.Process.{Process}
use Rattle.pb_names.specs.declared.resolved.Resource.{Resource}
use Rattle.pb_plan_engine.specs.Plans.{bodies_of, unnamed, said_of_row}
use Rattle.pb_plan_engine.specs.View.{said_view}
use Rattle.pb_plan_engine.proofs.LineLemmas.{each_last, each_next, seen_at}
use Rattle.pb_plan_engine.proofs.PlanLemmas.{bodies_of_processes}
use Rattle.pb_plan_engine.proofs.plan.add_processes.Goals as goal

pub loop-p-preserved : goal.loop-p-preserved
loop-p-preserved g c =
    let given = c.args.program.now in
    let view = resolved_view given in
    let claims = c.args.claims.now in
    let p = c.loop-p.p in
    let process = c.index.result.now in
    let row = row_of claims p in
    let within : p < length given.processes.items =
    (let n = c.len-p-end.ensures in let t = c.loop-p-test.true in omega (arith, n, t))
    in
    let names = map full_name c.args.names.now in
    let body : slice_index_or (bodies_of view) p Skip ≡ block_view process.body.items =
    ap (λ (l : List Block). slice_index_or l p Skip) (sym (bodies_of_processes given))
    ∙ seen_at (λ (q : Process _). block_view q.body.items) given.processes.items p process Skip within c.index.ensures
    in
    each_next (λ k. said_of_row (resource_names view) (slice_index_or names k unnamed)
    (slice_index_or (bodies_of view) k Skip) (row_of claims k))
    p (map said_view c.args.said.now.items) (map said_view c.loop-p.said.items) _
    (said_of_row (map (λ (q : Resource _). q.name.items) c.deref.result.now) (full_name c.process_name-called.result.now) (block_view process.body.items) row)
    c.loop-p.invariant c.in_ok-add_process.ensures
    (ap (λ (l : List (Resource _)). said_of_row (map (λ q. q.name.items) l) (full_name c.process_name-called.result.now) (block_view process.body.items) row)
    c.deref.ensures.value
    ∙ ap (λ (l : List Name). said_of_row l (full_name c.process_name-called.result.now) (block_view process.body.items) row) (names_of_resources given)
    ∙ ap (λ (n : FullName). said_of_row (resource_names view) n (block_view process.body.items) row) c.process_name-called.ensures
    ∙ ap (λ (b : Block). said_of_row (resource_names view) (slice_index_or names p unnamed) b row) (sym body))

pub returns : goal.returns
returns g c =
    let given = c.args.program.now in
    let view = resolved_view given in
    let claims = c.args.claims.now in
    let names = map full_name c.args.names.now in
    let all = length-map given.processes.items process_view in
    let n = c.len-p-end.ensures in
    let past = c.loop-p-test.false in
    let within = c.loop-p.auto.p-end in
    let same : c.loop-p.p ≡ length view.processes = omega (arith, all, n, past, within) in
    each_last (λ k. said_of_row (resource_names view) (slice_index_or names k unnamed)
    (slice_index_or (bodies_of view) k Skip) (row_of claims k))
    c.loop-p.p (length view.processes) (map said_view c.args.said.now.items) (map said_view c.loop-p.said.items) same c.loop-p.invariant
