use Rattle.std.proofs.Common.{◌≡◌, ◌∙◌, ⊎_elim, ℕ, None, Some, arith, map, subst, sym}
use Rattle.std.specs.Prelude.{slice_get}
use Rattle.std.proofs.lemmas.List.{length-map}
use Rattle.std.proofs.lemmas.Bool.{cases_lt}
use Rattle.std.proofs.lemmas.Option.{slice_get_within}
use Rattle.pb_names.specs.Program.{Process}
use Rattle.pb_names.specs.View.{block_view, process_view}
use Rattle.pb_plan.specs.Nests.{nest}
use Rattle.pb_plan.proofs.CircleLemmas.{none_among, seen_process}
use Rattle.pb_plan.proofs.StandingLemmas.{is_nest, nest_its}
use Rattle.pb_plan.proofs.circle.edge_between.Goals as goal

pub returns-in-Some-clause-some : goal.returns-in-Some-clause-some
returns-in-Some-clause-some g c =
    let body = block_view c.index-processes-p.result.body.items in
    let is = sym c.in-Some.ensures in
    let its = nest_its c.args.outer c.args.inner None body c.in-Some.nest is in
    record {
      is = record {
        process = process_view c.index-processes-p.result;
        there = seen_process c.args.processes.now c.loop-p.p c.index-processes-p.result (omega arith) c.index-processes-p.is;
        nest = is_nest c.args.outer c.args.inner body c.in-Some.nest is;
      };
      outer_is = its.0;
      inner_is = its.1;
    }

pub loop-p-preserved : goal.loop-p-preserved
loop-p-preserved g c = λ k process u at. ⊎_elim
    (λ less. c.loop-p.invariant k process less at)
    (λ le.
    let same : k ≡ c.loop-p.p = omega (arith, u, le) in
    let seen = seen_process c.args.processes.now c.loop-p.p c.index-processes-p.result (omega arith) c.index-processes-p.is in
    let both : Some process ≡ Some (process_view c.index-processes-p.result) =
    sym (subst (λ (i : ℕ). slice_get (map process_view c.args.processes.now) i ≡ Some process) same at) ∙ seen in
    let one : process ≡ process_view c.index-processes-p.result = cc in
    subst (λ (p : Process). nest c.args.outer c.args.inner None p.body ≡ None) (sym one) (sym c.in_default.ensures))
    (cases_lt k c.loop-p.p)

pub returns-clause-none : goal.returns-clause-none
returns-clause-none g c =
    none_among c.args.outer c.args.inner (map process_view c.args.processes.now)
    (λ k process h.
    let w = slice_get_within (map process_view c.args.processes.now) k process h in
    let n = length-map c.args.processes.now process_view in
    c.loop-p.invariant k process (omega (arith, w, n)) h)
