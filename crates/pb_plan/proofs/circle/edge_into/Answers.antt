use Rattle.std.proofs.Common.{◌≡◌, ◌∙◌, ⊎_elim, ℕ, None, Some, arith, ap, map, subst, sym}
use Rattle.std.specs.Prelude.{slice_get}
use Rattle.std.proofs.lemmas.Bool.{cases_lt}
use Rattle.std.proofs.lemmas.Option.{get_or_from_slice_get, slice_get-get_or, slice_get_within}
use Rattle.pb_names.specs.View.{process_view}
use Rattle.pb_plan.specs.Nests.{nest_among}
use Rattle.pb_plan.proofs.circle.edge_into.Goals as goal

pub returns-in-Some-clause-some : goal.returns-in-Some-clause-some
returns-in-Some-clause-some g c =
    let found = c.in-Some.ensures.some in
    record {
      is = found.is;
      inner_is = found.inner_is;
      member = (
        c.loop-k.k,
        slice_get-get_or c.args.among.now c.loop-k.k 0 (omega arith) ∙ ap Some (sym found.outer_is),
      );
    }

pub loop-k-preserved : goal.loop-k-preserved
loop-k-preserved g c = λ k r u at. ⊎_elim
    (λ less. c.loop-k.invariant k r less at)
    (λ le.
    let same : k ≡ c.loop-k.k = omega (arith, u, le) in
    let here = subst (λ (i : ℕ). slice_get c.args.among.now i ≡ Some r) same at in
    let read = get_or_from_slice_get c.args.among.now c.loop-k.k r 0 here in
    subst (λ (o : ℕ). nest_among o c.args.inner (map process_view c.args.processes.now) ≡ None) read c.in_default.ensures.none)
    (cases_lt k c.loop-k.k)

pub returns-clause-none : goal.returns-clause-none
returns-clause-none g c = λ found inside.
    let among = inside.0 in
    let u = slice_get_within c.args.among.now among.0 found.outer among.1 in
    let none = c.loop-k.invariant among.0 found.outer (omega (arith, u)) among.1 in
    let w : None ≡ Some found = sym none ∙ inside.1 in
    cc
