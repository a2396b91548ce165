use Rattle.std.proofs.Common.{Err, ap, arith}
use Rattle.std.proofs.lemmas.Grind.{common_steps}
use Rattle.std.proofs.lemmas.Result.{err_from_is_err_and}
use Rattle.pb_tree.specs.View.{program_view}
use Rattle.pb_codegen.proofs.TextOutcomes.{parse_refused}
use Rattle.pb_accept.proofs.WarnedLemmas.{are_warnings, as_wide}
use Rattle.pb_accept.proofs.warned.warnings_in.Goals as goal

pub warnings_of-requires : goal.warnings_of-requires
warnings_of-requires g c =
    let cut = rw (← c.as_slice.ensures.value) at c.in_ok-tokens.ensures.found in
    as_wide c.args.text.now _ (program_view c.in_ok-tree.tree) _ _ cut c.in_ok-tree.ensures.found c.in_ok-analysis.ensures.analyzed

pub returns-clause-warned : goal.returns-clause-warned
returns-clause-warned g c =
    let cut = rw (← c.as_slice.ensures.value) at c.in_ok-tokens.ensures.found in
    are_warnings c.args.text.now _ (program_view c.in_ok-tree.tree) _ _ _ cut c.in_ok-tree.ensures.found c.in_ok-analysis.ensures.analyzed
    c.in_ok-found.ensures

pub returns-in_err-tree-clause-refused : goal.returns-in_err-tree-clause-refused
returns-in_err-tree-clause-refused g c =
    let p = err_from_is_err_and c.from_residual-in_err-tree.result c.from_residual-in_err-tree.ensures.1 in
    let cut = rw (← c.as_slice.ensures.value) at c.in_ok-tokens.ensures.found in
    let e = c.in_err-tree.ensures in
    rw (p.1, p.2) (parse_refused _ _ _ cut e.syntax (λ same. e.too_deep (ap Err same)) (λ same. e.too_large (ap Err
    same)) (λ deep. let same = e.nested deep in cc) (λ high. let same = e.high high in cc))

pub returns-in_err-tokens-clause-refused : goal.returns-in_err-tokens-clause-refused
returns-in_err-tokens-clause-refused g c = grind (arith, common_steps)
