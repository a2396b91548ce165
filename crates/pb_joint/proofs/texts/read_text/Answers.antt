use Rattle.std.proofs.Common.{Err, ap}
use Rattle.std.proofs.lemmas.Result.{err_from_is_err_and}
use Rattle.pb_codegen.proofs.TextOutcomes.{complete, names_refused, parse_refused, spells}
use Rattle.pb_names.specs.View.{resolved_view}
use Rattle.pb_tree.specs.View.{program_view}
use Rattle.pb_joint.proofs.texts.read_text.Goals as goal

pub returns-in_err-tree-clause-refused : goal.returns-in_err-tree-clause-refused
returns-in_err-tree-clause-refused c =
    let p = err_from_is_err_and c.from_residual-in_err-tree.result c.from_residual-in_err-tree.ensures.1 in
    let cut = rw (← c.as_slice.ensures.value) at c.in_ok-tokens.ensures.found in
    let e = c.in_err-tree.ensures in
    rw (p.1, p.2) (parse_refused _ _ _ cut e.syntax (λ same. e.too_deep (ap Err same)) (λ same. e.too_large (ap Err
    same)) (λ deep. let same = e.nested deep in cc) (λ high. let same = e.high high in cc))

pub resolve-requires : goal.resolve-requires
resolve-requires c =
    let cut = rw (← c.as_slice.ensures.value) at c.in_ok-tokens.ensures.found in
    complete c.args.text.now _ (program_view c.in_ok-tree.tree) cut c.in_ok-tree.ensures.found

pub returns-in_err-program-clause-refused : goal.returns-in_err-program-clause-refused
returns-in_err-program-clause-refused c =
    let p = err_from_is_err_and c.from_residual-in_err-program.result c.from_residual-in_err-program.ensures.1 in
    let cut = rw (← c.as_slice.ensures.value) at c.in_ok-tokens.ensures.found in
    let e = c.in_ok-tree.ensures in
    let spelled = spells c.args.text.now _ (program_view c.in_ok-tree.tree) c.in_ok-tree.tree c.parse.result cut
    e.found e.limits c.in_ok-tree.was c.parse.ensures.nested in
    rw (p.1, p.2) (names_refused _ _ _ spelled c.in_err-program.ensures.fault)

pub returns-clause-read : goal.returns-clause-read
returns-clause-read c =
    let cut = rw (← c.as_slice.ensures.value) at c.in_ok-tokens.ensures.found in
    let e = c.in_ok-tree.ensures in
    record {
      spelled = spells c.args.text.now _ (program_view c.in_ok-tree.tree) c.in_ok-tree.tree c.parse.result cut
          e.found e.limits c.in_ok-tree.was c.parse.ensures.nested;
      program = resolved_view c.in_ok-program.program;
      numbered = c.in_ok-program.ensures.resolves;
    }
