use Rattle.std.proofs.Common.{Vec, Global, ◌∙◌, ℕ, List, ◌++◌, ap, map}
use Rattle.std.specs.Prelude.{option_map}
use Rattle.std.proofs.lemmas.Result.{err_from_is_err_and}
use Rattle.pb_codegen.specs.declared.fault.CompileFault.TheVariants.{Memory}
use Rattle.pb_names.specs.View.{resolved_view}
use Rattle.pb_tree.specs.View.{process_view, program_view}
use Rattle.pb_tree.specs.declared.program.Process.{Process}
use Rattle.pb_joint.specs.View.{full_name}
use Rattle.pb_joint.specs.Joined.{one_more}
use Rattle.pb_joint.specs.Texts.{alone, names_in, together}
use Rattle.pb_joint.proofs.TextLemmas.{complete_with, one_more_text}
use Rattle.pb_joint.proofs.texts.Reading.add.Goals as goal

pub returns-in_err-tree-clause-fault : goal.returns-in_err-tree-clause-fault
returns-in_err-tree-clause-fault c texts trees so_far =
    let p = err_from_is_err_and c.from_residual.result c.from_residual.ensures.1 in
    rw (p.1, p.2) (alone _ c.in_err-tree.ensures.refused c.in_err-tree.ensures.early)

pub returns-in_err-put_names-clause-fault : goal.returns-in_err-put_names-clause-fault
returns-in_err-put_names-clause-fault c texts trees so_far =
    let p = err_from_is_err_and c.from_residual-in_err-put_names.result c.from_residual-in_err-put_names.ensures.1 in
    rw (p.1, p.2) (alone Memory tt tt)

pub returns-in_err-join-clause-fault : goal.returns-in_err-join-clause-fault
returns-in_err-join-clause-fault c texts trees so_far =
    let p = err_from_is_err_and c.from_residual-in_err-join.result c.from_residual-in_err-join.ensures.1 in
    rw (p.1, p.2) (alone Memory tt tt)

pub resolve-requires : goal.resolve-requires
resolve-requires c =
    let so_far = c.requires.2 in
    complete_with c.requires.0 c.requires.1 c.args.text.now (program_view c.args.self.now.whole) (program_view c.in_ok-tree.tree)
    (program_view c.join.new.whole) so_far.each so_far.joined c.in_ok-tree.ensures.read c.in_ok-join.ensures

pub returns-in_err-program-clause-fault : goal.returns-in_err-program-clause-fault
returns-in_err-program-clause-fault c texts trees so_far =
    let p = err_from_is_err_and c.from_residual-in_err-program.result c.from_residual-in_err-program.ensures.1 in
    let joined = one_more trees (program_view c.args.self.now.whole) (program_view c.in_ok-tree.tree) (program_view c.join.new.whole)
    so_far.joined c.in_ok-join.ensures in
    rw (p.1, p.2) (together (program_view c.in_ok-tree.tree) (program_view c.join.new.whole) _ c.in_ok-tree.ensures.read joined
    c.in_err-program.ensures.fault)

pub returns-clause-added : goal.returns-clause-added
returns-clause-added c texts trees so_far same =
    let old = map full_name c.args.self.now.names.items in
    let called = c.in_ok-put_names.ensures
    ∙ ap (λ (ps : List (Process Global)). old ++ names_in c.args.several c.args.number (map process_view ps)) c.deref.ensures.value in (
      program_view c.in_ok-tree.tree,
      one_more_text c.args.several texts trees (program_view c.args.self.now.whole) (program_view c.in_ok-tree.tree)
          (program_view c.join.new.whole) c.args.text.now (option_map resolved_view c.args.self.now.program)
          (resolved_view c.in_ok-program.program) old (map full_name c.put_names.new.names.items)
          c.args.number so_far c.in_ok-tree.ensures.read c.in_ok-join.ensures c.in_ok-program.ensures.resolves called same,
    )
