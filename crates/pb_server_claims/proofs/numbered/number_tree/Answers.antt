use Rattle.pb_codegen.proofs.TextOutcomes.{complete}
use Rattle.pb_names.proofs.ResolvedLimits.{no_fault}
use Rattle.pb_tree.specs.View.{program_view}
use Rattle.pb_server_claims.proofs.numbered.number_tree.Goals as goal

pub resolve-requires : goal.resolve-requires
resolve-requires c =
    complete c.requires.0 c.requires.1 (program_view c.args.tree.now) c.requires.2.cut c.requires.2.tree_of.read

pub returns-in_default : goal.returns-in_default
returns-in_default c program resolves =
    no_fault (program_view c.args.tree.now) program c.in-Err.fault resolves c.in_default.not-NoMemory c.in-Err.ensures.fault
