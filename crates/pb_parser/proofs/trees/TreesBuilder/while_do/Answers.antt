use Rattle.std.proofs.Common.{◌∙◌}
use Rattle.pb_parser.proofs.Vectors.{stmts_put, while_do_seen}
use Rattle.pb_parser.proofs.trees.TreesBuilder.while_do.Goals as goal

pub returns-clause-made : goal.returns-clause-made
returns-clause-made g c = λ e a h i. stmts_put _ _ _ _ _ c.put.ensures (while_do_seen _ _ _ e a (c.whole-test.ensures ∙ h) i)
