use Rattle.std.proofs.Common.{◌∙◌}
use Rattle.pb_parser.proofs.Vectors.{stmts_put, if_else_seen}
use Rattle.pb_parser.proofs.trees.TreesBuilder.if_else.Goals as goal

pub returns-clause-made : goal.returns-clause-made
returns-clause-made g c = λ e a b h i j. stmts_put _ _ _ _ _ c.put.ensures (if_else_seen _ _ _ _ e a b (c.whole-test.ensures ∙ h) i j)
