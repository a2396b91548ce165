use Rattle.std.proofs.Common.{◌∙◌}
use Rattle.pb_parser.proofs.Vectors.{stmts_put, print_seen}
use Rattle.pb_parser.proofs.trees.TreesBuilder.print.Goals as goal

pub returns-clause-made : goal.returns-clause-made
returns-clause-made g c = λ e h. stmts_put _ _ _ _ _ c.put.ensures (print_seen _ _ e (c.whole-value.ensures ∙ h))
