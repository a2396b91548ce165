use Rattle.std.proofs.Common.{◌∙◌}
use Rattle.pb_parser.proofs.Vectors.{stmts_put, assign_seen}
use Rattle.pb_parser.proofs.trees.TreesBuilder.assign.Goals as goal

pub returns-clause-made : goal.returns-clause-made
returns-clause-made g c = λ e h. stmts_put _ _ _ _ _ c.put.ensures (assign_seen _ _ _ _ e c.in_ok-target.ensures (c.whole-value.ensures ∙ h))
