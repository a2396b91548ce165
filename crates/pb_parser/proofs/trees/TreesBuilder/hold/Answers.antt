use Rattle.pb_parser.proofs.Vectors.{stmts_put, hold_seen}
use Rattle.pb_parser.proofs.trees.TreesBuilder.hold.Goals as goal

pub returns-clause-made : goal.returns-clause-made
returns-clause-made g c = λ ds a h i. stmts_put _ _ _ _ _ c.put.ensures (hold_seen _ _ _ ds a h i)
