use Rattle.pb_parser.proofs.Vectors.{stmts_put, parbegin_seen}
use Rattle.pb_parser.proofs.trees.TreesBuilder.parbegin.Goals as goal

pub returns-clause-made : goal.returns-clause-made
returns-clause-made g c = λ a h. stmts_put _ _ _ _ _ c.put.ensures (parbegin_seen _ _ a h)
