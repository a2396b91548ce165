use Rattle.pb_parser.proofs.Vectors.{arms_put}
use Rattle.pb_parser.proofs.trees.TreesBuilder.add_arm.Goals as goal

pub returns-clause-made : goal.returns-clause-made
returns-clause-made g c = λ a h. arms_put _ _ _ _ a c.put.ensures h
