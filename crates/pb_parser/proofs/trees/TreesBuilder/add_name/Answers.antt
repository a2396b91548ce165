use Rattle.pb_parser.proofs.Vectors.{items_put}
use Rattle.pb_tree.specs.View.{name_view}
use Rattle.pb_parser.proofs.trees.TreesBuilder.add_name.Goals as goal

pub returns-clause-made : goal.returns-clause-made
returns-clause-made g c = items_put name_view _ _ _ _ _ c.put.ensures c.in_ok-name.ensures
