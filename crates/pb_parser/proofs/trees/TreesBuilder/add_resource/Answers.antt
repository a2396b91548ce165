use Rattle.std.proofs.Common.{refl}
use Rattle.pb_parser.proofs.Vectors.{items_put}
use Rattle.pb_tree.specs.View.{resource_view}
use Rattle.pb_parser.proofs.trees.TreesBuilder.add_resource.Goals as goal

pub returns-clause-made : goal.returns-clause-made
returns-clause-made g c = items_put resource_view _ _ _ _ _ c.put.ensures (rw c.in_ok-name.ensures refl)
