use Rattle.std.proofs.Common.{refl}
use Rattle.pb_parser.proofs.Vectors.{items_put}
use Rattle.pb_tree.specs.View.{process_view}
use Rattle.pb_parser.proofs.trees.TreesBuilder.add_process.Goals as goal

pub returns-clause-made : goal.returns-clause-made
returns-clause-made g c = λ xs a h i. items_put process_view _ _ _ _ _ c.put.ensures (rw (c.in_ok-name.ensures, h, i) refl)
