use Rattle.std.proofs.Common.{List, map, take}
use Rattle.std.specs.Prelude.{option_map}
use Rattle.pb_joint.specs.View.{full_name}
use Rattle.pb_joint.specs.Texts.{AreSoFar}
use Rattle.pb_names.specs.View.{resolved_view}
use Rattle.pb_tree.specs.Syntax.{ProgramSyntax}
use Rattle.pb_tree.specs.View.{program_view}
use Rattle.pb_joint.proofs.texts.read_texts.Given as goal

abbrev pub invariant-loop-index : goal.invariant-loop-index
invariant-loop-index l =
    (trees : List ProgramSyntax)
    × AreSoFar l.several (take l.index (map (λ text. text.now) l.texts)) trees (program_view l.reading.whole)
    (option_map resolved_view l.reading.program) (map full_name l.reading.names.items)
