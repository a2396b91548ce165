-- The plain tree of an expression on its way into a tree. No public contract cites this file.
use Rattle.pb_tree.specs.Syntax.{ExprSyntax, number}
use Rattle.pb_tree.specs.View.{number_view, expr_view}
use Rattle.pb_parser.specs.declared.trees.Part.{Part}

-- a number, or what is in memory
abbrev pub part_view : {A : Type 0} → Part A → ExprSyntax
part_view (Part.Number n) = number (number_view n)
part_view (Part.Made expr) = expr_view expr.value
