use Rattle.std.proofs.Common.{rules, ap, ap₂, sym, ◌∙◌}
use Rattle.pb_tree.specs.Syntax.{unary, binary}
use Rattle.pb_tree.specs.View.{expr_view}
use Rattle.pb_tree.proofs.Smaller.{operand_nodes_within, left_nodes_within, right_nodes_within}
use Rattle.pb_tree.proofs.Views.{view-Unary, view-Binary}
use Rattle.pb_tree.proofs.expr.Expr.+copy.Goals as goal

pub copy_into-copy_operand-requires : goal.copy_into-copy_operand-requires
copy_into-copy_operand-requires g t c κs within =
    let less = operand_nodes_within c.args.self.now _ _ c.in-Unary.is in
    search rules

pub copy_into-copy_operand-requires-in-Binary : goal.copy_into-copy_operand-requires-in-Binary
copy_into-copy_operand-requires-in-Binary g t c κs within =
    let less = left_nodes_within c.args.self.now _ _ _ c.in-Binary.is in
    search rules

pub copy_into-copy_operand-requires-in-Binary-2 : goal.copy_into-copy_operand-requires-in-Binary-2
copy_into-copy_operand-requires-in-Binary-2 g t c κs within =
    let less = right_nodes_within c.args.self.now _ _ _ c.in-Binary.is in
    search rules

pub copy_into-returns-in_ok-copy_operand-in-Unary : goal.copy_into-returns-in_ok-copy_operand-in-Unary
copy_into-returns-in_ok-copy_operand-in-Unary g t c =
    let a = c.in-Unary in
    view-Unary a.op c.in_ok-copy_operand-in-Unary.field-0
    ∙ ap (unary a.op) c.in_ok-copy_operand-in-Unary.ensures
    ∙ sym (ap expr_view a.is ∙ view-Unary a.op a.operand)

pub copy_into-returns-in_ok-copy_operand-in-Binary : goal.copy_into-returns-in_ok-copy_operand-in-Binary
copy_into-returns-in_ok-copy_operand-in-Binary g t c =
    let a = c.in-Binary in
    view-Binary a.op c.in_ok-left-in-Binary.left c.in_ok-copy_operand-in-Binary.field-0
    ∙ ap₂ (binary a.op) c.in_ok-left-in-Binary.ensures c.in_ok-copy_operand-in-Binary.ensures
    ∙ sym (ap expr_view a.is ∙ view-Binary a.op a.left a.right)
