use Rattle.std.proofs.Common.{rules, ap, ap₂, sym, ◌∙◌}
use Rattle.pb_names.specs.Program as plain
use Rattle.pb_names.specs.View.{expr_view}
use Rattle.pb_names.proofs.Views.{numbered-Unary, numbered-Binary}
use Rattle.pb_rewrite.proofs.Sizes.{operand_size_within, left_size_within, right_size_within}
use Rattle.pb_rewrite.proofs.copies.+operands.Goals as goal

pub copy_expr-copy_operand-requires : goal.copy_expr-copy_operand-requires
copy_expr-copy_operand-requires g t c κs within =
    let less = operand_size_within c.args.expr.now _ _ c.in-Unary.is in
    search rules

pub copy_expr-copy_operand-requires-in-Binary : goal.copy_expr-copy_operand-requires-in-Binary
copy_expr-copy_operand-requires-in-Binary g t c κs within =
    let less = left_size_within c.args.expr.now _ _ _ c.in-Binary.is in
    search rules

pub copy_expr-copy_operand-requires-in-Binary-2 : goal.copy_expr-copy_operand-requires-in-Binary-2
copy_expr-copy_operand-requires-in-Binary-2 g t c κs within =
    let less = right_size_within c.args.expr.now _ _ _ c.in-Binary.is in
    search rules

pub copy_expr-returns-in_ok-copy_operand-in-Unary : goal.copy_expr-returns-in_ok-copy_operand-in-Unary
copy_expr-returns-in_ok-copy_operand-in-Unary g t c =
    let a = c.in-Unary in
    numbered-Unary a.op c.in_ok-copy_operand-in-Unary.field-0
    ∙ ap (plain.Unary a.op) c.in_ok-copy_operand-in-Unary.ensures
    ∙ sym (ap expr_view a.is ∙ numbered-Unary a.op a.operand)

pub copy_expr-returns-in_ok-copy_operand-in-Binary : goal.copy_expr-returns-in_ok-copy_operand-in-Binary
copy_expr-returns-in_ok-copy_operand-in-Binary g t c =
    let a = c.in-Binary in
    numbered-Binary a.op c.in_ok-left-in-Binary.left c.in_ok-copy_operand-in-Binary.field-0
    ∙ ap₂ (plain.Binary a.op) c.in_ok-left-in-Binary.ensures c.in_ok-copy_operand-in-Binary.ensures
    ∙ sym (ap expr_view a.is ∙ numbered-Binary a.op a.left a.right)
