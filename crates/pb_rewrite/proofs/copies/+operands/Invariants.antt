use Rattle.std.proofs.Common.{◌+◌, ◌*◌}
use Rattle.pb_names.specs.View.{expr_view}
use Rattle.pb_rewrite.proofs.Sizes.{expr_size}
use Rattle.pb_rewrite.proofs.copies.+operands.Given as goal

abbrev pub decreases-copy_expr : goal.decreases-copy_expr
decreases-copy_expr g l = 2 * expr_size (expr_view l.expr.now)

abbrev pub decreases-copy_operand : goal.decreases-copy_operand
decreases-copy_operand g l = 2 * expr_size (expr_view l.operand.now.value) + 1
