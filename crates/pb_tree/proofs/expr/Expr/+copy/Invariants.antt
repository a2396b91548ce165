use Rattle.std.proofs.Common.{◌+◌, ◌*◌}
use Rattle.pb_tree.specs.Measure.{expr_nodes}
use Rattle.pb_tree.specs.View.{expr_view}
use Rattle.pb_tree.proofs.expr.Expr.+copy.Given as goal

abbrev pub decreases-copy_into : goal.decreases-copy_into
decreases-copy_into g l = 2 * expr_nodes (expr_view l.self.now)

abbrev pub decreases-copy_operand : goal.decreases-copy_operand
decreases-copy_operand g l = 2 * expr_nodes (expr_view l.operand.now.value) + 1
