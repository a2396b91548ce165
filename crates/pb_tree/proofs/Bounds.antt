-- A tree is no higher than it has nodes: an induction over the plain tree.
use Rattle.std.proofs.Common.{◌≤◌, arith}
use Rattle.pb_tree.specs.Syntax.{ExprSyntax, number, variable, unary, binary, StmtSyntax, assign, print}
use Rattle.pb_tree.specs.Syntax.{if_else, while_do, hold, parbegin, StmtsSyntax, no_stmt, stmt_then}
use Rattle.pb_tree.specs.Syntax.{ArmsSyntax, no_arm, arm_then}
use Rattle.pb_tree.specs.Measure.{expr_nodes, stmt_nodes, stmts_nodes, arms_nodes, expr_height, stmt_height}
use Rattle.pb_tree.specs.Measure.{stmts_height, arms_height}

pub expr_height-nodes : (e : ExprSyntax) → expr_height e ≤ expr_nodes e
expr_height-nodes (number n) = omega arith
expr_height-nodes (variable x) = omega arith
expr_height-nodes (unary op e) = omega (arith, expr_height-nodes e)
expr_height-nodes (binary op a b) = omega (arith, expr_height-nodes a, expr_height-nodes b)

mutual
  pub stmt_height-nodes : (s : StmtSyntax) → stmt_height s ≤ stmt_nodes s
  stmt_height-nodes (assign line x e) = omega (arith, expr_height-nodes e)
  stmt_height-nodes (print line e) = omega (arith, expr_height-nodes e)
  stmt_height-nodes (if_else line e on_true on_false) =
      omega (arith, expr_height-nodes e, stmts_height-nodes on_true, stmts_height-nodes on_false)
  stmt_height-nodes (while_do line e body) = omega (arith, expr_height-nodes e, stmts_height-nodes body)
  stmt_height-nodes (hold line demands body) = omega (arith, stmts_height-nodes body)
  stmt_height-nodes (parbegin line arms) = omega (arith, arms_height-nodes arms)

  pub stmts_height-nodes : (ss : StmtsSyntax) → stmts_height ss ≤ stmts_nodes ss
  stmts_height-nodes no_stmt = omega arith
  stmts_height-nodes (stmt_then s ss) = omega (arith, stmt_height-nodes s, stmts_height-nodes ss)

  pub arms_height-nodes : (arms : ArmsSyntax) → arms_height arms ≤ arms_nodes arms
  arms_height-nodes no_arm = omega arith
  arms_height-nodes (arm_then ss arms) = omega (arith, stmts_height-nodes ss, arms_height-nodes arms)
