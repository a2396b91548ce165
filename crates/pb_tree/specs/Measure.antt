-- How many nodes a tree has, and how high it is. Nodes are expressions, statements and processes; amounts,
-- names, resources and the target of an assignment are none, and so no parts of what they are in.
use Rattle.std.specs.Prelude.{ℕ, ◌+◌, ◌-◌, ◌^◌, min, max, List, [], ◌∷◌}
use Rattle.pb_tree.specs.Syntax.{ExprSyntax, number, variable, unary, binary, StmtSyntax, assign, print}
use Rattle.pb_tree.specs.Syntax.{if_else, while_do, hold, parbegin, StmtsSyntax, no_stmt, stmt_then}
use Rattle.pb_tree.specs.Syntax.{ArmsSyntax, no_arm, arm_then, ProcessSyntax, ProgramSyntax}

-- the nodes of an expression
abbrev pub expr_nodes : ExprSyntax → ℕ
expr_nodes (number n) = 1
expr_nodes (variable x) = 1
expr_nodes (unary op e) = 1 + expr_nodes e
expr_nodes (binary op a b) = 1 + (expr_nodes a + expr_nodes b)

-- the nodes of a statement, of a list of statements, and of arms
abbrev mutual
  pub stmt_nodes : StmtSyntax → ℕ
  stmt_nodes (assign line x e) = 1 + expr_nodes e
  stmt_nodes (print line e) = 1 + expr_nodes e
  stmt_nodes (if_else line e on_true on_false) =
      1 + (expr_nodes e + (stmts_nodes on_true + stmts_nodes on_false))
  stmt_nodes (while_do line e body) = 1 + (expr_nodes e + stmts_nodes body)
  stmt_nodes (hold line demands body) = 1 + stmts_nodes body
  stmt_nodes (parbegin line arms) = 1 + arms_nodes arms

  pub stmts_nodes : StmtsSyntax → ℕ
  stmts_nodes no_stmt = 0
  stmts_nodes (stmt_then s ss) = stmt_nodes s + stmts_nodes ss

  pub arms_nodes : ArmsSyntax → ℕ
  arms_nodes no_arm = 0
  arms_nodes (arm_then ss arms) = stmts_nodes ss + arms_nodes arms

-- the nodes of processes, each of which is one itself
abbrev pub processes_nodes : List ProcessSyntax → ℕ
processes_nodes [] = 0
processes_nodes (p ∷ ps) = (1 + stmts_nodes p.body) + processes_nodes ps

-- the nodes of a program
abbrev pub program_nodes : ProgramSyntax → ℕ
program_nodes p = processes_nodes p.processes

-- the height of an expression: 1 of a number or a name, of an operator one more than of its highest operand
abbrev pub expr_height : ExprSyntax → ℕ
expr_height (number n) = 1
expr_height (variable x) = 1
expr_height (unary op e) = 1 + expr_height e
expr_height (binary op a b) = 1 + max (expr_height a) (expr_height b)

-- the height of a statement, one more than of its highest expression or list; a list, and arms, have that of
-- their highest statement, 0 if they have none
abbrev mutual
  pub stmt_height : StmtSyntax → ℕ
  stmt_height (assign line x e) = 1 + expr_height e
  stmt_height (print line e) = 1 + expr_height e
  stmt_height (if_else line e on_true on_false) =
      1 + max (expr_height e) (max (stmts_height on_true) (stmts_height on_false))
  stmt_height (while_do line e body) = 1 + max (expr_height e) (stmts_height body)
  stmt_height (hold line demands body) = 1 + stmts_height body
  stmt_height (parbegin line arms) = 1 + arms_height arms

  pub stmts_height : StmtsSyntax → ℕ
  stmts_height no_stmt = 0
  stmts_height (stmt_then s ss) = max (stmt_height s) (stmts_height ss)

  pub arms_height : ArmsSyntax → ℕ
  arms_height no_arm = 0
  arms_height (arm_then ss arms) = max (stmts_height ss) (arms_height arms)

-- the height of the highest process, which is that of its list
abbrev pub processes_height : List ProcessSyntax → ℕ
processes_height [] = 0
processes_height (p ∷ ps) = max (stmts_height p.body) (processes_height ps)

-- the height of a program
abbrev pub program_height : ProgramSyntax → ℕ
program_height p = processes_height p.processes

-- a number that stays at the greatest u64
abbrev pub saturated : ℕ → ℕ
saturated n = min n (2 ^ 64 - 1)
