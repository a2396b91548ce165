-- How high the statements of a process are: as high as those of its tree.
use Rattle.std.proofs.Common.{◌≡◌, ℕ, suc, max, List, arith}
use Rattle.pb_tree.specs.Syntax as tree
use Rattle.pb_tree.specs.Measure as measure
use Rattle.pb_names.specs.Program.{Expr, Number, Variable, Unary, Binary, Stmt, Assign, Print, If, While, Hold}
use Rattle.pb_names.specs.Program.{Parbegin, Block, Skip, Then, Arms, NoArm, AndArm, Name}
use Rattle.pb_names.specs.Resolves.{ResolvesExpr, number, variable, unary, binary, ResolvesStmt, assign}
use Rattle.pb_names.specs.Resolves.{print}
use Rattle.pb_names.specs.Resolves.{if_else, while_do, hold, parbegin, ResolvesStmts, no_stmt, stmt_then}
use Rattle.pb_names.specs.Resolves.{ResolvesArms, no_arm, arm_then}

abbrev pub expr_height : Expr → ℕ
expr_height (Number v) = 1
expr_height (Variable x) = 1
expr_height (Unary op a) = suc (expr_height a)
expr_height (Binary op a b) = suc (max (expr_height a) (expr_height b))

abbrev mutual
  pub stmt_height : Stmt → ℕ
  stmt_height (Assign line x e) = suc (expr_height e)
  stmt_height (Print line e) = suc (expr_height e)
  stmt_height (If line e a b) = suc (max (expr_height e) (max (height a) (height b)))
  stmt_height (While line e body) = suc (max (expr_height e) (height body))
  stmt_height (Hold line bundle body) = suc (height body)
  stmt_height (Parbegin line first arms) = suc (arms_height arms)

  pub height : Block → ℕ
  height Skip = 0
  height (Then s block) = max (stmt_height s) (height block)

  pub arms_height : Arms → ℕ
  arms_height NoArm = 0
  arms_height (AndArm arm arms) = max (height arm) (arms_height arms)

expr_height-resolved : (integers : List Name) (e : tree.ExprSyntax) (e' : Expr) → ResolvesExpr integers e e'
    → expr_height e' ≡ measure.expr_height e
expr_height-resolved integers _ _ (number n) = omega arith
expr_height-resolved integers _ _ (variable x i is) = omega arith
expr_height-resolved integers _ _ (unary op e e' h) =
    let f = expr_height-resolved integers e e' h in omega (arith, f)
expr_height-resolved integers _ _ (binary op a b a' b' h k) =
    let f = expr_height-resolved integers a a' h in
    let g = expr_height-resolved integers b b' k in
    omega (arith, f, g)

mutual
  stmt_height-resolved : (integers resources : List Name) (s : tree.StmtSyntax) (s' : Stmt)
      → ResolvesStmt integers resources s s' → stmt_height s' ≡ measure.stmt_height s
  stmt_height-resolved integers resources _ _ (assign line x i e e' is h) =
      let f = expr_height-resolved integers e e' h in omega (arith, f)
  stmt_height-resolved integers resources _ _ (print line e e' h) =
      let f = expr_height-resolved integers e e' h in omega (arith, f)
  stmt_height-resolved integers resources _ _ (if_else line e e' a b a' b' h k l) =
      let f = expr_height-resolved integers e e' h in
      let g = height-resolved integers resources a a' k in
      let m = height-resolved integers resources b b' l in
      omega (arith, f, g, m)
  stmt_height-resolved integers resources _ _ (while_do line e e' body body' h k) =
      let f = expr_height-resolved integers e e' h in
      let g = height-resolved integers resources body body' k in
      omega (arith, f, g)
  stmt_height-resolved integers resources _ _ (hold line demands bundle body body' h k) =
      let g = height-resolved integers resources body body' k in omega (arith, g)
  stmt_height-resolved integers resources _ _ (parbegin line first arms arms' few h) =
      let g = arms_height-resolved integers resources arms arms' h in omega (arith, g)

  pub height-resolved : (integers resources : List Name) (ss : tree.StmtsSyntax) (block : Block)
      → ResolvesStmts integers resources ss block → height block ≡ measure.stmts_height ss
  height-resolved integers resources _ _ no_stmt = omega arith
  height-resolved integers resources _ _ (stmt_then s s' ss block h k) =
      let f = stmt_height-resolved integers resources s s' h in
      let g = height-resolved integers resources ss block k in
      omega (arith, f, g)

  arms_height-resolved : (integers resources : List Name) (arms : tree.ArmsSyntax) (arms' : Arms)
      → ResolvesArms integers resources arms arms' → arms_height arms' ≡ measure.arms_height arms
  arms_height-resolved integers resources _ _ no_arm = omega arith
  arms_height-resolved integers resources _ _ (arm_then arm arm' arms arms' h k) =
      let f = height-resolved integers resources arm arm' h in
      let g = arms_height-resolved integers resources arms arms' k in
      omega (arith, f, g)
