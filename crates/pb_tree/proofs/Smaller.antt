-- A part has fewer nodes than the whole, so a recursion down a tree ends.
use Rattle.std.proofs.Common.{◌≡◌, ℕ, ◌<◌, ◌≤◌, List, Vec, Box, length, get_or, arith, ap, ◌∙◌}
use Rattle.pb_tree.specs.Measure.{expr_nodes, stmt_nodes, stmts_nodes, arms_nodes}
use Rattle.pb_tree.specs.View.{expr_view, stmt_view, stmts_view, arm_view, arms_view}
use Rattle.pb_base.specs.declared.operators.UnaryOp.{UnaryOp}
use Rattle.pb_base.specs.declared.operators.BinaryOp.{BinaryOp}
use Rattle.pb_tree.specs.declared.expr.Expr.{Expr, Unary, Binary}
use Rattle.pb_tree.specs.declared.stmt.Demand.{Demand}
use Rattle.pb_tree.specs.declared.stmt.Stmt.{Stmt, If, While, Hold, Parbegin}
use Rattle.pb_base.proofs.Lists.{item_within}
use Rattle.pb_tree.proofs.Views.{view-Unary, view-Binary, view-If, view-While, view-Hold, view-Parbegin}

-- a statement of a list, as a loop reads it
pub stmt_nodes_within : {A : Type 0} (all ss : List (Stmt A)) (i : ℕ) (s : Stmt A)
    → ss ≡ all → s ≡ get_or ss i s → i < length ss
    → stmt_nodes (stmt_view s) ≤ stmts_nodes (stmts_view all)
stmt_nodes_within all ss i s =
    item_within (λ y. stmt_nodes (stmt_view y)) (λ ys. stmts_nodes (stmts_view ys)) all ss i s (λ y ys. omega arith)

-- an arm of a parbegin, as a loop reads it
pub arm_nodes_within : {A : Type 0} (all arms : List (Vec (Stmt A) A)) (i : ℕ) (a : Vec (Stmt A) A)
    → arms ≡ all → a ≡ get_or arms i a → i < length arms
    → stmts_nodes (stmts_view a.items) ≤ arms_nodes (arms_view all)
unfolding arm_view
arm_nodes_within all arms i a =
    item_within (λ y. stmts_nodes (stmts_view y.items)) (λ ys. arms_nodes (arms_view ys)) all arms i a (λ y ys. omega arith)

-- all arms of a parbegin
pub arms_nodes_within : {A : Type 0} (s : Stmt A) (line : ℕ) (arms : Vec (Vec (Stmt A) A) A)
    → s ≡ Parbegin line arms
    → arms_nodes (arms_view arms.items) < stmt_nodes (stmt_view s)
unfolding arm_view
arms_nodes_within s line arms is = omega (arith, ap stmt_nodes (ap stmt_view is ∙ view-Parbegin line arms))

-- a list of an if, of a while and of a hold

pub then_nodes_within : {A : Type 0} (s : Stmt A) (line : ℕ) (e : Expr A) (on_true on_false : Vec (Stmt A) A)
    → s ≡ If line e on_true on_false
    → stmts_nodes (stmts_view on_true.items) < stmt_nodes (stmt_view s)
then_nodes_within s line e on_true on_false is =
    omega (arith, ap stmt_nodes (ap stmt_view is ∙ view-If line e on_true on_false))

pub else_nodes_within : {A : Type 0} (s : Stmt A) (line : ℕ) (e : Expr A) (on_true on_false : Vec (Stmt A) A)
    → s ≡ If line e on_true on_false
    → stmts_nodes (stmts_view on_false.items) < stmt_nodes (stmt_view s)
else_nodes_within s line e on_true on_false is =
    omega (arith, ap stmt_nodes (ap stmt_view is ∙ view-If line e on_true on_false))

pub repeated_nodes_within : {A : Type 0} (s : Stmt A) (line : ℕ) (e : Expr A) (body : Vec (Stmt A) A)
    → s ≡ While line e body
    → stmts_nodes (stmts_view body.items) < stmt_nodes (stmt_view s)
repeated_nodes_within s line e body is = omega (arith, ap stmt_nodes (ap stmt_view is ∙ view-While line e body))

pub held_nodes_within : {A : Type 0} (s : Stmt A) (line : ℕ) (demands : Vec (Demand A) A) (body : Vec (Stmt A) A)
    → s ≡ Hold line demands body
    → stmts_nodes (stmts_view body.items) < stmt_nodes (stmt_view s)
held_nodes_within s line demands body is =
    omega (arith, ap stmt_nodes (ap stmt_view is ∙ view-Hold line demands body))

-- the operands of an expression

pub operand_nodes_within : {A : Type 0} (s : Expr A) (op : UnaryOp) (e : Box (Expr A) A)
    → s ≡ Unary op e
    → expr_nodes (expr_view e.value) < expr_nodes (expr_view s)
operand_nodes_within s op e is = omega (arith, ap expr_nodes (ap expr_view is ∙ view-Unary op e))

pub left_nodes_within : {A : Type 0} (s : Expr A) (op : BinaryOp) (a b : Box (Expr A) A)
    → s ≡ Binary op a b
    → expr_nodes (expr_view a.value) < expr_nodes (expr_view s)
left_nodes_within s op a b is = omega (arith, ap expr_nodes (ap expr_view is ∙ view-Binary op a b))

pub right_nodes_within : {A : Type 0} (s : Expr A) (op : BinaryOp) (a b : Box (Expr A) A)
    → s ≡ Binary op a b
    → expr_nodes (expr_view b.value) < expr_nodes (expr_view s)
right_nodes_within s op a b is = omega (arith, ap expr_nodes (ap expr_view is ∙ view-Binary op a b))
