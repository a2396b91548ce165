-- The view of each kind of node.
use Rattle.std.proofs.Common.{◌≡◌, ℕ, map, Vec, Box, rules, ap, sym, ◌∙◌, refl}
use Rattle.std.proofs.lemmas.Simd.{map-map}
use Rattle.pb_tree.specs.Syntax.{StmtSyntax, unary, binary, number, variable, assign, print, if_else}
use Rattle.pb_tree.specs.Syntax.{while_do, hold, parbegin}
use Rattle.pb_tree.specs.View.{name_view, number_view, expr_view, demand_view, stmt_view, stmts_view}
use Rattle.pb_tree.specs.View.{arm_view, arms_view, joined_arms, stmts_of, stmt_step}
use Rattle.pb_tree.specs.declared.expr.Name.{Name}
use Rattle.pb_tree.specs.declared.expr.Number.{Number as NumberLiteral}
use Rattle.pb_tree.specs.declared.expr.Expr.{Expr, Number, Variable, Unary, Binary, the_lemmas as expr_lemmas}
use Rattle.pb_base.specs.declared.operators.UnaryOp.{UnaryOp}
use Rattle.pb_base.specs.declared.operators.BinaryOp.{BinaryOp}
use Rattle.pb_tree.specs.declared.stmt.Demand.{Demand}
use Rattle.pb_tree.specs.declared.stmt.Stmt.{Stmt, Assign, Print, If, While, Hold, Parbegin, fold-roll-Stmt}
use Rattle.pb_tree.specs.declared.stmt.Stmt.{the_lemmas}
use Rattle.pb_tree.specs.declared.stmt.Stmt.TheOpen.{Stmt-F}
use Rattle.pb_tree.specs.declared.stmt.Stmt.TheVariants.{rolls-Parbegin}

pub view-Number : (A : Type 0) (n : NumberLiteral) → expr_view {A = A} (Number n) ≡ number (number_view n)
view-Number A n = search (rules, expr_lemmas)

pub view-Variable : {A : Type 0} (x : Name A) → expr_view (Variable x) ≡ variable (name_view x)
view-Variable x = search (rules, expr_lemmas)

pub view-Unary : {A : Type 0} (op : UnaryOp) (e : Box (Expr A) A)
    → expr_view (Unary op e) ≡ unary op (expr_view e.value)
view-Unary op e = search (rules, expr_lemmas)

pub view-Binary : {A : Type 0} (op : BinaryOp) (a b : Box (Expr A) A)
    → expr_view (Binary op a b) ≡ binary op (expr_view a.value) (expr_view b.value)
view-Binary op a b = search (rules, expr_lemmas)

pub view-Assign : {A : Type 0} (line : ℕ) (x : Name A) (e : Expr A)
    → stmt_view (Assign line x e) ≡ assign line (name_view x) (expr_view e)
view-Assign line x e = search (rules, the_lemmas)

pub view-Print : {A : Type 0} (line : ℕ) (e : Expr A) → stmt_view (Print line e) ≡ print line (expr_view e)
view-Print line e = search (rules, the_lemmas)

pub view-If : {A : Type 0} (line : ℕ) (e : Expr A) (on_true on_false : Vec (Stmt A) A)
    → stmt_view (If line e on_true on_false)
    ≡ if_else line (expr_view e) (stmts_view on_true.items) (stmts_view on_false.items)
view-If line e on_true on_false = search (rules, the_lemmas)

pub view-While : {A : Type 0} (line : ℕ) (e : Expr A) (body : Vec (Stmt A) A)
    → stmt_view (While line e body) ≡ while_do line (expr_view e) (stmts_view body.items)
view-While line e body = search (rules, the_lemmas)

pub view-Hold : {A : Type 0} (line : ℕ) (demands : Vec (Demand A) A) (body : Vec (Stmt A) A)
    → stmt_view (Hold line demands body) ≡ hold line (map demand_view demands.items) (stmts_view body.items)
view-Hold line demands body = search (rules, the_lemmas)

pub view-Parbegin : {A : Type 0} (line : ℕ) (arms : Vec (Vec (Stmt A) A) A)
    → stmt_view (Parbegin line arms) ≡ parbegin line (arms_view arms.items)
unfolding arm_view
view-Parbegin {A} line arms =
    ap stmt_view (sym (rolls-Parbegin line arms))
    ∙ fold-roll-Stmt A StmtSyntax stmt_step (Stmt-F.Parbegin line arms)
    ∙ ap (λ r. parbegin line (joined_arms r)) (map-map (λ arm. stmts_of arm.items) _ arms.items)

pub view-arm : {A : Type 0} (arm : Vec (Stmt A) A) → arm_view arm ≡ stmts_view arm.items
unfolding arm_view
view-arm arm = refl

-- the view of an expression that was just made is made of the views of its parts
pub ruleset expr_views = (view-Number, view-Variable, view-Unary, view-Binary)

-- and so is that of a statement, or an arm
pub ruleset stmt_views = (view-Assign, view-Print, view-If, view-While, view-Hold, view-Parbegin, view-arm)
