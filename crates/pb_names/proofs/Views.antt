-- The view of each kind of node of a numbered program.
use Rattle.std.proofs.Common.{◌≡◌, ℕ, ℤ, Vec, Box, rules, ap, sym, ◌∙◌, refl}
use Rattle.std.proofs.lemmas.Simd.{map-map}
use Rattle.pb_base.specs.Steppers.{Bundle}
use Rattle.pb_base.specs.declared.operators.UnaryOp.{UnaryOp}
use Rattle.pb_base.specs.declared.operators.BinaryOp.{BinaryOp}
use Rattle.pb_names.specs.Program as plain
use Rattle.pb_names.specs.View.{expr_view, stmt_view, block_view, arm_view, arms_view, arms_from, block_of}
use Rattle.pb_names.specs.View.{stmt_step}
use Rattle.pb_names.specs.declared.resolved.Expr.{Expr, Number, Variable, Unary, Binary}
use Rattle.pb_names.specs.declared.resolved.Expr.{the_lemmas as expr_lemmas}
use Rattle.pb_names.specs.declared.resolved.Stmt.{Stmt, Assign, Print, If, While, Hold, Parbegin}
use Rattle.pb_names.specs.declared.resolved.Stmt.{fold-roll-Stmt, the_lemmas}
use Rattle.pb_names.specs.declared.resolved.Stmt.TheOpen.{Stmt-F}
use Rattle.pb_names.specs.declared.resolved.Stmt.TheVariants.{rolls-Parbegin}

pub numbered-Number : (A : Type 0) (value : ℤ) → expr_view {A = A} (Number value) ≡ plain.Number value
numbered-Number A value = search (rules, expr_lemmas)

pub numbered-Variable : (A : Type 0) (x : ℕ) → expr_view {A = A} (Variable x) ≡ plain.Variable x
numbered-Variable A x = search (rules, expr_lemmas)

pub numbered-Unary : {A : Type 0} (op : UnaryOp) (e : Box (Expr A) A)
    → expr_view (Unary op e) ≡ plain.Unary op (expr_view e.value)
numbered-Unary op e = search (rules, expr_lemmas)

pub numbered-Binary : {A : Type 0} (op : BinaryOp) (a b : Box (Expr A) A)
    → expr_view (Binary op a b) ≡ plain.Binary op (expr_view a.value) (expr_view b.value)
numbered-Binary op a b = search (rules, expr_lemmas)

pub numbered-Assign : {A : Type 0} (line x : ℕ) (e : Expr A) → stmt_view (Assign line x e) ≡ plain.Assign line x (expr_view e)
numbered-Assign line x e = search (rules, the_lemmas)

pub numbered-Print : {A : Type 0} (line : ℕ) (e : Expr A) → stmt_view (Print line e) ≡ plain.Print line (expr_view e)
numbered-Print line e = search (rules, the_lemmas)

pub numbered-If : {A : Type 0} (line : ℕ) (e : Expr A) (on_true on_false : Vec (Stmt A) A)
    → stmt_view (If line e on_true on_false)
    ≡ plain.If line (expr_view e) (block_view on_true.items) (block_view on_false.items)
numbered-If line e on_true on_false = search (rules, the_lemmas)

pub numbered-While : {A : Type 0} (line : ℕ) (e : Expr A) (body : Vec (Stmt A) A)
    → stmt_view (While line e body) ≡ plain.While line (expr_view e) (block_view body.items)
numbered-While line e body = search (rules, the_lemmas)

pub numbered-Hold : {A : Type 0} (line : ℕ) (bundle : Bundle) (body : Vec (Stmt A) A)
    → stmt_view (Hold line bundle body) ≡ plain.Hold line bundle (block_view body.items)
numbered-Hold line bundle body = search (rules, the_lemmas)

pub numbered-Parbegin : {A : Type 0} (line first : ℕ) (arms : Vec (Vec (Stmt A) A) A)
    → stmt_view (Parbegin line first arms) ≡ plain.Parbegin line first (arms_view arms.items)
unfolding arm_view
numbered-Parbegin {A} line first arms =
    ap stmt_view (sym (rolls-Parbegin line first arms))
    ∙ fold-roll-Stmt A plain.Stmt stmt_step (Stmt-F.Parbegin line first arms)
    ∙ ap (λ r. plain.Parbegin line first (arms_from r)) (map-map (λ arm. block_of arm.items) _ arms.items)

pub numbered-arm : {A : Type 0} (arm : Vec (Stmt A) A) → arm_view arm ≡ block_view arm.items
unfolding arm_view
numbered-arm arm = refl

pub ruleset expr_views = (numbered-Number, numbered-Variable, numbered-Unary, numbered-Binary)

pub ruleset stmt_views = (numbered-Assign, numbered-Print, numbered-If, numbered-While, numbered-Hold, numbered-Parbegin, numbered-arm)
