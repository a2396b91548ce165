-- The lists of a statement and the operands of an expression are smaller than the whole, so a recursion down
-- them ends.
use Rattle.std.proofs.Common.{◌≡◌, ℕ, ◌+◌, ◌<◌, ◌∙◌, Vec, Box, arith, ap}
use Rattle.pb_names.specs.Program as plain
use Rattle.pb_names.specs.View.{expr_view, stmt_view, block_view}
use Rattle.pb_names.specs.declared.resolved.Stmt.{Stmt}
use Rattle.pb_names.specs.declared.resolved.Stmt as made
use Rattle.pb_names.specs.declared.resolved.Expr.{Expr, Unary, Binary}
use Rattle.pb_base.specs.Steppers.{Bundle}
use Rattle.pb_base.specs.declared.operators.UnaryOp.{UnaryOp}
use Rattle.pb_base.specs.declared.operators.BinaryOp.{BinaryOp}
use Rattle.pb_names.proofs.Views.{numbered-Unary, numbered-Binary, numbered-If, numbered-While, numbered-Hold}
use Rattle.pb_names.proofs.Sizes.{stmt_size, block_size}

-- how many expressions an expression has, itself included
abbrev pub expr_size : plain.Expr → ℕ
expr_size (plain.Number n) = 1
expr_size (plain.Variable x) = 1
expr_size (plain.Unary op e) = 1 + expr_size e
expr_size (plain.Binary op a b) = 1 + (expr_size a + expr_size b)

-- a list of an if, of a while and of a hold

pub then_size_within : {A : Type 0} (s : Stmt A) (line : ℕ) (e : Expr A) (on_true on_false : Vec (Stmt A) A)
    → s ≡ made.If line e on_true on_false
    → block_size (block_view on_true.items) < stmt_size (stmt_view s)
then_size_within s line e on_true on_false is =
    omega (arith, ap stmt_size (ap stmt_view is ∙ numbered-If line e on_true on_false))

pub else_size_within : {A : Type 0} (s : Stmt A) (line : ℕ) (e : Expr A) (on_true on_false : Vec (Stmt A) A)
    → s ≡ made.If line e on_true on_false
    → block_size (block_view on_false.items) < stmt_size (stmt_view s)
else_size_within s line e on_true on_false is =
    omega (arith, ap stmt_size (ap stmt_view is ∙ numbered-If line e on_true on_false))

pub repeated_size_within : {A : Type 0} (s : Stmt A) (line : ℕ) (e : Expr A) (body : Vec (Stmt A) A)
    → s ≡ made.While line e body
    → block_size (block_view body.items) < stmt_size (stmt_view s)
repeated_size_within s line e body is = omega (arith, ap stmt_size (ap stmt_view is ∙ numbered-While line e body))

pub held_size_within : {A : Type 0} (s : Stmt A) (line : ℕ) (bundle : Bundle) (body : Vec (Stmt A) A)
    → s ≡ made.Hold line bundle body
    → block_size (block_view body.items) < stmt_size (stmt_view s)
held_size_within s line bundle body is = omega (arith, ap stmt_size (ap stmt_view is ∙ numbered-Hold line bundle body))

-- the operands of an expression

pub operand_size_within : {A : Type 0} (s : Expr A) (op : UnaryOp) (e : Box (Expr A) A)
    → s ≡ Unary op e
    → expr_size (expr_view e.value) < expr_size (expr_view s)
operand_size_within s op e is = omega (arith, ap expr_size (ap expr_view is ∙ numbered-Unary op e))

pub left_size_within : {A : Type 0} (s : Expr A) (op : BinaryOp) (a b : Box (Expr A) A)
    → s ≡ Binary op a b
    → expr_size (expr_view a.value) < expr_size (expr_view s)
left_size_within s op a b is = omega (arith, ap expr_size (ap expr_view is ∙ numbered-Binary op a b))

pub right_size_within : {A : Type 0} (s : Expr A) (op : BinaryOp) (a b : Box (Expr A) A)
    → s ≡ Binary op a b
    → expr_size (expr_view b.value) < expr_size (expr_view s)
right_size_within s op a b is = omega (arith, ap expr_size (ap expr_view is ∙ numbered-Binary op a b))
