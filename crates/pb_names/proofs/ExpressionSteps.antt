-- The next step of an expression is that of its first operand with a step to make.
use Rattle.std.proofs.Common.{◌≡◌, ℤ, List, ap}
use Rattle.pb_base.specs.declared.operators.FaultKind.{FaultKind}
use Rattle.pb_base.specs.declared.operators.UnaryOp.{UnaryOp}
use Rattle.pb_base.specs.declared.operators.BinaryOp.{BinaryOp}
use Rattle.pb_names.specs.Program.{Expr, Number, Variable, Unary, Binary}
use Rattle.pb_names.specs.Source.{Becomes, Fails, inside, step_expr}

-- in the operand
pub unary_becomes : (vars : List ℤ) (op : UnaryOp) (a a' : Expr)
    → step_expr vars a ≡ Becomes a' → step_expr vars (Unary op a) ≡ Becomes (Unary op a')
unary_becomes vars op (Number v) a' h = absurd (cc)
unary_becomes vars op (Variable x) a' h = ap (inside (Unary op)) h
unary_becomes vars op (Unary op' e) a' h = ap (inside (Unary op)) h
unary_becomes vars op (Binary op' e f) a' h = ap (inside (Unary op)) h

pub unary_fails : (vars : List ℤ) (op : UnaryOp) (a : Expr) (kind : FaultKind)
    → step_expr vars a ≡ Fails kind → step_expr vars (Unary op a) ≡ Fails kind
unary_fails vars op (Number v) kind h = absurd (cc)
unary_fails vars op (Variable x) kind h = ap (inside (Unary op)) h
unary_fails vars op (Unary op' e) kind h = ap (inside (Unary op)) h
unary_fails vars op (Binary op' e f) kind h = ap (inside (Unary op)) h

-- in the left operand
pub left_becomes : (vars : List ℤ) (op : BinaryOp) (a a' b : Expr)
    → step_expr vars a ≡ Becomes a' → step_expr vars (Binary op a b) ≡ Becomes (Binary op a' b)
left_becomes vars op (Number v) a' b h = absurd (cc)
left_becomes vars op (Variable x) a' b h = ap (inside (λ e. Binary op e b)) h
left_becomes vars op (Unary op' e) a' b h = ap (inside (λ e'. Binary op e' b)) h
left_becomes vars op (Binary op' e f) a' b h = ap (inside (λ e'. Binary op e' b)) h

pub left_fails : (vars : List ℤ) (op : BinaryOp) (a b : Expr) (kind : FaultKind)
    → step_expr vars a ≡ Fails kind → step_expr vars (Binary op a b) ≡ Fails kind
left_fails vars op (Number v) b kind h = absurd (cc)
left_fails vars op (Variable x) b kind h = ap (inside (λ e. Binary op e b)) h
left_fails vars op (Unary op' e) b kind h = ap (inside (λ e'. Binary op e' b)) h
left_fails vars op (Binary op' e f) b kind h = ap (inside (λ e'. Binary op e' b)) h

-- in the right operand
pub right_becomes : (vars : List ℤ) (op : BinaryOp) (v : ℤ) (b b' : Expr)
    → step_expr vars b ≡ Becomes b' → step_expr vars (Binary op (Number v) b) ≡ Becomes (Binary op (Number v) b')
right_becomes vars op v (Number w) b' h = absurd (cc)
right_becomes vars op v (Variable x) b' h = ap (inside (Binary op (Number v))) h
right_becomes vars op v (Unary op' e) b' h = ap (inside (Binary op (Number v))) h
right_becomes vars op v (Binary op' e f) b' h = ap (inside (Binary op (Number v))) h

pub right_fails : (vars : List ℤ) (op : BinaryOp) (v : ℤ) (b : Expr) (kind : FaultKind)
    → step_expr vars b ≡ Fails kind → step_expr vars (Binary op (Number v) b) ≡ Fails kind
right_fails vars op v (Number w) kind h = absurd (cc)
right_fails vars op v (Variable x) kind h = ap (inside (Binary op (Number v))) h
right_fails vars op v (Unary op' e) kind h = ap (inside (Binary op (Number v))) h
right_fails vars op v (Binary op' e f) kind h = ap (inside (Binary op (Number v))) h

pub ruleset expr_steps = (unary_becomes, unary_fails, left_becomes, left_fails, right_becomes, right_fails)
