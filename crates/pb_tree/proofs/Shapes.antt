-- Which kind of node an expression is, with its view.
use Rattle.std.proofs.Common.{◌≡◌, ap, sym, ◌∙◌}
use Rattle.pb_tree.specs.Syntax.{NameSyntax, NumberSyntax, ExprSyntax, unary, binary, number, variable}
use Rattle.pb_tree.specs.View.{name_view, number_view, expr_view}
use Rattle.pb_tree.specs.declared.expr.Name.{Name}
use Rattle.pb_tree.specs.declared.expr.Number.{Number as NumberLiteral}
use Rattle.pb_tree.specs.declared.expr.Expr.{Expr, Number, Variable, Unary, Binary, out-Expr, roll-Expr}
use Rattle.pb_tree.specs.declared.expr.Expr.{roll-out-Expr}
use Rattle.pb_tree.specs.declared.expr.Expr.TheOpen.{Expr-F}
use Rattle.pb_tree.specs.declared.expr.Expr.TheVariants.{rolls-Number, rolls-Variable, rolls-Unary}
use Rattle.pb_tree.specs.declared.expr.Expr.TheVariants.{rolls-Binary}
use Rattle.pb_base.specs.declared.operators.UnaryOp.{UnaryOp}
use Rattle.pb_base.specs.declared.operators.BinaryOp.{BinaryOp}
use Rattle.std.proofs.Common.{Box}
use Rattle.pb_tree.proofs.Views.{view-Number, view-Variable, view-Unary, view-Binary}

pub data ExprShape {A : Type 0} (s : Expr A) : Type 0 where
  is_Number : (n : NumberLiteral) → s ≡ Number n → expr_view s ≡ number (number_view n) → ExprShape s
  is_Variable : (x : Name A) → s ≡ Variable x → expr_view s ≡ variable (name_view x) → ExprShape s
  is_Unary : (op : UnaryOp) (e : Box (Expr A) A)
      → s ≡ Unary op e → expr_view s ≡ unary op (expr_view e.value) → ExprShape s
  is_Binary : (op : BinaryOp) (a b : Box (Expr A) A)
      → s ≡ Binary op a b → expr_view s ≡ binary op (expr_view a.value) (expr_view b.value) → ExprShape s

expr_shape_of : {A : Type 0} (layer : Expr-F A (Expr A)) (s : Expr A) → s ≡ roll-Expr A layer → ExprShape s
expr_shape_of {A} (Expr-F.Number n) s is =
    let here = is ∙ rolls-Number n in
    is_Number n here (ap expr_view here ∙ view-Number A n)
expr_shape_of (Expr-F.Variable x) s is =
    let here = is ∙ rolls-Variable x in
    is_Variable x here (ap expr_view here ∙ view-Variable x)
expr_shape_of (Expr-F.Unary op e) s is =
    let here = is ∙ rolls-Unary op e in
    is_Unary op e here (ap expr_view here ∙ view-Unary op e)
expr_shape_of (Expr-F.Binary op a b) s is =
    let here = is ∙ rolls-Binary op a b in
    is_Binary op a b here (ap expr_view here ∙ view-Binary op a b)

pub expr_shape : {A : Type 0} (s : Expr A) → ExprShape s
expr_shape {A} s = expr_shape_of (out-Expr A s) s (sym (roll-out-Expr A s))

-- An expression that has the view of a number is one, and so on.

not_Number : {A : Type 0} {s : Expr A} (n : NumberSyntax) → ExprShape s → expr_view s ≡ number n
    → ((m : NumberLiteral) → s ≡ Number m → ⊥) → ⊥
not_Number n (is_Number m is view) h never = never m is
not_Number n (is_Variable y is view) h never = cc
not_Number n (is_Unary o f is view) h never = cc
not_Number n (is_Binary o f g is view) h never = cc

pub only_Number : {A : Type 0} (s : Expr A) (n : NumberSyntax) → expr_view s ≡ number n
    → ((m : NumberLiteral) → s ≡ Number m → ⊥) → ⊥
only_Number s n = not_Number n (expr_shape s)

not_Variable : {A : Type 0} {s : Expr A} (x : NameSyntax) → ExprShape s → expr_view s ≡ variable x
    → ((y : Name A) → s ≡ Variable y → ⊥) → ⊥
not_Variable x (is_Number m is view) h never = cc
not_Variable x (is_Variable y is view) h never = never y is
not_Variable x (is_Unary o f is view) h never = cc
not_Variable x (is_Binary o f g is view) h never = cc

pub only_Variable : {A : Type 0} (s : Expr A) (x : NameSyntax) → expr_view s ≡ variable x
    → ((y : Name A) → s ≡ Variable y → ⊥) → ⊥
only_Variable s x = not_Variable x (expr_shape s)

not_Unary : {A : Type 0} {s : Expr A} (op : UnaryOp) (e : ExprSyntax) → ExprShape s
    → expr_view s ≡ unary op e → ((o : UnaryOp) (f : Box (Expr A) A) → s ≡ Unary o f → ⊥) → ⊥
not_Unary op e (is_Number m is view) h never = cc
not_Unary op e (is_Variable y is view) h never = cc
not_Unary op e (is_Unary o f is view) h never = never o f is
not_Unary op e (is_Binary o f g is view) h never = cc

pub only_Unary : {A : Type 0} (s : Expr A) (op : UnaryOp) (e : ExprSyntax)
    → expr_view s ≡ unary op e → ((o : UnaryOp) (f : Box (Expr A) A) → s ≡ Unary o f → ⊥) → ⊥
only_Unary s op e = not_Unary op e (expr_shape s)

not_Binary : {A : Type 0} {s : Expr A} (op : BinaryOp) (a b : ExprSyntax) → ExprShape s
    → expr_view s ≡ binary op a b → ((o : BinaryOp) (f g : Box (Expr A) A) → s ≡ Binary o f g → ⊥) → ⊥
not_Binary op a b (is_Number m is view) h never = cc
not_Binary op a b (is_Variable y is view) h never = cc
not_Binary op a b (is_Unary o f is view) h never = cc
not_Binary op a b (is_Binary o f g is view) h never = never o f g is

pub only_Binary : {A : Type 0} (s : Expr A) (op : BinaryOp) (a b : ExprSyntax)
    → expr_view s ≡ binary op a b → ((o : BinaryOp) (f g : Box (Expr A) A) → s ≡ Binary o f g → ⊥) → ⊥
only_Binary s op a b = not_Binary op a b (expr_shape s)
