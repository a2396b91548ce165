use Rattle.std.proofs.Common.{ap, sym, subst, ◌∙◌, rules}
use Rattle.std.proofs.Common.{w64}
use Rattle.std.proofs.lemmas.Int.{to_z-of_z}
use Rattle.std.proofs.lemmas.Result.{IfOk-weaker}
use Rattle.pb_tree.specs.declared.expr.Expr.{the_lemmas as expr_lemmas}
use Rattle.pb_tree.specs.View.{expr_view}
use Rattle.pb_tree.proofs.Views as tree
use Rattle.pb_names.specs.Causes.{InExpr}
use Rattle.pb_names.specs.Resolves.{ResolvesExpr, number, variable, unary, binary}
use Rattle.pb_names.specs.Search.{IsFree, names_in}
use Rattle.pb_names.proofs.FirstCauses.{free_left, free_right}
use Rattle.pb_names.proofs.Views.{numbered-Number, numbered-Variable}
use Rattle.pb_resolver.proofs.resolver.+number_expr.Goals as goal

pub number_expr-requires-in-Binary : goal.number_expr-requires-in-Binary
number_expr-requires-in-Binary g t c κs within =
    let a = c.in-Binary in
    let known : IsFree (InExpr (names_in c.args.integers.now) (expr_view c.deref-in-Binary.result.now)) =
    rw c.deref-in-Binary.ensures
    (free_left (rw (ap expr_view a.is ∙ tree.view-Binary a.op a.left a.right) at c.requires.known))
    in
    search (rules, expr_lemmas)

pub number_expr-requires-in-Binary-2 : goal.number_expr-requires-in-Binary-2
number_expr-requires-in-Binary-2 g t c κs within =
    let a = c.in-Binary in
    let known : IsFree (InExpr (names_in c.args.integers.now) (expr_view c.deref-in-Binary-2.result.now)) =
    rw c.deref-in-Binary-2.ensures
    (free_right (rw (ap expr_view a.is ∙ tree.view-Binary a.op a.left a.right) at c.requires.known))
    in
    search (rules, expr_lemmas)

pub returns-in-Number : goal.returns-in-Number
returns-in-Number g t c = rw (ap expr_view c.in-Number.is ∙ tree.view-Number _ c.in-Number.number, numbered-Number)
    (rw (to_z-of_z w64 c.in-Number.number.value (search rules)) (number _))

pub returns-in-Variable : goal.returns-in-Variable
returns-in-Variable g t c =
    rw (ap expr_view c.in-Variable.is ∙ tree.view-Variable c.in-Variable.name, numbered-Variable)
    (variable _ _ c.number_in.ensures)

pub returns-in_ok-operand-in-Unary : goal.returns-in_ok-operand-in-Unary
returns-in_ok-operand-in-Unary g t c =
    let a = c.in-Unary in
    rw (ap expr_view a.is ∙ tree.view-Unary a.op a.operand, ← c.deref.ensures)
    (IfOk-weaker c.unary.result _ _
    (λ e is. subst (ResolvesExpr (names_in c.args.integers.now) _) (sym is) (unary _ _ _ c.in_ok-operand-in-Unary.ensures))
    c.unary.ensures)

pub returns-in_ok-right-in-Binary : goal.returns-in_ok-right-in-Binary
returns-in_ok-right-in-Binary g t c =
    let a = c.in-Binary in
    rw (ap expr_view a.is ∙ tree.view-Binary a.op a.left a.right, ← c.deref-in-Binary.ensures, ← c.deref-in-Binary-2.ensures)
    (IfOk-weaker c.binary.result _ _
    (λ e is. subst (ResolvesExpr (names_in c.args.integers.now) _) (sym is)
    (binary _ _ _ _ _ c.in_ok-left-in-Binary.ensures c.in_ok-right-in-Binary.ensures))
    c.binary.ensures)
