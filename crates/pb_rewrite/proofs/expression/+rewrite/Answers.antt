use Rattle.std.proofs.Common.{◌≡◌, ap, sym, ◌∙◌}
use Rattle.pb_names.specs.Program as plain
use Rattle.pb_names.specs.Source.{step_expr, Becomes}
use Rattle.pb_names.specs.View.{expr_view}
use Rattle.pb_names.proofs.Views.{numbered-Unary, numbered-Binary}
use Rattle.pb_names.proofs.ExpressionSteps.{unary_becomes, left_becomes, right_becomes}
use Rattle.pb_rewrite.proofs.expression.+rewrite.Goals as goal

pub returns-in-Becomes : goal.returns-in-Becomes
returns-in-Becomes g t c =
    let a = c.in-Unary in
    let inner : step_expr c.args.vars.now (expr_view a.operand.value) ≡ Becomes (expr_view c.rewrite.new.expr) =
    rw c.deref_mut.ensures.value at c.in-Becomes.ensures in
    ap (λ e. step_expr c.args.vars.now (expr_view e)) a.is
    ∙ ap (step_expr c.args.vars.now) (numbered-Unary a.op a.operand)
    ∙ unary_becomes c.args.vars.now a.op (expr_view a.operand.value) (expr_view c.rewrite.new.expr) inner
    ∙ ap Becomes (sym (numbered-Unary a.op _))

pub returns-in-Becomes-rewrite : goal.returns-in-Becomes-rewrite
returns-in-Becomes-rewrite g t c =
    let a = c.in-Binary in
    let inner : step_expr c.args.vars.now (expr_view a.left.value) ≡ Becomes (expr_view c.rewrite-in-Binary.new.expr) =
    rw c.deref_mut-in-Binary.ensures.value at c.in-Becomes-rewrite.ensures in
    ap (λ e. step_expr c.args.vars.now (expr_view e)) a.is
    ∙ ap (step_expr c.args.vars.now) (numbered-Binary a.op a.left a.right)
    ∙ left_becomes c.args.vars.now a.op (expr_view a.left.value) (expr_view c.rewrite-in-Binary.new.expr)
    (expr_view a.right.value) inner
    ∙ ap Becomes (sym (numbered-Binary a.op _ a.right))

pub returns-in-Becomes-rewrite-2 : goal.returns-in-Becomes-rewrite-2
returns-in-Becomes-rewrite-2 g t c =
    let a = c.in-Binary in
    let v = c.in-Is-rewrite.left in
    let left : expr_view a.left.value ≡ plain.Number v =
    ap expr_view (sym c.deref_mut-in-Binary.ensures.value) ∙ c.in-Is-rewrite.ensures.0 in
    let stays : expr_view c.rewrite-in-Binary.new.expr ≡ plain.Number v = c.in-Is-rewrite.ensures.1 ∙ c.in-Is-rewrite.ensures.0 in
    let inner : step_expr c.args.vars.now (expr_view a.right.value) ≡ Becomes (expr_view c.rewrite-in-Is-rewrite.new.expr) =
    rw c.deref_mut-in-Is-rewrite.ensures.value at c.in-Becomes-rewrite-2.ensures in
    ap (λ e. step_expr c.args.vars.now (expr_view e)) a.is
    ∙ ap (step_expr c.args.vars.now) (numbered-Binary a.op a.left a.right)
    ∙ ap (λ e. step_expr c.args.vars.now (plain.Binary a.op e (expr_view a.right.value))) left
    ∙ right_becomes c.args.vars.now a.op v (expr_view a.right.value) (expr_view c.rewrite-in-Is-rewrite.new.expr) inner
    ∙ ap (λ e. Becomes (plain.Binary a.op e (expr_view c.rewrite-in-Is-rewrite.new.expr))) (sym stays)
    ∙ ap Becomes (sym (numbered-Binary a.op _ _))
