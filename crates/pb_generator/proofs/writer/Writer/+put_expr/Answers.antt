use Rattle.std.proofs.Common.{rules, w64}
use Rattle.std.proofs.lemmas.Int.{to_z-of_z}
use Rattle.pb_names.specs.View.{expr_view}
use Rattle.pb_names.proofs.Views.{numbered-Number, numbered-Variable, numbered-Unary, numbered-Binary}
use Rattle.pb_generator.proofs.Statements.{adds_unary, adds_binary}
use Rattle.pb_generator.proofs.writer.Writer.+put_expr.Goals as goal

pub returns-in_ok-put-in-Binary : goal.returns-in_ok-put-in-Binary
returns-in_ok-put-in-Binary g t c =
    let left = rw c.deref-in-Binary.ensures at c.in_ok-put_expr-in-Binary.ensures in
    let right = rw c.deref-in-Binary-2.ensures at c.in_ok-put_expr-in-Binary-2.ensures in
    rw (c.in-Binary.is, numbered-Binary)
    (adds_binary c.args.line c.in-Binary.op (expr_view c.in-Binary.left.value) (expr_view c.in-Binary.right.value) _
    (c.binary_instr.ensures.code _) left right c.in_ok-put-in-Binary.ensures)

pub returns-in_ok-put-in-Number : goal.returns-in_ok-put-in-Number
returns-in_ok-put-in-Number g t c =
    rw (c.in-Number.is, numbered-Number) (rw (to_z-of_z w64 c.in-Number.value (search rules)) at c.in_ok-put-in-Number.ensures)

pub returns-in_ok-put-in-Variable : goal.returns-in_ok-put-in-Variable
returns-in_ok-put-in-Variable g t c = rw (c.in-Variable.is, numbered-Variable) c.in_ok-put-in-Variable.ensures

pub returns-in_ok-put-in-Unary : goal.returns-in_ok-put-in-Unary
returns-in_ok-put-in-Unary g t c =
    let operand = rw c.deref.ensures at c.in_ok-put_expr-in-Unary.ensures in
    rw (c.in-Unary.is, numbered-Unary)
    (adds_unary c.args.line c.in-Unary.op (expr_view c.in-Unary.operand.value) _
    (c.unary_instr.ensures.code _) operand c.in_ok-put-in-Unary.ensures)
