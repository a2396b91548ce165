use Rattle.std.proofs.Common.{◌-◌}
use Rattle.pb_tree.specs.Syntax.{ExprSyntax}
use Rattle.pb_grammar.proofs.Signs.{InSigns}
use Rattle.pb_grammar.proofs.parser.Parser.signed.Given as goal

abbrev pub invariant-loop-turn : goal.invariant-loop-turn
invariant-loop-turn g l = (e : ExprSyntax) → g.B.Builder.is_expr l.fn.operand e → InSigns g.B.Builder.is_expr l.whole l.count (l.count - l._turn) l.op e
