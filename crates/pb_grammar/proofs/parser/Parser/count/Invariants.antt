use Rattle.std.proofs.Common.{◌≡◌, length, ◌+◌, ◌≤◌}
use Rattle.pb_base.specs.declared.operators.UnaryOp.{UnaryOp}
use Rattle.pb_lexer.specs.Tokens.{tokens}
use Rattle.pb_tree.specs.Syntax.{ExprSyntax}
use Rattle.pb_grammar.specs.Reader.{Part}
use Rattle.pb_grammar.specs.ExpressionReader.{signed, signs}
use Rattle.pb_grammar.proofs.parser.Parser.count.Given as goal

abbrev pub invariant-loop-mark : goal.invariant-loop-mark
invariant-loop-mark g l = record {
  room : l.taken + length (tokens l.self.rest.now) ≤ length (tokens l.fn.self.rest.now);
  same : (op : UnaryOp) (part : Part ExprSyntax) →
      signed l.mark op part (tokens l.fn.self.rest.now) ≡ signs l.taken op (signed l.mark op part (tokens l.self.rest.now));
}

abbrev pub decreases-loop-mark : goal.decreases-loop-mark
decreases-loop-mark g l = length (tokens l.self.rest.now)
