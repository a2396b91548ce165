use Rattle.std.proofs.Common.{length, ◌+◌, ◌*◌}
use Rattle.pb_lexer.specs.Tokens.{tokens}
use Rattle.pb_tree.specs.Syntax.{ExprSyntax}
use Rattle.pb_grammar.specs.Reader.{more}
use Rattle.pb_grammar.specs.ExpressionReader.{joins, of_level, expression, looseness}
use Rattle.pb_grammar.proofs.Loops.{InLoop}
use Rattle.pb_grammar.proofs.parser.Parser.+expression.Given as goal

-- Sixty-four for each bracket that may still open, and less for each step towards a tighter level.
abbrev pub decreases-expression : goal.decreases-expression
decreases-expression g l = 64 * l.depth

abbrev pub decreases-level : goal.decreases-level
decreases-level g l = 64 * l.depth + 8 * looseness l.level + 7

abbrev pub decreases-logical : goal.decreases-logical
decreases-logical g l = 64 * l.depth + 8 * looseness l.level + 6

abbrev pub decreases-after_negation : goal.decreases-after_negation
decreases-after_negation g l = 64 * l.depth + 8 * looseness l.level + 5

abbrev pub decreases-after_conjunction : goal.decreases-after_conjunction
decreases-after_conjunction g l = 64 * l.depth + 8 * looseness l.level + 4

abbrev pub decreases-arithmetic : goal.decreases-arithmetic
decreases-arithmetic g l = 64 * l.depth + 8 * looseness l.level + 6

abbrev pub decreases-after_factor : goal.decreases-after_factor
decreases-after_factor g l = 64 * l.depth + 8 * looseness l.level + 5

abbrev pub decreases-after_term : goal.decreases-after_term
decreases-after_term g l = 64 * l.depth + 8 * looseness l.level + 4

abbrev pub decreases-after_sum : goal.decreases-after_sum
decreases-after_sum g l = 64 * l.depth + 8 * looseness l.level + 3

abbrev pub decreases-chain : goal.decreases-chain
decreases-chain g l = 64 * l.depth + 8 * looseness l.part + 9

abbrev pub decreases-joined : goal.decreases-joined
decreases-joined g l = 64 * l.depth + 8 * looseness l.part + 8

abbrev pub decreases-relation : goal.decreases-relation
decreases-relation g l = 64 * l.depth + 25

abbrev pub decreases-negation : goal.decreases-negation
decreases-negation g l = 64 * l.depth + 31

abbrev pub decreases-factor : goal.decreases-factor
decreases-factor g l = 64 * l.depth + 2

abbrev pub decreases-primary : goal.decreases-primary
decreases-primary g l = 64 * l.depth + 1

abbrev pub invariant-chain-loop-op : goal.invariant-chain-loop-op
invariant-chain-loop-op g l = (a : ExprSyntax) → g.B.Builder.is_expr l.fn.first a →
    InLoop (g.B.Builder.is_expr l.left) (joins l.level) (of_level (expression l.depth) l.part) (tokens l.self.rest.now)
    (more (joins l.level) (of_level (expression l.depth) l.part) a (tokens l.fn.self.rest.now))

abbrev pub decreases-chain-loop-op : goal.decreases-chain-loop-op
decreases-chain-loop-op g l = length (tokens l.self.rest.now)
