use Rattle.std.proofs.Common.{length}
use Rattle.pb_lexer.specs.declared.token.Mark.TheVariants as mark
use Rattle.pb_lexer.specs.Tokens.{tokens}
use Rattle.pb_grammar.specs.StatementReader.{between, concat, a_pair, pairs}
use Rattle.pb_grammar.proofs.Loops.{InLoop}
use Rattle.pb_grammar.proofs.parser.Parser.pairs.Given as goal

abbrev pub invariant-loop-self : goal.invariant-loop-self
invariant-loop-self g l =
    InLoop (g.B.Builder.is_demands l.found) (between mark.Comma concat) a_pair (tokens l.self.rest.now) (pairs (tokens l.fn.self.rest.now))

abbrev pub decreases-loop-self : goal.decreases-loop-self
decreases-loop-self g l = length (tokens l.self.rest.now)
