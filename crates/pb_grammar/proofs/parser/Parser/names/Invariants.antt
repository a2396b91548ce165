use Rattle.std.proofs.Common.{length}
use Rattle.pb_lexer.specs.declared.token.Mark.TheVariants as mark
use Rattle.pb_lexer.specs.Tokens.{tokens}
use Rattle.pb_grammar.specs.StatementReader.{between, concat}
use Rattle.pb_grammar.specs.ProgramReader.{one_name, names}
use Rattle.pb_grammar.proofs.Loops.{InLoop}
use Rattle.pb_grammar.proofs.parser.Parser.names.Given as goal

abbrev pub invariant-loop-self : goal.invariant-loop-self
invariant-loop-self g l =
    InLoop (g.B.Builder.is_names l.found) (between mark.Comma concat) one_name (tokens l.self.rest.now) (names (tokens l.fn.self.rest.now))

abbrev pub decreases-loop-self : goal.decreases-loop-self
decreases-loop-self g l = length (tokens l.self.rest.now)
