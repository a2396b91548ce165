use Rattle.std.proofs.Common.{length}
use Rattle.pb_lexer.specs.declared.token.Mark.TheVariants as mark
use Rattle.pb_lexer.specs.Tokens.{tokens}
use Rattle.pb_grammar.specs.StatementReader.{between, concat}
use Rattle.pb_grammar.specs.ProgramReader.{a_resource, resources_part}
use Rattle.pb_grammar.proofs.Loops.{InLoop}
use Rattle.pb_grammar.proofs.parser.Parser.resources.Given as goal

abbrev pub invariant-loop-self : goal.invariant-loop-self
invariant-loop-self g l =
    InLoop (g.B.Builder.is_resources l.found) (between mark.Resource concat) a_resource (tokens l.self.rest.now) (resources_part (tokens l.fn.self.rest.now))

abbrev pub decreases-loop-self : goal.decreases-loop-self
decreases-loop-self g l = length (tokens l.self.rest.now)
