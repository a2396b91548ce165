use Rattle.std.proofs.Common.{length}
use Rattle.pb_lexer.specs.declared.token.Mark.TheVariants as mark
use Rattle.pb_lexer.specs.Tokens.{tokens}
use Rattle.pb_grammar.specs.StatementReader.{between, concat}
use Rattle.pb_grammar.specs.ProgramReader.{a_process, processes_part}
use Rattle.pb_grammar.proofs.Loops.{InLoop}
use Rattle.pb_grammar.proofs.parser.Parser.processes.Given as goal

abbrev pub invariant-loop-self : goal.invariant-loop-self
invariant-loop-self g l =
    InLoop (g.B.Builder.is_processes l.found) (between mark.Process concat) (a_process l.depth) (tokens
    l.self.rest.now) (processes_part l.depth (tokens l.fn.self.rest.now))

abbrev pub decreases-loop-self : goal.decreases-loop-self
decreases-loop-self g l = length (tokens l.self.rest.now)
