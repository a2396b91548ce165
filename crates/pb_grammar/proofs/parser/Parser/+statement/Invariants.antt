use Rattle.std.proofs.Common.{length, ◌+◌, ◌*◌}
use Rattle.pb_lexer.specs.declared.token.Mark.TheVariants as mark
use Rattle.pb_lexer.specs.Tokens.{tokens}
use Rattle.pb_grammar.specs.Lists.{append, append_arms}
use Rattle.pb_grammar.specs.StatementReader.{between, statement, list, an_arm, arms_part}
use Rattle.pb_grammar.specs.Making.{Adds}
use Rattle.pb_grammar.proofs.Loops.{InLoop}
use Rattle.pb_grammar.proofs.parser.Parser.+statement.Given as goal

-- Eight for each statement that may still begin in another, and less for each step towards the next.
abbrev pub decreases-statement : goal.decreases-statement
decreases-statement g l = 8 * l.depth

abbrev pub decreases-list : goal.decreases-list
decreases-list g l = 8 * l.depth + 1

abbrev pub decreases-body : goal.decreases-body
decreases-body g l = 8 * l.depth + 2

abbrev pub decreases-arms : goal.decreases-arms
decreases-arms g l = 8 * l.depth + 1

abbrev pub decreases-otherwise : goal.decreases-otherwise
decreases-otherwise g l = 8 * l.depth + 3

abbrev pub decreases-if_else : goal.decreases-if_else
decreases-if_else g l = 8 * l.depth + 4

abbrev pub decreases-while_do : goal.decreases-while_do
decreases-while_do g l = 8 * l.depth + 4

abbrev pub decreases-hold : goal.decreases-hold
decreases-hold g l = 8 * l.depth + 4

abbrev pub decreases-parbegin : goal.decreases-parbegin
decreases-parbegin g l = 8 * l.depth + 4

abbrev pub decreases-inner : goal.decreases-inner
decreases-inner g l = 8 * l.depth + 4

abbrev pub decreases-after_first : goal.decreases-after_first
decreases-after_first g l = 8 * l.depth + 5

abbrev pub invariant-list-loop-self : goal.invariant-list-loop-self
invariant-list-loop-self g l =
    InLoop (Adds g.B.Builder.is_stmts append l.fn.out l.out) (between mark.Semicolon append) (statement l.depth) (tokens l.self.rest.now)
    (list (statement l.depth) (tokens l.fn.self.rest.now))

abbrev pub decreases-list-loop-self : goal.decreases-list-loop-self
decreases-list-loop-self g l = length (tokens l.self.rest.now)

abbrev pub invariant-arms-loop-self : goal.invariant-arms-loop-self
invariant-arms-loop-self g l =
    InLoop (g.B.Builder.is_arms l.found) (between mark.Semicolon append_arms) (an_arm (statement l.depth)) (tokens l.self.rest.now)
    (arms_part (statement l.depth) (tokens l.fn.self.rest.now))

abbrev pub decreases-arms-loop-self : goal.decreases-arms-loop-self
decreases-arms-loop-self g l = length (tokens l.self.rest.now)
