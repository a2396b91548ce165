use Rattle.pb_lexer.specs.Tokens.{token}
use Rattle.pb_grammar.specs.Lists.{append}
use Rattle.pb_grammar.specs.Making.{Adds}
use Rattle.pb_grammar.proofs.Chains.{made}
use Rattle.pb_grammar.proofs.Steps.{assign_steps}
use Rattle.pb_grammar.proofs.parser.Parser.assign.Goals as goal

pub returns : goal.returns
returns g c =
    let e = c.in_ok-value.ensures in
    let same = c.assign.ensures.made e.syntax e.same in
    made (λ _. Adds g.B.Builder.is_stmts append c.args.out.now c.assign.new.out) g.B.Builder.wants _ _ _ _ _
    (assign_steps _ (token c.args.first) _ _ _ _ e.syntax c.in_ok-expect.ensures e.found)
    (rw (c.line-line.ensures, c.text-text.ensures, c.start-at.ensures) at same) c.assign.ensures.fault c.built.ensures.made c.built.ensures.fault
