use Rattle.pb_grammar.specs.Lists.{append}
use Rattle.pb_grammar.specs.Making.{Adds}
use Rattle.pb_grammar.proofs.Chains.{made}
use Rattle.pb_grammar.proofs.Steps.{print_steps}
use Rattle.pb_grammar.proofs.parser.Parser.print.Goals as goal

pub returns : goal.returns
returns g c =
    let e = c.in_ok-value.ensures in
    made (λ _. Adds g.B.Builder.is_stmts append c.args.out.now c.print.new.out) g.B.Builder.wants _ _ _ _ _ (print_steps _ _ _ _ e.syntax e.found)
    (c.print.ensures.made e.syntax e.same) c.print.ensures.fault c.built.ensures.made c.built.ensures.fault
