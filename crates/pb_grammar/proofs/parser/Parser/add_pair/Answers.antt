use Rattle.pb_grammar.specs.StatementReader.{concat}
use Rattle.pb_grammar.specs.Making.{Adds}
use Rattle.pb_grammar.proofs.Chains.{made}
use Rattle.pb_grammar.proofs.Steps.{pair_steps}
use Rattle.pb_grammar.proofs.parser.Parser.add_pair.Goals as goal

pub returns : goal.returns
returns g c =
    made (λ _. Adds g.B.Builder.is_demands concat c.args.out.now c.add_demand.new.out) g.B.Builder.wants _ _ _ _ _
    (pair_steps _ _ _ _ _ _ c.in_ok-amount.ensures c.in_ok-expect.ensures c.in_ok-resource.ensures)
    (rw (c.text-text.ensures, c.start-at.ensures) at c.add_demand.ensures.made) c.add_demand.ensures.fault c.built.ensures.made c.built.ensures.fault
