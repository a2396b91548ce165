use Rattle.pb_grammar.specs.StatementReader.{concat}
use Rattle.pb_grammar.specs.Making.{Adds}
use Rattle.pb_grammar.proofs.Chains.{made}
use Rattle.pb_grammar.proofs.Steps.{resource_steps}
use Rattle.pb_grammar.proofs.parser.Parser.add_resource.Goals as goal

pub returns : goal.returns
returns g c =
    made (λ _. Adds g.B.Builder.is_resources concat c.args.out.now c.add_resource.new.out) g.B.Builder.wants _ _ _ _ _
    (resource_steps _ _ _ _ _ _ _ c.in_ok-name.ensures c.in_ok-expect.ensures c.in_ok-capital.ensures c.in_ok-expect-2.ensures)
    (rw (c.text-text.ensures, c.start-at.ensures) at c.add_resource.ensures.made) c.add_resource.ensures.fault c.built.ensures.made c.built.ensures.fault
