use Rattle.pb_grammar.specs.StatementReader.{concat}
use Rattle.pb_grammar.specs.Making.{Adds}
use Rattle.pb_grammar.proofs.Chains.{made}
use Rattle.pb_grammar.proofs.Steps.{name_found}
use Rattle.pb_grammar.proofs.parser.Parser.add_name.Goals as goal

pub returns : goal.returns
returns g c =
    made (λ _. Adds g.B.Builder.is_names concat c.args.out.now c.add_name.new.out) g.B.Builder.wants _ _ _ _ _ (name_found _ _ _ c.in_ok-name.ensures)
    (rw (c.text-text.ensures, c.start-at.ensures) at c.add_name.ensures.made) c.add_name.ensures.fault c.built.ensures.made c.built.ensures.fault
