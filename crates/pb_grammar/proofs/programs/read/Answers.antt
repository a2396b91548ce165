use Rattle.pb_grammar.proofs.Ends.{to_the_end}
use Rattle.pb_grammar.proofs.programs.read.Goals as goal

pub returns : goal.returns
returns g c = to_the_end g.B.Builder.is_program g.B.Builder.wants c.program.result _ _ _ c.program.ensures
