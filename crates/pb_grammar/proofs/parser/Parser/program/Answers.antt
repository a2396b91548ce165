use Rattle.pb_grammar.proofs.Steps.{program_steps}
use Rattle.pb_grammar.proofs.parser.Parser.program.Goals as goal

pub returns : goal.returns
returns g c =
    let rs = c.in_ok-resources.ensures in
    let ps = c.in_ok-processes.ensures in
    record {
      syntax = _;
      found = program_steps _ _ _ _ rs.syntax ps.syntax rs.found ps.found c.in_ok-end.ensures;
      same = c.program.ensures rs.syntax ps.syntax rs.same ps.same;
    }
