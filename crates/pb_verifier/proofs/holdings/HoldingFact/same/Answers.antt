use Rattle.std.proofs.Common.{eqb-true}
use Rattle.std.proofs.lemmas.Bool.{eq-eqb}
use Rattle.pb_verifier.specs.Given.{instrs_of}
use Rattle.pb_verifier.proofs.Chains.{counts_same}
use Rattle.pb_verifier.proofs.holdings.HoldingFact.same.Goals as goal

pub returns-else-self-other : goal.returns-else-self-other
returns-else-self-other c = (
  λ e. absurd (c.if-self-other.false (eqb-true c.args.self.count c.args.other.count e)),
  λ e. eq-eqb c.args.self.count c.args.other.count (counts_same (instrs_of c.args.code.now) c.args.table.now c.args.self c.args.other e),
)
