use Rattle.std.proofs.Common.{arith}
use Rattle.pb_verifier.specs.Amounts.{TakesNone}
use Rattle.pb_verifier.specs.Given.{instrs_of}
use Rattle.pb_code.proofs.ListElements.{each_all}
use Rattle.pb_verifier.proofs.amounts.takes_any.Goals as goal

pub returns : goal.returns
returns c =
    let n = c.places-place-end.ensures in
    λ _. each_all (instrs_of c.args.code.now) c.loop-place.place (λ _ i. TakesNone c.args.resource i) (omega arith) c.loop-place.invariant
