use Rattle.std.proofs.Common.{rules, arith}
use Rattle.std.proofs.lemmas.Grind.{common_steps}
use Rattle.pb_object.proofs.place_reader.bundle.Goals as goal
use Rattle.pb_object.specs.Instructions.{bundle_of}

pub pairs-requires-clause-some : goal.pairs-requires-clause-some
unfolding bundle_of
pairs-requires-clause-some c = search rules fits 100

pub returns : goal.returns
unfolding bundle_of
returns c = grind (arith, rules, common_steps)
