use Rattle.std.proofs.Common.{rules}
use Rattle.pb_object.proofs.instr_reader.comparison.Goals as goal
use Rattle.pb_object.specs.Instructions.{comparison}

pub returns-then-is-3 : goal.returns-then-is-3
unfolding comparison
returns-then-is-3 c = search rules fits 100
