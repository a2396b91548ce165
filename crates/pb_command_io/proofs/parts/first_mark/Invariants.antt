use Rattle.pb_command_io.specs.Parts.{HasNoMarkBelow}
use Rattle.pb_command_io.proofs.parts.first_mark.Given as goal

abbrev pub invariant-loop-at : goal.invariant-loop-at
invariant-loop-at l = HasNoMarkBelow l.text l.at
