use Rattle.std.proofs.Common.{rules}
use Rattle.pb_object.proofs.place_reader.place.Goals as goal
use Rattle.pb_object.specs.Instructions.{place}

pub returns-in-Read-clause-place : goal.returns-in-Read-clause-place
unfolding place
returns-in-Read-clause-place c = search rules fits 100
