use Rattle.std.proofs.Common.{rules}
use Rattle.pb_object.proofs.object.begins_two.Goals as goal

pub returns-in-Ok-Two-default-clause-two : goal.returns-in-Ok-Two-default-clause-two
returns-in-Ok-Two-default-clause-two c = search rules fits 100
