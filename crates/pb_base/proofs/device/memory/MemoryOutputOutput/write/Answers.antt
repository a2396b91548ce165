use Rattle.std.proofs.Common.{rules}
use Rattle.pb_base.proofs.device.memory.MemoryOutputOutput.write.Goals as goal

pub returns-then-not-is_empty-clause-full : goal.returns-then-not-is_empty-clause-full
returns-then-not-is_empty-clause-full c = search rules

pub returns-in-Ok-clause-some : goal.returns-in-Ok-clause-some
returns-in-Ok-clause-some c = search rules
