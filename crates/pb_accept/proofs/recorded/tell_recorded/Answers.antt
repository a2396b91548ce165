use Rattle.std.proofs.Common.{[], ◌∷◌}
use Rattle.pb_accept.specs.Sayings.{NoMemory}
use Rattle.pb_accept.specs.ToldRuns.{no_memory}
use Rattle.pb_command_io.specs.declared.status.Status.TheVariants as status
use Rattle.pb_accept.proofs.recorded.tell_recorded.Goals as goal

pub returns-in-Ok : goal.returns-in-Ok
returns-in-Ok g c = c.tell_ended.ensures c.args.text.now c.in-Ok.ensures

pub returns-in-Err : goal.returns-in-Err
returns-in-Err g c = (NoMemory ∷ [], status.Memory, no_memory, c.tell_last.ensures)
