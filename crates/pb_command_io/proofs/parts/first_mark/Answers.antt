use Rattle.std.proofs.Common.{rules}
use Rattle.pb_command_io.proofs.parts.first_mark.Goals as goal

pub loop-at-init : goal.loop-at-init
loop-at-init c = search rules fits 100
