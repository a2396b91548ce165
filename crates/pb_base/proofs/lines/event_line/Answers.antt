use Rattle.std.proofs.Common.{rules}
use Rattle.pb_base.proofs.lines.event_line.Goals as goal
use Rattle.pb_base.specs.Lines.{line_of}

pub returns : goal.returns
unfolding line_of
returns c = search rules
