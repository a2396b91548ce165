use Rattle.std.proofs.Common.{ap}
use Rattle.pb_picks.proofs.Numbers.{decimal_plain}
use Rattle.pb_picks.specs.PickLines.{is_plain}
use Rattle.pb_picks.proofs.reader.number.Goals as goal

pub returns-then-not-is_plain : goal.returns-then-not-is_plain
returns-then-not-is_plain c = λ n few e. let p = decimal_plain n few in let q = ap is_plain e in cc
