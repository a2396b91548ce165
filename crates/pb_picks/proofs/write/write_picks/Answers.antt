use Rattle.std.proofs.Common.{rules}
use Rattle.pb_picks.proofs.write.write_picks.Goals as goal

pub returns-else-is_err-clause-err : goal.returns-else-is_err-clause-err
returns-else-is_err-clause-err c = search rules fits 100
