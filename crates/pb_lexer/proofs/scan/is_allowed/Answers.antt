use Rattle.std.proofs.Common.{rules}
use Rattle.pb_lexer.proofs.scan.is_allowed.Goals as goal

pub returns-in_default-3 : goal.returns-in_default-3
returns-in_default-3 c = search rules fits 100
