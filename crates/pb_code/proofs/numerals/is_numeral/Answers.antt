use Rattle.std.proofs.Common.{rules}
use Rattle.pb_code.proofs.numerals.is_numeral.Goals as goal

pub returns-else-first-ne48 : goal.returns-else-first-ne48
returns-else-first-ne48 c = search rules fits 100
