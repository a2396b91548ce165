use Rattle.std.proofs.Common.{rules}
use Rattle.pb_debug_texts.proofs.why.first_shortage.Goals as goal

pub returns-then-cash-pair-clause-some : goal.returns-then-cash-pair-clause-some
returns-then-cash-pair-clause-some c = search rules fits 100
