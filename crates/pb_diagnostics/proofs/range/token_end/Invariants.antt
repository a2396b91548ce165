use Rattle.std.proofs.Common.{◌≡◌, map}
use Rattle.std.specs.List.{find}
use Rattle.pb_diagnostics.specs.Ranges.{begins_at}
use Rattle.pb_diagnostics.proofs.TokenLemmas.{token_from}
use Rattle.pb_lexer.specs.Tokens.{token}
use Rattle.pb_diagnostics.proofs.range.token_end.Given as goal

abbrev pub invariant-loop-i : goal.invariant-loop-i
invariant-loop-i l = token_from l.at l.tokens l.i ≡ find (begins_at l.at) (map token l.tokens)
