use Rattle.std.proofs.Common.{◌≡◌, map, drop}
use Rattle.pb_lexer.specs.Tokens.{token}
use Rattle.pb_outline.specs.Extents.{tokens_from}
use Rattle.pb_outline.proofs.extent.tokens_from.Given as goal

abbrev pub invariant-loop-i : goal.invariant-loop-i
invariant-loop-i l =
    tokens_from l.at (map token (drop l.i l.given)) ≡ tokens_from l.at (map token l.given)
