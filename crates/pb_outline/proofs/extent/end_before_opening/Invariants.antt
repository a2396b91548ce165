use Rattle.std.proofs.Common.{◌≡◌, map, drop}
use Rattle.pb_lexer.specs.Tokens.{token}
use Rattle.pb_outline.specs.Extents.{end_before_opening}
use Rattle.pb_outline.proofs.extent.end_before_opening.Given as goal

abbrev pub invariant-loop-t : goal.invariant-loop-t
invariant-loop-t l =
    end_before_opening l.end (map token (drop l.t-index l.given)) ≡ end_before_opening l.at (map token l.given)
