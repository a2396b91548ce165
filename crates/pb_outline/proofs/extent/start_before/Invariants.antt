use Rattle.std.proofs.Common.{◌≡◌, map, drop}
use Rattle.pb_lexer.specs.Tokens.{token}
use Rattle.pb_outline.specs.Extents.{start_before}
use Rattle.pb_outline.proofs.extent.start_before.Given as goal

abbrev pub invariant-loop-t : goal.invariant-loop-t
invariant-loop-t l =
    start_before l.before l.at (map token (drop l.t-index l.given)) ≡ start_before l.at l.at (map token l.given)
