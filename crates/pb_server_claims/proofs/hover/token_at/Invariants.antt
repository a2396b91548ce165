use Rattle.std.proofs.Common.{◌≡◌, map, drop}
use Rattle.std.specs.List.{find}
use Rattle.pb_lexer.specs.Tokens.{token}
use Rattle.pb_server_claims.specs.Hovers.{covers}
use Rattle.pb_server_claims.proofs.hover.token_at.Given as goal

abbrev pub invariant-loop-one : goal.invariant-loop-one
invariant-loop-one l =
    find (covers l.at) (map token (drop l.one-index l.given)) ≡ find (covers l.at) (map token l.given)
