use Rattle.std.proofs.Common.{◌≡◌, ◌≤◌, ◌++◌, drop, map}
use Rattle.pb_lexer.specs.Tokens.{token}
use Rattle.pb_outline.specs.Declares as spec
use Rattle.pb_outline.specs.Places.{place}
use Rattle.pb_outline.proofs.reading.declared_by.Given as goal

abbrev pub invariant-loop-i : goal.invariant-loop-i
invariant-loop-i l =
    (map place l.found.items ++ spec.declared_from l.reading (map token (drop l.i l.tokens)) ≡ spec.declared_by (map token l.tokens))
    × (l.reading.processes ≤ l.i)
