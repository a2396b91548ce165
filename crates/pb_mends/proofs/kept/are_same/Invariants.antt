use Rattle.std.proofs.Common.{◌≡◌, take}
use Rattle.pb_lexer.specs.Tokens.{tokens as tokens_view}
use Rattle.pb_mends.specs.Mends.{texts}
use Rattle.pb_mends.proofs.kept.are_same.Given as goal

abbrev pub invariant-loop-i : goal.invariant-loop-i
invariant-loop-i l = take l.i (texts (tokens_view l.tokens)) ≡ take l.i (texts (tokens_view l.others))
