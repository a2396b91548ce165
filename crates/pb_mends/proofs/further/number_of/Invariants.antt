use Rattle.std.proofs.Common.{◌≡◌, ◌≤◌, drop, false}
use Rattle.pb_lexer.specs.Tokens.{tokens as tokens_view}
use Rattle.pb_mends.specs.Mends.{number_from}
use Rattle.pb_mends.proofs.further.number_of.Given as goal

abbrev pub invariant-loop-token : goal.invariant-loop-token
invariant-loop-token l = record {
  bound : l.number ≤ l.token-index;
  same : number_from l.word l.name false (tokens_view l.tokens) 0
      ≡ number_from l.word l.name l.is_behind (tokens_view (drop l.token-index l.tokens)) l.number;
}
