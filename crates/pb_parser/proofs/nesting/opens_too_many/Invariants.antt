use Rattle.std.proofs.Common.{drop}
use Rattle.pb_lexer.specs.Tokens.{tokens}
use Rattle.pb_parser.proofs.NestingLaws.{InOpens}
use Rattle.pb_parser.proofs.nesting.opens_too_many.Given as goal

abbrev pub invariant-loop-token : goal.invariant-loop-token
invariant-loop-token l = InOpens (tokens l.tokens) (tokens (drop l.token-index l.tokens)) l.count
