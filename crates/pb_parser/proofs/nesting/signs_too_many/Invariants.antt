use Rattle.std.proofs.Common.{drop}
use Rattle.pb_lexer.specs.Tokens.{tokens}
use Rattle.pb_parser.proofs.NestingLaws.{InSigns}
use Rattle.pb_parser.proofs.nesting.signs_too_many.Given as goal

abbrev pub invariant-loop-token : goal.invariant-loop-token
invariant-loop-token l = InSigns (tokens l.tokens) (tokens (drop l.token-index l.tokens)) l.count
