use Rattle.std.proofs.Common.{rules}
use Rattle.pb_lexer.proofs.token.Token.end.Goals as goal

pub returns : goal.returns
returns c = search rules fits 100
