use Rattle.std.proofs.Common.{rules}
use Rattle.pb_grammar.proofs.parser.Parser.end.Goals as goal

pub returns-in-None : goal.returns-in-None
returns-in-None g c = search rules fits 100

pub returns-in-Some : goal.returns-in-Some
returns-in-Some g c = search rules fits 100
