use Rattle.std.proofs.Common.{rules}
use Rattle.pb_lexer.proofs.words.of_six.Goals as goal
use Rattle.pb_lexer.proofs.Spellings.{none_of_six}

pub returns-then-eq : goal.returns-then-eq
returns-then-eq c = search (rules, none_of_six) fits 100
