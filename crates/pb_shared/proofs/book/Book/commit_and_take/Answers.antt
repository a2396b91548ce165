use Rattle.std.proofs.Common.{rules}
use Rattle.pb_shared.proofs.book.Book.commit_and_take.Goals as goal

pub returns-in-Ok-clause-ok : goal.returns-in-Ok-clause-ok
returns-in-Ok-clause-ok g c = search rules fits 100
