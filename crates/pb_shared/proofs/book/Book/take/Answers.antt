use Rattle.std.proofs.Common.{rules}
use Rattle.pb_shared.proofs.book.Book.take.Goals as goal

pub over_or_idle-requires-after_bounds : goal.over_or_idle-requires-after_bounds
over_or_idle-requires-after_bounds g c κs within = search rules fits 100
