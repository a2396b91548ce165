use Rattle.std.proofs.Common.{rules}
use Rattle.pb_object.proofs.reader.process_count_at.Goals as goal

pub returns-in-One : goal.returns-in-One
returns-in-One c = search rules fits 100
