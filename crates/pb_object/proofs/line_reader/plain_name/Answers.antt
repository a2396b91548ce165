use Rattle.std.proofs.Common.{rules}
use Rattle.pb_object.proofs.line_reader.plain_name.Goals as goal

pub returns : goal.returns
returns c = search rules fits 100
