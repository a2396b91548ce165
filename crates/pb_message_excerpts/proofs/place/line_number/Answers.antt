use Rattle.std.proofs.Common.{rules}
use Rattle.pb_message_excerpts.proofs.place.line_number.Goals as goal

pub returns : goal.returns
returns c = search rules fits 100
