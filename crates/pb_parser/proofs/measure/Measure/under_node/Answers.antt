use Rattle.std.proofs.Common.{rules}
use Rattle.pb_parser.proofs.measure.Measure.under_node.Goals as goal

pub returns : goal.returns
returns c = search rules fits 100
