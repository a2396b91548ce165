use Rattle.std.proofs.Common.{arith}
use Rattle.pb_tree.specs.View.{process_view}
use Rattle.pb_warnings.proofs.Walks.{integers_more}
use Rattle.pb_warnings.proofs.integers.add_integers.Goals as goal

pub loop-integer-preserved : goal.loop-integer-preserved
loop-integer-preserved g c =
    integers_more c.args.text.now (process_view c.args.process.now) _ _ _ c.deref-integer-items.result.now c.loop-integer.integer-index
    c.integer-item.result c.integer-item.is (omega arith) c.loop-integer.invariant c.in_ok-add_integer.ensures
