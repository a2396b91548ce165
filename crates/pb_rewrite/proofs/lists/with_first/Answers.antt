use Rattle.std.proofs.Common.{arith, ap, ◌∙◌}
use Rattle.pb_rewrite.specs.View.{items_view}
use Rattle.pb_rewrite.proofs.ReversedLists.{items_view-push}
use Rattle.pb_rewrite.proofs.lists.with_first.Goals as goal

pub returns : goal.returns
returns g c = record {
  items = ap items_view c.push_reserved.ensures.items ∙ items_view-push c.args.items.items c.args.first;
  len = c.push_reserved.ensures.len;
  capacity = omega (arith, c.push_reserved.ensures.capacity);
}
