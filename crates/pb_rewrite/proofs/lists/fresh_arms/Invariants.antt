use Rattle.std.proofs.Common.{◌≡◌, ◌++◌, ◌≤◌, length, vec_len, vec_capacity}
use Rattle.std.specs.Vec.Iter.{into_iter_items}
use Rattle.pb_names.specs.Source.{begin}
use Rattle.pb_names.specs.View.{arms_view}
use Rattle.pb_rewrite.specs.View.{running_view}
use Rattle.pb_rewrite.proofs.lists.fresh_arms.Given as goal

abbrev pub invariant-loop-body : goal.invariant-loop-body
invariant-loop-body g l = record {
  seen : l.yielded ++ into_iter_items l.body-iterator ≡ l.fn.bodies.items;
  count : vec_len l.arms ≡ length l.yielded;
  room : vec_len l.fn.bodies ≤ vec_capacity l.arms;
  made : running_view l.arms.items ≡ begin (arms_view l.yielded);
}
