use Rattle.std.proofs.Common.{◌≡◌, ◌++◌, ◌≤◌, ◌+◌, vec_len, vec_capacity}
use Rattle.pb_names.specs.Source.{items_of}
use Rattle.pb_names.specs.View.{block_view}
use Rattle.pb_rewrite.specs.View.{items_view}
use Rattle.pb_rewrite.proofs.lists.with_body.Given as goal

abbrev pub invariant-loop-stmt : goal.invariant-loop-stmt
invariant-loop-stmt g l = record {
  room : vec_len l.items + vec_len l.body ≤ vec_capacity l.items;
  order : items_of (block_view l.body.items) ++ items_view l.items.items
      ≡ items_of (block_view l.initial.body.items) ++ items_view l.initial.items.items;
}

abbrev pub decreases-loop-stmt : goal.decreases-loop-stmt
decreases-loop-stmt g l = goal.left-loop-stmt g l
