use Rattle.std.proofs.Common.{◌≡◌, ◌+◌, ◌*◌, take}
use Rattle.pb_tree.specs.Measure.{stmt_nodes, stmts_nodes, arms_nodes}
use Rattle.pb_tree.specs.View.{stmt_view, stmts_view, arms_view}
use Rattle.pb_names.specs.Limits.{inner_arms, inner_arms_of_arms}
use Rattle.pb_names.specs.Program.{IsNumbered, AreNumbered}
use Rattle.pb_names.specs.Resolves.{ResolvesStmts, ResolvesArms}
use Rattle.pb_names.specs.Search.{names_in}
use Rattle.pb_names.specs.View.{block_view, arms_view as arms_of}
use Rattle.pb_resolver.proofs.resolver.+numbering.Given as goal

abbrev pub decreases-number_stmt : goal.decreases-number_stmt
decreases-number_stmt g l = 3 * stmt_nodes (stmt_view l.stmt.now)

abbrev pub decreases-number_list : goal.decreases-number_list
decreases-number_list g l = 3 * stmts_nodes (stmts_view l.stmts.now.items) + 1

abbrev pub decreases-number_arms : goal.decreases-number_arms
decreases-number_arms g l = 3 * arms_nodes (arms_view l.arms.now.items) + 2

abbrev pub invariant-number_list-loop-stmt : goal.invariant-number_list-loop-stmt
invariant-number_list-loop-stmt g l = record {
  resolves : ResolvesStmts (names_in l.integers) (names_in l.resources)
      (stmts_view (take l.stmt-index l.stmt-items)) (block_view l.list.items);
  numbered : IsNumbered l.fn.next (block_view l.list.items);
  next : l.next ≡ l.fn.next + inner_arms (stmts_view (take l.stmt-index l.stmt-items));
}

abbrev pub invariant-number_arms-loop-arm : goal.invariant-number_arms-loop-arm
invariant-number_arms-loop-arm g l = record {
  resolves : ResolvesArms (names_in l.integers) (names_in l.resources)
      (arms_view (take l.arm-index l.arm-items)) (arms_of l.list.items);
  numbered : AreNumbered l.fn.next (arms_of l.list.items);
  next : l.next ≡ l.fn.next + inner_arms_of_arms (arms_view (take l.arm-index l.arm-items));
}
