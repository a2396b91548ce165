use Rattle.std.proofs.Common.{◌≡◌, ◌++◌, List, map, take}
use Rattle.pb_search.specs.Deadlocks.{deadlock_view}
use Rattle.pb_search_engine.specs.Items.{AreDeadlockItems, Item, given_item_view}
use Rattle.pb_search_engine.proofs.items.put_deadlocks.Given as goal

abbrev pub invariant-loop-i : goal.invariant-loop-i
invariant-loop-i l =
    (more : List Item) × AreDeadlockItems (take l.i (map deadlock_view l.deadlocks)) more
    × (map given_item_view l.items.items ≡ map given_item_view l.initial.items.items ++ more)
