use Rattle.std.proofs.Common.{◌≡◌, ◌++◌, List, map, take}
use Rattle.pb_search.specs.Outcomes.{found_view}
use Rattle.pb_search_engine.specs.Items.{AreOutcomeItems, Item, given_item_view}
use Rattle.pb_search_engine.proofs.items.put_found.Given as goal

abbrev pub invariant-loop-i : goal.invariant-loop-i
invariant-loop-i l =
    (more : List Item) × AreOutcomeItems (take l.i (map found_view l.found)) more
    × (map given_item_view l.items.items ≡ map given_item_view l.initial.items.items ++ more)
