use Rattle.std.proofs.Common.{◌≡◌, ◌++◌, drop, map, take}
use Rattle.pb_capitals.specs.Changes.{changes_in}
use Rattle.pb_plan_engine.proofs.ChangingLemmas.{changed_in}
use Rattle.pb_plan_engine.proofs.changing.change_capitals.Given as goal

abbrev pub invariant-loop-resource : goal.invariant-loop-resource
invariant-loop-resource g l =
    l.resource-items ≡ map (changed_in (changes_in l.changes)) (take l.resource-index l.initial.resource-items)
    ++ drop l.resource-index l.initial.resource-items
