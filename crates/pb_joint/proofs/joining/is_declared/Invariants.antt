use Rattle.std.proofs.Common.{ℕ, ◌<◌, map, get_or}
use Rattle.pb_tree.specs.Syntax.{ResourceSyntax}
use Rattle.pb_joint.specs.Joined.{IsSame}
use Rattle.pb_tree.specs.View.{resource_view}
use Rattle.pb_joint.proofs.joining.is_declared.Given as goal

abbrev pub invariant-loop-other : goal.invariant-loop-other
invariant-loop-other g l =
    (k : ℕ) (d : ResourceSyntax) → k < l.other-index
    → ¬ IsSame (resource_view l.resource) (get_or (map resource_view l.there) k d)
