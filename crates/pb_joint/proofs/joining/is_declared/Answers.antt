use Rattle.std.proofs.Common.{◌≡◌, true, refl}
use Rattle.pb_joint.specs.Joined.{IsSame}
use Rattle.pb_tree.specs.View.{resource_view}
use Rattle.pb_joint.proofs.JoinLemmas.{any_at, none_more}
use Rattle.pb_joint.proofs.joining.is_declared.Goals as goal

pub returns-then-is_same : goal.returns-then-is_same
returns-then-is_same g c =
    let same = c.is_same.ensures.0 c.if-is_same.true in (
      (λ yes. any_at resource_view (IsSame (resource_view c.args.resource.now)) c.args.there.now c.loop-other.other-index
          c.other-item.result c.loop-other-test.true c.other-item.is same),
      (λ is. refl),
    )

pub loop-other-preserved : goal.loop-other-preserved
loop-other-preserved g c =
    none_more resource_view (IsSame (resource_view c.args.resource.now)) c.args.there.now c.loop-other.other-index
    c.other-item.result c.loop-other-test.true c.other-item.is c.loop-other.invariant
    (λ same. let is : c.is_same.result ≡ true = c.is_same.ensures.1 same in
    let isnt = c.if-is_same.false in cc)
