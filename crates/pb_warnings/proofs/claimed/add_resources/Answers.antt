use Rattle.std.proofs.Common.{arith}
use Rattle.pb_warnings.proofs.Walks.{resources_more}
use Rattle.pb_warnings.proofs.claimed.add_resources.Goals as goal

pub loop-r-preserved : goal.loop-r-preserved
loop-r-preserved g c =
    resources_more c.args.text.now c.args.claims.now _ _ _ c.args.resources.now.items c.loop-r.r c.index.result.now c.index.ensures
    (omega arith) c.loop-r.invariant c.in_ok-add_resource.ensures
