use Rattle.pb_names.specs.View.{block_view}
use Rattle.pb_claims.proofs.Rows.{row_more}
use Rattle.pb_claims.proofs.inference.row_of.Goals as goal

pub loop-r-preserved : goal.loop-r-preserved
loop-r-preserved g c =
    row_more (block_view c.args.body.now.items) c.loop-r.r c.peak_of_list.result c.loop-r.row.items c.push.new.self.items
    c.loop-r.invariant c.peak_of_list.ensures c.in_ok-push.ensures.items
