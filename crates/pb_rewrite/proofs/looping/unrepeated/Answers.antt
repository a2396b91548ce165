use Rattle.pb_rewrite.specs.View.{items_view}
use Rattle.pb_rewrite.proofs.PushedItems.{kept_loop}
use Rattle.pb_rewrite.proofs.looping.unrepeated.Goals as goal

pub returns : goal.returns
returns g c =
    kept_loop c.with_first.result (items_view c.args.items.items) c.args.line c.args.test c.args.left c.args.body
    c.with_first.ensures.items
