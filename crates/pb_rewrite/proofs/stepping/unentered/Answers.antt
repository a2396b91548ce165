use Rattle.pb_rewrite.specs.View.{items_view}
use Rattle.pb_rewrite.proofs.PushedItems.{kept_hold}
use Rattle.pb_rewrite.proofs.stepping.unentered.Goals as goal

pub returns : goal.returns
returns g c =
    kept_hold c.with_first.result (items_view c.args.items.items) c.args.line c.args.bundle c.args.body c.with_first.ensures.items
