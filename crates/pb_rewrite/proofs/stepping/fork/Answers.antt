use Rattle.std.proofs.Common.{ap, refl, ◌∙◌}
use Rattle.pb_names.specs.Source as plain
use Rattle.pb_rewrite.specs.View.{items_view}
use Rattle.pb_rewrite.proofs.PushedItems.{kept_fork}
use Rattle.pb_rewrite.proofs.Views.{view-Waiting}
use Rattle.pb_rewrite.proofs.stepping.fork.Goals as goal

pub returns-in-Ok-clause-ok : goal.returns-in-Ok-clause-ok
returns-in-Ok-clause-ok g c = (
  refl,
  view-Waiting c.args.line c.args.first c.fresh_arms.result c.args.items
      ∙ ap (λ r. plain.Waiting c.args.line c.args.first r (items_view c.args.items.items)) c.fresh_arms.ensures,
)

pub returns-in-Err-clause-err : goal.returns-in-Err-clause-err
returns-in-Err-clause-err g c =
    kept_fork c.with_first.result (items_view c.args.items.items) c.args.line c.args.first c.args.bodies c.with_first.ensures.items
