use borrow.Author.Count.{falls}
use Rattle.std.proofs.Common.{map, ap, ◌∙◌}
use Rattle.pb_tree.specs.View.{demand_view}
use Rattle.pb_tree.proofs.Copies.{copied_more, copied_all}
use Rattle.pb_tree.proofs.stmt.copy_demands.Goals as goal

pub loop-demand-init : goal.loop-demand-init
loop-demand-init g c = ap (map demand_view) c.new-copy.ensures.items

pub loop-demand-preserved : goal.loop-demand-preserved
loop-demand-preserved g c =
    copied_more demand_view demand_view _ _ _ _ _ _ c.loop-demand.invariant c.loop-demand-test.true c.demand-item.is
    c.in_ok-push.ensures.items c.in_ok-copy_into.ensures

pub loop-demand-smaller : goal.loop-demand-smaller
loop-demand-smaller g c = falls _ _ c.loop-demand-test.true

pub returns : goal.returns
returns g c =
    copied_all demand_view demand_view _ _ _ c.loop-demand.invariant c.loop-demand-test.false
    ∙ ap (map demand_view) c.deref-demand-items.ensures.value
