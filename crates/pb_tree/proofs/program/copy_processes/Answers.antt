use borrow.Author.Count.{falls}
use Rattle.std.proofs.Common.{map, ap, ◌∙◌}
use Rattle.pb_tree.specs.View.{process_view}
use Rattle.pb_tree.proofs.Copies.{copied_more, copied_all}
use Rattle.pb_tree.proofs.program.copy_processes.Goals as goal

pub loop-item-init : goal.loop-item-init
loop-item-init g c = ap (map process_view) c.new-copy.ensures.items

pub loop-item-preserved : goal.loop-item-preserved
loop-item-preserved g c =
    copied_more process_view process_view _ _ _ _ _ _ c.loop-item.invariant c.loop-item-test.true c.item-item.is
    c.in_ok-push.ensures.items c.in_ok-copy_into.ensures

pub loop-item-smaller : goal.loop-item-smaller
loop-item-smaller g c = falls _ _ c.loop-item-test.true

pub returns : goal.returns
returns g c =
    copied_all process_view process_view _ _ _ c.loop-item.invariant c.loop-item-test.false
    ∙ ap (map process_view) c.deref-item-items.ensures.value
