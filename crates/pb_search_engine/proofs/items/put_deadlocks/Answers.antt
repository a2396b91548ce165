use Rattle.std.proofs.Common.{◌≤◌, ◌+◌, ◌++◌, ◌∷◌, ◌∙◌, [], append-nil, length, map, sym, ap, subst}
use Rattle.pb_base.specs.declared.limits.TheConstants.{MAX_PICKS}
use Rattle.pb_search.specs.Deadlocks.{deadlock_view}
use Rattle.pb_search.specs.declared.found.Deadlock.{Deadlock}
use Rattle.pb_search_engine.specs.Items.{given_item_view, deadlock_item, no_more}
use Rattle.pb_search_engine.proofs.PartLemmas.{all_deadlocks, deadlock_more, pushed}
use Rattle.pb_search_engine.proofs.items.put_deadlocks.Goals as goal

pub loop-i-init : goal.loop-i-init
loop-i-init c = ([], no_more, sym (append-nil (map given_item_view c.args.items.now.items)))

pub deadlock_block-requires : goal.deadlock_block-requires
deadlock_block-requires c =
    subst (λ (g : Deadlock). length g.picks.items ≤ MAX_PICKS) (sym c.index-deadlocks-i.is)
    (c.requires c.loop-i.i c.index-deadlocks-i.result c.loop-i-test.true)

pub loop-i-preserved : goal.loop-i-preserved
loop-i-preserved c =
    let f = c.index-deadlocks-i.result in
    let (so_far, are, before) = c.loop-i.invariant in
    let (picks, counted, is) = c.in_ok-block.ensures in (
      so_far ++ deadlock_item (c.loop-i.i + 1) (deadlock_view f) picks ∷ [],
      deadlock_more c.args.deadlocks.now c.loop-i.i f picks so_far c.loop-i-test.true c.index-deadlocks-i.is are counted,
      ap (map given_item_view) c.in_ok-push.ensures.items
          ∙ pushed c.loop-i.items.items _ (map given_item_view c.args.items.now.items) so_far (deadlock_item (c.loop-i.i + 1) (deadlock_view f) picks) before is,
    )

pub returns : goal.returns
returns c =
    let (more, are, is) = c.loop-i.invariant in
    (more, all_deadlocks c.args.deadlocks.now c.loop-i.i more c.loop-i-test.false are, is)
