use Rattle.std.proofs.Common.{◌≤◌, ◌+◌, ◌++◌, ◌∷◌, ◌∙◌, [], append-nil, length, map, sym, ap, subst}
use Rattle.pb_base.specs.declared.limits.TheConstants.{MAX_PICKS}
use Rattle.pb_search.specs.Outcomes.{found_view}
use Rattle.pb_search.specs.declared.found.Found.{Found}
use Rattle.pb_search_engine.specs.Items.{given_item_view, outcome_item, none}
use Rattle.pb_search_engine.proofs.PartLemmas.{all_outcomes, outcome_more, pushed}
use Rattle.pb_search_engine.proofs.items.put_found.Goals as goal

pub loop-i-init : goal.loop-i-init
loop-i-init c = ([], none, sym (append-nil (map given_item_view c.args.items.now.items)))

pub outcome_block-requires : goal.outcome_block-requires
outcome_block-requires c =
    subst (λ (g : Found). length g.picks.items ≤ MAX_PICKS) (sym c.index-found-i.is)
    (c.requires c.loop-i.i c.index-found-i.result c.loop-i-test.true)

pub loop-i-preserved : goal.loop-i-preserved
loop-i-preserved c =
    let f = c.index-found-i.result in
    let (so_far, are, before) = c.loop-i.invariant in
    let (picks, counted, is) = c.in_ok-block.ensures in (
      so_far ++ outcome_item (c.loop-i.i + 1) (found_view f).outcome picks ∷ [],
      outcome_more c.args.found.now c.loop-i.i f picks so_far c.loop-i-test.true c.index-found-i.is are counted,
      ap (map given_item_view) c.in_ok-push.ensures.items
          ∙ pushed c.loop-i.items.items _ (map given_item_view c.args.items.now.items) so_far (outcome_item (c.loop-i.i + 1) (found_view f).outcome picks) before is,
    )

pub returns : goal.returns
returns c =
    let (more, are, is) = c.loop-i.invariant in
    (more, all_outcomes c.args.found.now c.loop-i.i more c.loop-i-test.false are, is)
