use Rattle.std.proofs.Common.{map}
use Rattle.pb_search_engine.specs.Items.{fair_item, given_item_view}
use Rattle.pb_search_engine.specs.SaysOutcomes.{mode_for, until_for}
use Rattle.pb_search_engine.proofs.FairLemmas.{item_behind, says_fairly, says_plainly}
use Rattle.pb_search_engine.proofs.all.all_found.Goals as goal

pub returns-then-not-options-clause-said : goal.returns-then-not-options-clause-said
returns-then-not-options-clause-said c =
    says_plainly c.args.options.fair (mode_for c.args.options.lend c.args.options.prints) (until_for c.args.options.first_deadlock)
    c.args.compiled.now.verified.code c.args.options.states _ _ c.if-not-options.true c.in_ok-found.ensures.said

pub returns-clause-said : goal.returns-clause-said
returns-clause-said c =
    says_fairly c.args.options.fair (mode_for c.args.options.lend c.args.options.prints) (until_for c.args.options.first_deadlock)
    c.args.compiled.now.verified.code c.args.options.states (map given_item_view c.in_ok-found.found.answer.items.items)
    c.in_ok-found.found.answer.status c.in_ok-told.told _ _ c.if-not-options.false c.in_ok-found.ensures.said
    c.in_ok-told.ensures (item_behind c.in_ok-found.found.answer.items.items _ _ (fair_item c.args.options.states c.in_ok-told.told) c.in_ok-push.ensures.items c.fair_item.ensures) c.status_with.ensures
