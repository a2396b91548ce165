use Rattle.std.proofs.Common.{◌∙◌, ap, map, subst}
use Rattle.pb_search.specs.Deadlocks.{deadlock_view}
use Rattle.pb_search.specs.Outcomes.{IsBounded, found_view}
use Rattle.pb_search.specs.declared.found.Until.{Until}
use Rattle.pb_search_stages.specs.declared.print.Mode.{Mode}
use Rattle.pb_search_engine.specs.Items.{given_item_view}
use Rattle.pb_search_engine.specs.SaysOutcomes.{SaysOfSearch, mode_for, status_of}
use Rattle.pb_search_engine.proofs.FairLemmas.{bounded_told}
use Rattle.pb_search_engine.proofs.OutcomeLemmas.{deadlocks_few, found_few, says_told, some_told}
use Rattle.pb_verifier.specs.Verified.{VerifiedCode}
use Rattle.pb_search_engine.proofs.all.found.Goals as goal

pub found_items-requires-clause-found : goal.found_items-requires-clause-found
found_items-requires-clause-found c =
    let told = c.in_ok-told.told in
    found_few c.mode-mode.result c.verified-verified.result.now.code told.found.items
    (some_told c.mode-mode.result c.verified-verified.result.now.code c.until-until.result c.args.options.states told c.in_ok-told.ensures).0

pub found_items-requires-clause-deadlocks : goal.found_items-requires-clause-deadlocks
found_items-requires-clause-deadlocks c =
    let told = c.in_ok-told.told in
    deadlocks_few c.mode-mode.result c.verified-verified.result.now.code told.deadlocks.items
    (some_told c.mode-mode.result c.verified-verified.result.now.code c.until-until.result c.args.options.states told c.in_ok-told.ensures).1

pub returns-clause-said : goal.returns-clause-said
returns-clause-said c =
    let told = c.in_ok-told.told in
    let (outcomes, stuck, are, stuck_are, is) = c.in_ok-items.ensures in
    let items = map given_item_view c.in_ok-items.items.items in
    subst (λ (until : Until). SaysOfSearch (mode_for c.args.options.lend c.args.options.prints) until c.args.compiled.now.verified.code
    c.args.options.states items c.status.result) c.until-until.ensures
    (subst (λ (mode : Mode). SaysOfSearch mode c.until-until.result c.args.compiled.now.verified.code c.args.options.states
    items c.status.result) c.mode-mode.ensures
    (says_told c.mode-mode.result c.args.compiled.now.verified c.verified-verified.result.now c.verified-verified.ensures
    c.until-until.result told c.args.options.states outcomes stuck items c.status.result c.in_ok-told.ensures are stuck_are is
    (c.status.ensures.of ∙ ap (status_of told.extent) (c.len.ensures ∙ told.deadlocks.ok.0))))

pub returns-clause-all_end : goal.returns-clause-all_end
returns-clause-all_end c = λ ends.
    let told = c.in_ok-told.told in
    let bounded = bounded_told c.mode-mode.result c.verified-verified.result.now.code c.until-until.result c.args.options.states
    (map found_view told.found.items) (map deadlock_view told.deadlocks.items) told.extent (c.all_end.ensures ends) c.in_ok-told.ensures in
    subst (λ (mode : Mode). IsBounded mode c.args.compiled.now.verified.code) c.mode-mode.ensures
    (subst (λ (v : VerifiedCode). IsBounded c.mode-mode.result v.code) c.verified-verified.ensures bounded)
