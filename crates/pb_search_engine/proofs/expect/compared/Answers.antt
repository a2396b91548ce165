use Rattle.std.proofs.Common.{◌≤◌, List, length, map, sym, subst, arith}
use Rattle.std.specs.Prelude.{All}
use Rattle.std.proofs.lemmas.List.{length-map}
use Rattle.std.proofs.lemmas.Result.{MatchResult-weaker}
use Rattle.pb_base.specs.declared.limits.TheConstants.{MAX_PICKS}
use Rattle.pb_code.proofs.ListElements.{read_mapped}
use Rattle.pb_search.proofs.OutcomeLists.{if_some}
use Rattle.pb_search.specs.Outcomes.{found_view}
use Rattle.pb_search.specs.declared.found.Found.{Found}
use Rattle.pb_search.specs.declared.found.Until.TheVariants.{FirstDeadlock}
use Rattle.pb_search_engine.specs.Expected.{IsFirstOther, IsWanted, printing}
use Rattle.pb_options.specs.Lends.{lending_for}
use Rattle.pb_search_engine.proofs.ExpectLemmas.{if_none, no_other_said, other_said, tells_here}
use Rattle.pb_search_engine.proofs.OutcomeLemmas.{found_few, some_told}
use Rattle.pb_search_engine.proofs.expect.compared.Goals as goal

pub other_outcome-requires : goal.other_outcome-requires
other_outcome-requires c =
    let lending = lending_for c.args.options.lend in
    let v = c.args.compiled.now.verified in
    let told = c.in_ok-told.told in
    let some = some_told (printing lending) v.code FirstDeadlock c.args.options.states told
    (tells_here v c.verified-verified.result.now c.verified-verified.ensures c.mode-mode.result lending c.mode-mode.ensures c.args.options.states told
    c.in_ok-told.ensures) in
    let first = if_some (IsFirstOther c.args.wanted.any_order c.args.wanted.prints.now (map found_view c.deref.result.now)) _ c.in-Some.at c.in-Some.is
    c.in_ok-at.ensures.some in
    let there = first.there in
    let size = length-map c.deref.result.now found_view in
    let same = c.deref.ensures.len in
    subst (λ (f : Found). length f.picks.items ≤ MAX_PICKS) (sym c.index.ensures)
    (found_few (printing lending) v.code told.found.items some.0 c.in-Some.at c.index.result.now (omega (arith, there, size, same)))

pub no_other-requires : goal.no_other-requires
no_other-requires c =
    let lending = lending_for c.args.options.lend in
    let v = c.args.compiled.now.verified in
    let told = c.in_ok-told.told in
    let some = some_told (printing lending) v.code FirstDeadlock c.args.options.states told
    (tells_here v c.verified-verified.result.now c.verified-verified.ensures c.mode-mode.result lending c.mode-mode.ensures c.args.options.states told
    c.in_ok-told.ensures) in
    record { some = (lending, some) }

pub returns-in-Some : goal.returns-in-Some
returns-in-Some c =
    let lending = lending_for c.args.options.lend in
    let v = c.args.compiled.now.verified in
    let told = c.in_ok-told.told in
    let first = subst (λ (fs : List Found). IsFirstOther c.args.wanted.any_order c.args.wanted.prints.now (map found_view fs) c.in-Some.at)
    c.deref.ensures.value
    (if_some (IsFirstOther c.args.wanted.any_order c.args.wanted.prints.now (map found_view c.deref.result.now)) _ c.in-Some.at c.in-Some.is
    c.in_ok-at.ensures.some) in
    let there = first.there in
    let size = length-map told.found.items found_view in
    MatchResult-weaker c.other_outcome.result c.other_outcome.ensures
    (λ a h. other_said c.args.options.fair lending c.args.wanted.any_order c.args.wanted.prints.now v.code c.args.options.states told
    (tells_here v c.verified-verified.result.now c.verified-verified.ensures c.mode-mode.result lending c.mode-mode.ensures c.args.options.states told
    c.in_ok-told.ensures) c.in-Some.at first (found_view c.index.result.now)
    (read_mapped found_view told.found.items c.in-Some.at c.index.result.now (omega (arith, there, size)) c.index.ensures) _ a.status h.0 h.1)
    (λ e h. h)

pub returns : goal.returns
returns c =
    let lending = lending_for c.args.options.lend in
    let v = c.args.compiled.now.verified in
    let told = c.in_ok-told.told in
    let all = subst (λ (fs : List Found). All (λ f. IsWanted c.args.wanted.any_order c.args.wanted.prints.now f.outcome) (map found_view fs))
    c.deref.ensures.value
    (if_none (All (λ f. IsWanted c.args.wanted.any_order c.args.wanted.prints.now f.outcome) (map found_view c.deref.result.now)) _ c.in-None.is
    c.in_ok-at.ensures.none) in
    MatchResult-weaker c.no_other.result c.no_other.ensures
    (λ a h. no_other_said c.args.options.fair lending c.args.wanted.any_order c.args.wanted.prints.now v.code c.args.options.states told
    (tells_here v c.verified-verified.result.now c.verified-verified.ensures c.mode-mode.result lending c.mode-mode.ensures c.args.options.states told
    c.in_ok-told.ensures) all _ a.status h)
    (λ e h. h)
