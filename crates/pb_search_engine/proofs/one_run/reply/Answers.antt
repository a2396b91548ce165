use Rattle.std.proofs.Common.{◌≡◌, ◌++◌, ◌≤◌, ℕ, List, length, refl, sym, subst}
use Rattle.std.specs.Prelude.{All}
use Rattle.pb_base.specs.Lines.{HasProcess, names_view}
use Rattle.pb_command_io.specs.declared.status.Status.{Status}
use Rattle.pb_base.specs.declared.limits.TheConstants.{MAX_PICKS}
use Rattle.pb_base.specs.declared.pick.Pick.{Pick}
use Rattle.pb_accept.specs.RunTexts.{SaysOfRunText}
use Rattle.pb_code.specs.View.{code_view}
use Rattle.pb_command_io.proofs.InputLemmas.{replied_too}
use Rattle.pb_history.specs.declared.counted.CountedPick.{CountedPick}
use Rattle.pb_search.specs.declared.found.Until.{Until}
use Rattle.pb_search_stages.specs.declared.print.Mode.{Mode}
use Rattle.pb_search_engine.specs.OutcomeLines.{last_line}
use Rattle.pb_search_engine.specs.SaysOfOne.{SaysOfOneRun, none_line, none_status}
use Rattle.pb_search_engine.specs.SaysOutcomes.{mode_for, until_for}
use Rattle.pb_search_engine.specs.Showing.{HaveProcesses}
use Rattle.pb_search_engine.proofs.CountLemmas.{counted_too}
use Rattle.pb_search_engine.proofs.OneRunLemmas.{none_said, picks_hold, run_said}
use Rattle.pb_search_engine.proofs.OutcomeLemmas.{deadlocks_few, deadlocks_here, found_few, found_here, some_told}
use Rattle.pb_search_engine.proofs.one_run.reply.Goals as goal

pub count_picks-requires : goal.count_picks-requires
count_picks-requires c =
    let told = c.in_ok-told.told in
    let mode = c.mode-mode.result in
    let code = c.verified-verified.result.now.code in
    let some = some_told mode code c.until-until.result c.args.options.states told c.in_ok-told.ensures in
    picks_hold (λ (picks : List Pick). length picks ≤ MAX_PICKS) c.args.target told.found.items told.deadlocks.items c.in-Some.picks.now
    (found_few mode code told.found.items some.0) (deadlocks_few mode code told.deadlocks.items some.1) (sym c.in-Some.ensures)

pub run_text-requires : goal.run_text-requires
run_text-requires c =
    let told = c.in_ok-told.told in
    let mode = c.mode-mode.result in
    let v = c.args.compiled.now.verified in
    let seen = c.verified-verified.result.now in
    let code = code_view c.code-code.result.now in
    let names = names_view c.code-code.result.now.names in
    let labels = c.args.compiled.now.labels in
    let some = some_told mode seen.code c.until-until.result c.args.options.states told c.in_ok-told.ensures in
    subst (λ (cs : List CountedPick). All (λ c. HasProcess names c.pick.process) cs) (sym c.deref.ensures.value)
    (counted_too (λ pick. HasProcess names pick.process) c.in-Some.picks.now c.in_ok-counted-in-Some.counted.items
    c.in_ok-counted-in-Some.ensures
    (picks_hold (HaveProcesses names) c.args.target told.found.items told.deadlocks.items c.in-Some.picks.now
    (found_here mode v seen c.verified-verified.ensures code c.code-code.ensures.code labels labels refl told.found.items some.0
    c.code-code.ensures.verified)
    (deadlocks_here mode v seen c.verified-verified.ensures code c.code-code.ensures.code labels labels refl told.deadlocks.items some.1
    c.code-code.ensures.verified)
    (sym c.in-Some.ensures)))

pub returns-in-Some : goal.returns-in-Some
returns-in-Some c =
    let target = c.args.target in
    let v = c.args.compiled.now.verified in
    let code = code_view c.code-code.result.now in
    let states = c.args.options.states in
    let bytes = c.args.text.now in
    replied_too (SaysOfRunText bytes (names_view c.code-code.result.now.names) c.deref.result.now)
    (SaysOfOneRun target (mode_for c.args.options.lend c.args.options.prints) (until_for c.args.options.first_deadlock) v.code states bytes)
    c.run_text.result
    (λ text status says.
    subst (λ (until : Until). SaysOfOneRun target (mode_for c.args.options.lend c.args.options.prints) until v.code states bytes text status)
    c.until-until.ensures
    (subst (λ (mode : Mode). SaysOfOneRun target mode c.until-until.result v.code states bytes text status) c.mode-mode.ensures
    (run_said target c.mode-mode.result c.until-until.result v c.verified-verified.result.now c.verified-verified.ensures code
    c.code-code.ensures.code states c.in_ok-told.told c.in_ok-told.ensures bytes c.in-Some.picks.now (sym c.in-Some.ensures)
    c.in_ok-counted-in-Some.counted.items c.deref.result.now c.deref.ensures.value c.in_ok-counted-in-Some.ensures text status says)))
    c.run_text.ensures

pub returns : goal.returns
returns c =
    let target = c.args.target in
    let v = c.args.compiled.now.verified in
    let code = code_view c.code-code.result.now in
    let states = c.args.options.states in
    let bytes = c.args.text.now in
    let told = c.in_ok-told.told in
    replied_too (λ (text : List ℕ) (status : Status).
    (text ≡ none_line target ++ last_line states (length told.found.items) (length told.deadlocks.items) told.extent)
    × (status ≡ none_status told.extent))
    (SaysOfOneRun target (mode_for c.args.options.lend c.args.options.prints) (until_for c.args.options.first_deadlock) v.code states bytes)
    c.no_run.result
    (λ text status says.
    subst (λ (until : Until). SaysOfOneRun target (mode_for c.args.options.lend c.args.options.prints) until v.code states bytes text status)
    c.until-until.ensures
    (subst (λ (mode : Mode). SaysOfOneRun target mode c.until-until.result v.code states bytes text status) c.mode-mode.ensures
    (none_said target c.mode-mode.result c.until-until.result v c.verified-verified.result.now c.verified-verified.ensures code
    c.code-code.ensures.code states told c.in_ok-told.ensures bytes (sym c.in-None.ensures) text status says)))
    c.no_run.ensures
