use Rattle.std.proofs.Common.{List, ap, map, sym, subst, ◌∙◌, IfOk}
use Rattle.std.proofs.lemmas.Result.{MatchResult-weaker}
use Rattle.pb_code.specs.Limits.{KeepsLimits}
use Rattle.pb_code.specs.View.{code_view}
use Rattle.pb_code.specs.Whole.{Code}
use Rattle.pb_options.specs.Lends.{lending_for}
use Rattle.pb_search.proofs.OutcomeLists.{if_some}
use Rattle.pb_search_engine.specs.Items.{given_item_view}
use Rattle.pb_search_engine.specs.Requirements.{AreMet, IsFirstUnmet}
use Rattle.pb_search_engine.specs.SaysExpected.{SaysOfRuns}
use Rattle.pb_search_engine.specs.declared.requirements.Requirement.{Requirement}
use Rattle.pb_search_engine.proofs.ExpectLemmas.{if_none, met_said, runs_ended, unmet_said}
use Rattle.pb_search_engine.proofs.TellLemmas.{found_is_told}
use Rattle.pb_search_stages.specs.declared.print.Print.{Print}
use Rattle.pb_verifier.specs.Verified.{VerifiedCode}
use Rattle.pb_verifier.specs.declared.fault.VerifyFault.TheVariants.{OutOfLimits}
use Rattle.pb_voice.specs.Held.{at}
use Rattle.pb_search_engine.proofs.expect.tell_asked.Goals as goal

pub first_unmet-requires : goal.first_unmet-requires
first_unmet-requires g c = subst KeepsLimits (sym c.code-code.ensures.code) (c.code-code.ensures.verified.faultless OutOfLimits)

pub tell_answer-requires : goal.tell_answer-requires
tell_answer-requires g c =
    MatchResult-weaker c.compared-found.result c.compared-found.ensures
    (λ a says. runs_ended c.args.options.fair (lending_for c.args.options.lend) c.args.options.any_order c.deref-in-None.result.now
    c.args.compiled.now.verified.code c.args.options.states (map given_item_view a.items.items) a.status says)
    (λ e h. h)

pub returns-in-Some : goal.returns-in-Some
returns-in-Some g c =
    let same = c.code-code.ensures.code ∙ ap (λ (v : VerifiedCode). v.code) c.verified.ensures in
    let first = if_some (IsFirstUnmet (code_view c.code-code.result.now) c.deref.result.now) _ c.in-Some.requirement c.in-Some.is
    c.first_unmet.ensures.some in
    unmet_said g.T.Teller.tells g.T.Teller.breaks (at g.O.Output.written g.O.Output.failures c.args.teller.now c.args.output.now)
    (at g.O.Output.written g.O.Output.failures c.tell_last.new.teller c.tell_last.new.output) c.tell_last.result c.args.options.fair
    (lending_for c.args.options.lend) c.args.options.any_order c.args.compiled.now.verified.code c.args.compiled.now.labels c.args.options.states
    c.args.asked.now.requirements.items c.args.asked.now.prints.items c.in-Some.requirement
    (subst (λ (code : Code). IsFirstUnmet code c.args.asked.now.requirements.items c.in-Some.requirement) same
    (subst (λ (l : List Requirement). IsFirstUnmet (code_view c.code-code.result.now) l c.in-Some.requirement) c.deref.ensures.value first))
    c.tell_last.ensures

pub returns-in-None : goal.returns-in-None
returns-in-None g c =
    let same = c.code-code.ensures.code ∙ ap (λ (v : VerifiedCode). v.code) c.verified.ensures in
    let all = if_none (AreMet (code_view c.code-code.result.now) c.deref.result.now) _ c.in-None.is c.first_unmet.ensures.none in
    let code = c.args.compiled.now.verified.code in
    let old = at g.O.Output.written g.O.Output.failures c.args.teller.now c.args.output.now in
    let new = at g.O.Output.written g.O.Output.failures c.tell_answer.new.teller c.tell_answer.new.output in
    met_said g.T.Teller.tells g.T.Teller.breaks old new c.tell_answer.result c.args.options.fair
    (lending_for c.args.options.lend) c.args.options.any_order code c.args.compiled.now.labels c.args.options.states
    c.args.asked.now.requirements.items c.args.asked.now.prints.items
    (subst (λ (x : Code). AreMet x c.args.asked.now.requirements.items) same
    (subst (λ (l : List Requirement). AreMet (code_view c.code-code.result.now) l) c.deref.ensures.value all))
    (found_is_told g.T.Teller.tells g.T.Teller.breaks old new c.tell_answer.result
    (SaysOfRuns c.args.options.fair (lending_for c.args.options.lend) c.args.options.any_order c.args.asked.now.prints.items code c.args.options.states)
    code.names c.args.compiled.now.labels c.compared-found.result
    (subst (λ (ps : List Print). IfOk c.compared-found.result (λ a. SaysOfRuns c.args.options.fair (lending_for c.args.options.lend) c.args.options.any_order ps
    code c.args.options.states (map given_item_view a.items.items) a.status)) c.deref-in-None.ensures.value c.compared-found.ensures)
    c.tell_answer.ensures.items c.tell_answer.ensures.memory)
