use Rattle.std.proofs.Common.{◌<◌, length, sym, ap, ◌∙◌, subst, arith}
use Rattle.std.specs.Prelude.{All}
use Rattle.pb_banker.specs.Lenders.{lender_state}
use Rattle.pb_base.specs.declared.lending.Lending.{Lending}
use Rattle.pb_base.specs.Banker.{BankerState, processes, resources, IsWithinClaim}
use Rattle.pb_code.specs.View.{process_view}
use Rattle.pb_machine.specs.Views.{thread_view}
use Rattle.pb_machine.proofs.Requests.{request_below, request_within_claim, stands_so}
use Rattle.pb_machine.proofs.GivenCode.{codes_number, code_at}
use Rattle.pb_verifier.proofs.NamedBundles.{names_bundles}
use Rattle.pb_verifier.specs.declared.fault.VerifyFault.TheVariants.{OutOfLimits}
use Rattle.pb_debug.specs.Value.{Debugging, state_of, bank_state}
use Rattle.pb_debug_texts.specs.Reasons.{IsReasonBy}
use Rattle.pb_debug.proofs.Requests.{asks_in, asked_so, why_is}
use Rattle.pb_debug.proofs.Positions.{in_code, reached}
use Rattle.pb_debug.proofs.debugger.Debugger.why.Goals as goal

pub index-requires : goal.index-requires
index-requires c =
    let d = c.args.self.now in
    let given = c.code-code.result.now in
    let same = c.code-code.ensures.code ∙ ap (λ (d : Debugging). d.verified.code) c.self.view_is in
    let lt = in_code d c.in_ok-process.ensures.placed c.args.p _ c.in_ok-process.ensures.shown in
    omega (arith, lt, codes_number given d.verified.code same, given.processes.ok.0)

pub asked-requires : goal.asked-requires
asked-requires c =
    let d = c.args.self.now in
    let given = c.code-code.result.now in
    let same = c.code-code.ensures.code ∙ ap (λ (d : Debugging). d.verified.code) c.self.view_is in
    let lt = in_code d c.in_ok-process.ensures.placed c.args.p _ c.in_ok-process.ensures.shown in
    let within : c.args.p < length given.processes.items = omega (arith, lt, codes_number given d.verified.code same) in
    names_bundles d.verified c.in_ok-process.ensures.placed.verified c.args.p c.index.result.now
    (code_at given d.verified.code same c.args.p c.index.result.now within c.index.ensures)

pub reason-requires-clause-process : goal.reason-requires-clause-process
reason-requires-clause-process c =
    let d = c.args.self.now in
    let lt = in_code d c.in_ok-process.ensures.placed c.args.p _ c.in_ok-process.ensures.shown in
    let rows = (c.in_ok-process.ensures.placed.verified.faultless OutOfLimits).rows in
    let within : c.args.p < processes (bank_state d) = omega (arith, lt, rows) in
    subst (λ (s : BankerState). c.args.p < processes s) (sym c.loans.ensures.shown) within

pub reason-requires-clause-below : goal.reason-requires-clause-below
reason-requires-clause-below c =
    let d = c.args.self.now in
    let given = c.code-code.result.now in
    let same = c.code-code.ensures.code ∙ ap (λ (d : Debugging). d.verified.code) c.self.view_is in
    let replay = c.in_ok-process.ensures.placed in
    let there = c.in_ok-process.ensures.shown in
    let lt = in_code d replay c.args.p _ there in
    let within : c.args.p < length given.processes.items = omega (arith, lt, codes_number given d.verified.code same) in
    let code = code_at given d.verified.code same c.args.p c.index.result.now within c.index.ensures in
    let stands = stands_so (process_view c.index.result.now) _ (thread_view c.thread.result.now) c.args.arm c.thread.ensures
    c.in-Some.bundle.now c.in-Some.ensures.some in
    subst (λ (s : BankerState). All (λ pair. pair.resource < resources s) c.in-Some.bundle.now) (sym c.loans.ensures.shown)
    (request_below d.lending d.verified replay.verified (state_of d) (reached d replay) c.args.p c.args.arm _ _ code there c.in-Some.bundle.now stands)

pub reason-requires-clause-within_claim : goal.reason-requires-clause-within_claim
reason-requires-clause-within_claim c =
    let d = c.args.self.now in
    let given = c.code-code.result.now in
    let same = c.code-code.ensures.code ∙ ap (λ (d : Debugging). d.verified.code) c.self.view_is in
    let replay = c.in_ok-process.ensures.placed in
    let there = c.in_ok-process.ensures.shown in
    let lt = in_code d replay c.args.p _ there in
    let within : c.args.p < length given.processes.items = omega (arith, lt, codes_number given d.verified.code same) in
    let code = code_at given d.verified.code same c.args.p c.index.result.now within c.index.ensures in
    let stands = stands_so (process_view c.index.result.now) _ (thread_view c.thread.result.now) c.args.arm c.thread.ensures
    c.in-Some.bundle.now c.in-Some.ensures.some in
    subst (λ (s : BankerState). IsWithinClaim s c.args.p c.in-Some.bundle.now) (sym c.loans.ensures.shown)
    (request_within_claim d.lending d.verified replay.verified (state_of d) (reached d replay) c.args.p c.args.arm _ _ code there c.in-Some.bundle.now stands)

pub returns-in_ok-reason-in-Some-clause-why : goal.returns-in_ok-reason-in-Some-clause-why
returns-in_ok-reason-in-Some-clause-why c =
    let d = c.args.self.now in
    let given = c.code-code.result.now in
    let same = c.code-code.ensures.code ∙ ap (λ (d : Debugging). d.verified.code) c.self.view_is in
    let there = c.in_ok-process.ensures.shown in
    let lt = in_code d c.in_ok-process.ensures.placed c.args.p _ there in
    let within : c.args.p < length given.processes.items = omega (arith, lt, codes_number given d.verified.code same) in
    let code = code_at given d.verified.code same c.args.p c.index.result.now within c.index.ensures in
    let asking = asks_in d c.args.p c.args.arm (process_view c.index.result.now) _ (thread_view c.thread.result.now)
    code there c.thread.ensures c.in-Some.bundle.now c.in-Some.ensures.some in
    let why = c.in_ok-reason-in-Some.field-0 in
    why_is d c.args.p c.args.arm c.in-Some.bundle.now why asking
    (subst (λ (s : BankerState). IsReasonBy d.lending s c.args.p c.in-Some.bundle.now why) c.loans.ensures.shown
    (subst (λ (l : Lending). IsReasonBy l (lender_state c.loans.result.now) c.args.p c.in-Some.bundle.now why) c.loans.ensures.lending
    c.in_ok-reason-in-Some.ensures))

pub returns-in-None-clause-why : goal.returns-in-None-clause-why
returns-in-None-clause-why c = λ bundle asking.
    let d = c.args.self.now in
    let given = c.code-code.result.now in
    let same = c.code-code.ensures.code ∙ ap (λ (d : Debugging). d.verified.code) c.self.view_is in
    let there = c.in_ok-process.ensures.shown in
    let lt = in_code d c.in_ok-process.ensures.placed c.args.p _ there in
    let within : c.args.p < length given.processes.items = omega (arith, lt, codes_number given d.verified.code same) in
    let code = code_at given d.verified.code same c.args.p c.index.result.now within c.index.ensures in
    c.in-None.ensures.none bundle
    (asked_so d c.args.p c.args.arm (process_view c.index.result.now) _ (thread_view c.thread.result.now) code there c.thread.ensures bundle asking)
