use Rattle.std.proofs.Common.{◌≡◌, ◌<◌, length, sym, ap, ◌∙◌, subst, arith}
use Rattle.std.specs.Prelude.{All}
use Rattle.pb_banker.specs.Lenders.{lender_state, lending_by}
use Rattle.pb_base.specs.declared.lending.Lending.{Lending}
use Rattle.pb_base.specs.Banker.{BankerState, processes, resources, IsWithinClaim}
use Rattle.pb_base.specs.Steppers.{banker_state}
use Rattle.pb_code.specs.Code.{CodeProcess, ProcessCode, Thread, thread}
use Rattle.pb_code.specs.View.{process_view}
use Rattle.pb_code.specs.Whole.{bank_of}
use Rattle.pb_debug_texts.specs.Reasons.{IsReasonBy}
use Rattle.pb_machine.proofs.EitherLending.{good_reached}
use Rattle.pb_machine.proofs.GivenCode.{codes_number, code_at, code_is}
use Rattle.pb_machine.proofs.Requests.{request_below, request_within_claim, stands_so}
use Rattle.pb_machine.specs.Turns.{IsAtTake}
use Rattle.pb_machine.specs.Views.{machine_view, thread_view}
use Rattle.pb_page.specs.States.{asking, not_asking, thread_at}
use Rattle.pb_page.proofs.PartsMore.{if_ok, process_is}
use Rattle.pb_verifier.proofs.NamedBundles.{names_bundles}
use Rattle.pb_verifier.specs.declared.fault.VerifyFault.TheVariants.{OutOfLimits}
use Rattle.pb_page.proofs.arms.why_of.Goals as goal

pub index-code-requires : goal.index-code-requires
index-code-requires c =
    let v = c.args.verified.now in
    let given = c.code.result.now in
    let count = (good_reached v.code c.code.ensures.verified.faultless (lending_by c.args.machine.now.bank) (machine_view c.args.machine.now) c.requires.machine.reached).count in
    let within = c.requires.process in
    omega (arith, within, count, codes_number given v.code c.code.ensures.code, given.processes.ok.0)

pub thread-requires : goal.thread-requires
thread-requires c =
    let s = machine_view c.args.machine.now in
    subst (λ (q : CodeProcess). c.args.arm < length q.threads) (process_is s c.args.p _ c.proc.ensures.state) c.requires.arm

pub asked-requires : goal.asked-requires
asked-requires c =
    let v = c.args.verified.now in
    let given = c.code.result.now in
    let same = c.code.ensures.code in
    let count = (good_reached v.code c.code.ensures.verified.faultless (lending_by c.args.machine.now.bank) (machine_view c.args.machine.now) c.requires.machine.reached).count in
    let inside = c.requires.process in
    let within : c.args.p < length given.processes.items = omega (arith, inside, count, codes_number given v.code same) in
    names_bundles v c.code.ensures.verified c.args.p c.index-code.result.now
    (code_at given v.code same c.args.p c.index-code.result.now within c.index-code.ensures)

pub reason-requires-clause-process : goal.reason-requires-clause-process
reason-requires-clause-process c =
    let v = c.args.verified.now in
    let s = machine_view c.args.machine.now in
    let e : lender_state c.lender.result.now ≡ banker_state (bank_of v.code) s.loans =
    ap lender_state c.lender.ensures.bank ∙ c.requires.machine.bank in
    let count = (good_reached v.code c.code.ensures.verified.faultless (lending_by c.args.machine.now.bank) s c.requires.machine.reached).count in
    let rows = (c.code.ensures.verified.faultless OutOfLimits).rows in
    let inside = c.requires.process in
    let within : c.args.p < processes (banker_state (bank_of v.code) s.loans) = omega (arith, inside, count, rows) in
    subst (λ (b : BankerState). c.args.p < processes b) (sym e) within

pub reason-requires-clause-below : goal.reason-requires-clause-below
reason-requires-clause-below c =
    let v = c.args.verified.now in
    let s = machine_view c.args.machine.now in
    let given = c.code.result.now in
    let same = c.code.ensures.code in
    let e : lender_state c.lender.result.now ≡ banker_state (bank_of v.code) s.loans =
    ap lender_state c.lender.ensures.bank ∙ c.requires.machine.bank in
    let count = (good_reached v.code c.code.ensures.verified.faultless (lending_by c.args.machine.now.bank) s c.requires.machine.reached).count in
    let inside = c.requires.process in
    let within : c.args.p < length given.processes.items = omega (arith, inside, count, codes_number given v.code same) in
    let code = code_at given v.code same c.args.p c.index-code.result.now within c.index-code.ensures in
    let stands = stands_so (process_view c.index-code.result.now) _ (thread_view c.thread.result.now) c.args.arm c.thread.ensures
    c.in-Some.bundle.now c.in-Some.ensures.some in
    subst (λ (b : BankerState). All (λ pair. pair.resource < resources b) c.in-Some.bundle.now) (sym e)
    (request_below (lending_by c.args.machine.now.bank) v c.code.ensures.verified s c.requires.machine.reached c.args.p c.args.arm _ _ code c.proc.ensures.state
    c.in-Some.bundle.now stands)

pub reason-requires-clause-within_claim : goal.reason-requires-clause-within_claim
reason-requires-clause-within_claim c =
    let v = c.args.verified.now in
    let s = machine_view c.args.machine.now in
    let given = c.code.result.now in
    let same = c.code.ensures.code in
    let e : lender_state c.lender.result.now ≡ banker_state (bank_of v.code) s.loans =
    ap lender_state c.lender.ensures.bank ∙ c.requires.machine.bank in
    let count = (good_reached v.code c.code.ensures.verified.faultless (lending_by c.args.machine.now.bank) s c.requires.machine.reached).count in
    let inside = c.requires.process in
    let within : c.args.p < length given.processes.items = omega (arith, inside, count, codes_number given v.code same) in
    let code = code_at given v.code same c.args.p c.index-code.result.now within c.index-code.ensures in
    let stands = stands_so (process_view c.index-code.result.now) _ (thread_view c.thread.result.now) c.args.arm c.thread.ensures
    c.in-Some.bundle.now c.in-Some.ensures.some in
    subst (λ (b : BankerState). IsWithinClaim b c.args.p c.in-Some.bundle.now) (sym e)
    (request_within_claim (lending_by c.args.machine.now.bank) v c.code.ensures.verified s c.requires.machine.reached c.args.p c.args.arm _ _ code c.proc.ensures.state
    c.in-Some.bundle.now stands)

pub returns-in-Some : goal.returns-in-Some
returns-in-Some c =
    let v = c.args.verified.now in
    let s = machine_view c.args.machine.now in
    let given = c.code.result.now in
    let same = c.code.ensures.code in
    let e : lender_state c.lender.result.now ≡ banker_state (bank_of v.code) s.loans =
    ap lender_state c.lender.ensures.bank ∙ c.requires.machine.bank in
    let count = (good_reached v.code c.code.ensures.verified.faultless (lending_by c.args.machine.now.bank) s c.requires.machine.reached).count in
    let inside = c.requires.process in
    let within : c.args.p < length given.processes.items = omega (arith, inside, count, codes_number given v.code same) in
    let code = code_at given v.code same c.args.p c.index-code.result.now within c.index-code.ensures in
    let there : thread_view c.thread.result.now ≡ thread_at s c.args.p c.args.arm =
    c.thread.ensures ∙ ap (λ (q : CodeProcess). thread q.threads c.args.arm) (sym (process_is s c.args.p _ c.proc.ensures.state)) in
    let at = subst (λ (t : Thread). IsAtTake (process_view c.index-code.result.now) t c.in-Some.bundle.now) there c.in-Some.ensures.some in
    let lends : lending_by c.lender.result.now ≡ lending_by c.args.machine.now.bank = ap lending_by c.lender.ensures.bank in
    if_ok c.reason.result _ _ c.reason.ensures
    (λ why is. asking (process_view c.index-code.result.now) c.in-Some.bundle.now why code at
    (subst (λ (b : BankerState). IsReasonBy (lending_by c.args.machine.now.bank) b c.args.p c.in-Some.bundle.now why) e
    (subst (λ (l : Lending). IsReasonBy l (lender_state c.lender.result.now) c.args.p c.in-Some.bundle.now why) lends is)))

pub returns-in-None : goal.returns-in-None
returns-in-None c =
    let v = c.args.verified.now in
    let s = machine_view c.args.machine.now in
    let given = c.code.result.now in
    let same = c.code.ensures.code in
    let count = (good_reached v.code c.code.ensures.verified.faultless (lending_by c.args.machine.now.bank) s c.requires.machine.reached).count in
    let inside = c.requires.process in
    let within : c.args.p < length given.processes.items = omega (arith, inside, count, codes_number given v.code same) in
    let there : thread_at s c.args.p c.args.arm ≡ thread_view c.thread.result.now =
    sym (c.thread.ensures ∙ ap (λ (q : CodeProcess). thread q.threads c.args.arm) (sym (process_is s c.args.p _ c.proc.ensures.state))) in
    not_asking (λ of bundle read at. c.in-None.ensures.none bundle
    (subst (λ (q : ProcessCode). IsAtTake q (thread_view c.thread.result.now) bundle)
    (code_is given v.code same c.args.p c.index-code.result.now of within c.index-code.ensures read)
    (subst (λ (t : Thread). IsAtTake of t bundle) there at)))
