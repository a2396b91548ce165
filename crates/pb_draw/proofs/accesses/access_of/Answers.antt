use Rattle.std.proofs.Common.{◌≡◌, ◌<◌, ℕ, length, subst, ◌∙◌, arith}
use Rattle.std.specs.Prelude.{slice_get}
use Rattle.pb_code.specs.View.{process_view}
use Rattle.pb_machine.proofs.GivenCode.{code_at}
use Rattle.pb_machine.specs.Views.{machine_view, proc_view, thread_view}
use Rattle.pb_draw.specs.Accesses.{access_in}
use Rattle.pb_draw.proofs.AccessSteps.{access_in_is}
use Rattle.pb_draw.proofs.accesses.access_of.Goals as goal

pub returns : goal.returns
returns c =
    let code = c.args.verified.now.code in
    let given = c.code-code.result.now in
    let processes = (machine_view c.args.machine.now).processes in
    let p = c.from-p.result in
    let arm = c.from-arm.result in
    let lt = c.if-len-p.false in
    let many = c.len.ensures in
    let within : p < length given.processes.items = omega (arith, lt, many, given.processes.ok.0) in
    let code_there = code_at given code c.code-code.ensures.code p c.index.result.now within c.index.ensures in
    let here = c.access_at.ensures
    ∙ access_in_is code.processes processes p arm (process_view c.index.result.now) (proc_view c.proc-process.result.now)
    (thread_view c.thread.result.now) code_there c.proc-process.ensures.state c.thread.ensures in
    subst (λ (a : ℕ). c.access_at.result ≡ access_in (slice_get code.processes c.args.pick.process) (slice_get processes c.args.pick.process) a)
    c.from-arm.ensures
    (subst (λ (q : ℕ). c.access_at.result ≡ access_in (slice_get code.processes q) (slice_get processes q) arm) c.from-p.ensures here)
