use Rattle.std.proofs.Common.{◌<◌, length, ap, subst, arith}
use Rattle.std.specs.Prelude.{IfSome}
use Rattle.pb_banker.specs.Lenders.{lender_state}
use Rattle.pb_base.specs.Banker.{BankerState, processes}
use Rattle.pb_code.specs.View.{process_view}
use Rattle.pb_machine.specs.Views.{machine_view, proc_view, thread_view}
use Rattle.pb_machine.proofs.GivenCode.{codes_number, code_at}
use Rattle.pb_circles.specs.Links.{IsLinkOf}
use Rattle.pb_circles.proofs.LinkLemmas.{links_made, none_in, not_asking}
use Rattle.pb_verifier.proofs.NamedBundles.{names_bundles}
use Rattle.pb_circles.proofs.Requests.{asks_in, asked_so, machine_count, rows_count, lender_is}
use Rattle.pb_circles.proofs.link.arm_link.Goals as goal

pub index-requires : goal.index-requires
index-requires c =
    let v = c.args.verified.now in
    let given = c.code-code.result.now in
    let n = machine_count c.requires.machine.0 v c.args.machine.now c.requires.machine.1 in
    let lt = c.requires.process in
    omega (arith, lt, n, codes_number given v.code c.code-code.ensures.code, given.processes.ok.0)

pub thread-requires : goal.thread-requires
thread-requires c = c.requires.arm (proc_view c.proc.result.now) c.proc.ensures.state

pub asked-requires : goal.asked-requires
asked-requires c =
    let v = c.args.verified.now in
    let given = c.code-code.result.now in
    let n = machine_count c.requires.machine.0 v c.args.machine.now c.requires.machine.1 in
    let lt = c.requires.process in
    let within : c.args.p < length given.processes.items = omega (arith, lt, n, codes_number given v.code c.code-code.ensures.code) in
    names_bundles v c.code-code.ensures.verified c.args.p c.index.result.now
    (code_at given v.code c.code-code.ensures.code c.args.p c.index.result.now within c.index.ensures)

pub link_of-requires : goal.link_of-requires
link_of-requires c =
    let v = c.args.verified.now in
    let m = c.args.machine.now in
    let is = c.requires.machine.1 in
    let same = ap (λ (s : BankerState). processes s) (lender_is c.requires.machine.0 v m is c.lender.result.now c.lender.ensures.bank) in
    let rows = rows_count c.requires.machine.0 v m is in
    record { among = λ k d u. let below = c.requires.among k d u in omega (arith, below, same, rows) }

pub returns-in-Some-clause-some : goal.returns-in-Some-clause-some
returns-in-Some-clause-some c =
    let v = c.args.verified.now in
    let m = c.args.machine.now in
    let given = c.code-code.result.now in
    let n = machine_count c.requires.machine.0 v m c.requires.machine.1 in
    let lt = c.requires.process in
    let within : c.args.p < length given.processes.items = omega (arith, lt, n, codes_number given v.code c.code-code.ensures.code) in
    let asks = asks_in v.code (machine_view m) c.args.p c.args.arm (process_view c.index.result.now) (proc_view c.proc.result.now)
    (thread_view c.thread.result.now) (code_at given v.code c.code-code.ensures.code c.args.p c.index.result.now within c.index.ensures)
    c.proc.ensures.state c.thread.ensures c.in-Some.bundle.now c.in-Some.ensures.some in
    links_made v.code (machine_view m) c.args.among.now c.args.p c.args.arm c.in-Some.bundle.now asks c.link_of.result
    (subst (λ (s : BankerState). IfSome c.link_of.result (IsLinkOf s c.in-Some.bundle.now c.args.among.now c.args.p c.args.arm))
    (lender_is c.requires.machine.0 v m c.requires.machine.1 c.lender.result.now c.lender.ensures.bank) c.link_of.ensures.some)

pub returns-in-Some-clause-none : goal.returns-in-Some-clause-none
returns-in-Some-clause-none c =
    let v = c.args.verified.now in
    let m = c.args.machine.now in
    let given = c.code-code.result.now in
    let n = machine_count c.requires.machine.0 v m c.requires.machine.1 in
    let lt = c.requires.process in
    let within : c.args.p < length given.processes.items = omega (arith, lt, n, codes_number given v.code c.code-code.ensures.code) in
    let asks = asks_in v.code (machine_view m) c.args.p c.args.arm (process_view c.index.result.now) (proc_view c.proc.result.now)
    (thread_view c.thread.result.now) (code_at given v.code c.code-code.ensures.code c.args.p c.index.result.now within c.index.ensures)
    c.proc.ensures.state c.thread.ensures c.in-Some.bundle.now c.in-Some.ensures.some in
    none_in v.code (machine_view m) c.args.among.now c.args.p c.args.arm c.in-Some.bundle.now asks c.link_of.result (lender_state c.lender.result.now)
    (lender_is c.requires.machine.0 v m c.requires.machine.1 c.lender.result.now c.lender.ensures.bank) c.link_of.ensures.none

pub returns-in-None-clause-none : goal.returns-in-None-clause-none
returns-in-None-clause-none c =
    let v = c.args.verified.now in
    let m = c.args.machine.now in
    let given = c.code-code.result.now in
    let n = machine_count c.requires.machine.0 v m c.requires.machine.1 in
    let lt = c.requires.process in
    let within : c.args.p < length given.processes.items = omega (arith, lt, n, codes_number given v.code c.code-code.ensures.code) in
    not_asking v.code (machine_view m) c.args.among.now c.args.p c.args.arm
    (λ bundle asks. c.in-None.ensures.none bundle
    (asked_so v.code (machine_view m) c.args.p c.args.arm (process_view c.index.result.now) (proc_view c.proc.result.now)
    (thread_view c.thread.result.now) (code_at given v.code c.code-code.ensures.code c.args.p c.index.result.now within c.index.ensures)
    c.proc.ensures.state c.thread.ensures bundle asks))
