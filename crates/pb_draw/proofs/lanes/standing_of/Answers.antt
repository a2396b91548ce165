use Rattle.std.proofs.Common.{◌<◌, length, sym, ap, ◌∙◌, subst, arith}
use Rattle.std.specs.Prelude.{All}
use Rattle.std.specs.Option.{is_some}
use Rattle.std.proofs.lemmas.Result.{IfOk-weaker}
use Rattle.pb_banker.specs.Lenders.{lender_state, lending_by}
use Rattle.pb_base.specs.Banker.{BankerState, processes, resources, IsWithinClaim}
use Rattle.pb_base.specs.declared.lending.Lending.{Lending}
use Rattle.pb_base.specs.declared.pick.Pick.{Pick}
use Rattle.pb_verifier.proofs.NamedBundles.{names_bundles}
use Rattle.pb_circles.proofs.Requests.{asked_so, asks_in, lender_is, bundle_below, bundle_within_claim, machine_count, rows_count}
use Rattle.pb_code.specs.View.{process_view}
use Rattle.pb_machine.proofs.GivenCode.{codes_number, code_at}
use Rattle.pb_machine.specs.Looks.{IsLiveArm}
use Rattle.pb_machine.specs.Views.{IsMachineBy, machine_view, place_of_thread, proc_view, thread_view}
use Rattle.pb_draw.specs.Lanes.{IsAsking, IsStanding}
use Rattle.pb_draw.specs.declared.drawing.Standing.{Standing}
use Rattle.pb_draw.specs.declared.drawing.Standing.TheVariants.{Going}
use Rattle.pb_draw.proofs.Standings.{asking_so, asks_live, has_place, no_arm, no_process, pick_is}
use Rattle.pb_draw.proofs.lanes.standing_of.Goals as goal
use Rattle.pb_draw.proofs.lanes.standing_of.Goals.{then-processes-p-via-then-processes-p}
use Rattle.pb_draw.proofs.lanes.standing_of.Goals.{then-processes-p-via-else-processes-p+then-arms-arm}

pub returns-then-processes-p : goal.returns-then-processes-p
returns-then-processes-p c = λ lending is live.
    let s = machine_view c.args.machine.now in
    let p = c.from-p.ensures in
    let a = c.from-arm.ensures in
    let n = c.processes.ensures in
    elim c.then-processes-p.branch [
      | then-processes-p-via-then-processes-p w ↦
          let past = w.if-processes-p.true in no_process s c.args.pick (omega (arith, past, p, n)) live
      | then-processes-p-via-else-processes-p+then-arms-arm w ↦
          let past = w.if-arms-arm.true in
          let arms = w.arms.ensures in
          let same = pick_is c.args.pick c.from-p.result c.from-arm.result p a in
          no_arm s (record { process = c.from-p.result; arm = c.from-arm.result }) (proc_view w.proc.result.now) w.proc.ensures.state
          (omega (arith, past, arms)) (subst (λ (arm : Pick). IsLiveArm s arm) (sym same) live)
    ]

pub index-requires : goal.index-requires
index-requires c =
    let v = c.args.verified.now in
    let given = c.code-code.result.now in
    let n = machine_count c.requires.0 v c.args.machine.now c.requires.1 in
    let lt = c.if-processes-p.false in
    let many = c.processes.ensures in
    omega (arith, lt, many, n, codes_number given v.code c.code-code.ensures.code, given.processes.ok.0)

pub asked-requires : goal.asked-requires
asked-requires c =
    let v = c.args.verified.now in
    let given = c.code-code.result.now in
    let n = machine_count c.requires.0 v c.args.machine.now c.requires.1 in
    let lt = c.if-processes-p.false in
    let many = c.processes.ensures in
    let within : c.from-p.result < length given.processes.items =
    omega (arith, lt, many, n, codes_number given v.code c.code-code.ensures.code) in
    names_bundles v c.code-code.ensures.verified c.from-p.result c.index.result.now
    (code_at given v.code c.code-code.ensures.code c.from-p.result c.index.result.now within c.index.ensures)

pub asking-requires-clause-process : goal.asking-requires-clause-process
asking-requires-clause-process c =
    let v = c.args.verified.now in
    let m = c.args.machine.now in
    let same = ap (λ (s : BankerState). processes s) (lender_is c.requires.0 v m c.requires.1 c.lender.result.now c.lender.ensures.bank) in
    let rows = rows_count c.requires.0 v m c.requires.1 in
    let lt = c.if-processes-p.false in
    let many = c.processes.ensures in
    omega (arith, same, rows, lt, many)

pub asking-requires-clause-below : goal.asking-requires-clause-below
asking-requires-clause-below c =
    let v = c.args.verified.now in
    let m = c.args.machine.now in
    let given = c.code-code.result.now in
    let n = machine_count c.requires.0 v m c.requires.1 in
    let lt = c.if-processes-p.false in
    let many = c.processes.ensures in
    let within : c.from-p.result < length given.processes.items =
    omega (arith, lt, many, n, codes_number given v.code c.code-code.ensures.code) in
    let asks = asks_in v.code (machine_view m) c.from-p.result c.from-arm.result (process_view c.index.result.now)
    (proc_view c.proc-2.result.now) (thread_view c.thread-thread.result.now)
    (code_at given v.code c.code-code.ensures.code c.from-p.result c.index.result.now within c.index.ensures)
    c.proc-2.ensures.state c.thread-thread.ensures c.in-Some.bundle.now c.in-Some.ensures.some in
    subst (λ (s : BankerState). All (λ pair. pair.resource < resources s) c.in-Some.bundle.now)
    (sym (lender_is c.requires.0 v m c.requires.1 c.lender.result.now c.lender.ensures.bank))
    (bundle_below c.requires.0 v c.code-code.ensures.verified (machine_view m) c.requires.1.reached
    (record { process = c.from-p.result; arm = c.from-arm.result }) c.in-Some.bundle.now asks)

pub asking-requires-clause-within_claim : goal.asking-requires-clause-within_claim
asking-requires-clause-within_claim c =
    let v = c.args.verified.now in
    let m = c.args.machine.now in
    let given = c.code-code.result.now in
    let n = machine_count c.requires.0 v m c.requires.1 in
    let lt = c.if-processes-p.false in
    let many = c.processes.ensures in
    let within : c.from-p.result < length given.processes.items =
    omega (arith, lt, many, n, codes_number given v.code c.code-code.ensures.code) in
    let asks = asks_in v.code (machine_view m) c.from-p.result c.from-arm.result (process_view c.index.result.now)
    (proc_view c.proc-2.result.now) (thread_view c.thread-thread.result.now)
    (code_at given v.code c.code-code.ensures.code c.from-p.result c.index.result.now within c.index.ensures)
    c.proc-2.ensures.state c.thread-thread.ensures c.in-Some.bundle.now c.in-Some.ensures.some in
    subst (λ (s : BankerState). IsWithinClaim s c.from-p.result c.in-Some.bundle.now)
    (sym (lender_is c.requires.0 v m c.requires.1 c.lender.result.now c.lender.ensures.bank))
    (bundle_within_claim c.requires.0 v c.code-code.ensures.verified (machine_view m) c.requires.1.reached
    (record { process = c.from-p.result; arm = c.from-arm.result }) c.in-Some.bundle.now asks)

pub returns-in-Some : goal.returns-in-Some
returns-in-Some c =
    let v = c.args.verified.now in
    let m = c.args.machine.now in
    let given = c.code-code.result.now in
    let n = machine_count c.requires.0 v m c.requires.1 in
    let lt = c.if-processes-p.false in
    let many = c.processes.ensures in
    let within : c.from-p.result < length given.processes.items =
    omega (arith, lt, many, n, codes_number given v.code c.code-code.ensures.code) in
    let arm : Pick = record { process = c.from-p.result; arm = c.from-arm.result } in
    let asks = asks_in v.code (machine_view m) c.from-p.result c.from-arm.result (process_view c.index.result.now)
    (proc_view c.proc-2.result.now) (thread_view c.thread-thread.result.now)
    (code_at given v.code c.code-code.ensures.code c.from-p.result c.index.result.now within c.index.ensures)
    c.proc-2.ensures.state c.thread-thread.ensures c.in-Some.bundle.now c.in-Some.ensures.some in
    IfOk-weaker c.asking.result
    (IsAsking (lending_by c.lender.result.now) (lender_state c.lender.result.now) c.from-p.result c.in-Some.bundle.now)
    (λ (standing : Standing). (lending : Lending) → IsMachineBy lending v m → IsStanding lending v.code (machine_view m) c.args.pick standing)
    (λ standing asked lending is.
    let made = subst (λ (l : Lending). IsAsking l (lender_state c.lender.result.now) c.from-p.result c.in-Some.bundle.now standing)
    (ap lending_by c.lender.ensures.bank ∙ is.lends) asked in
    let here = subst (λ (s : BankerState). IsAsking lending s c.from-p.result c.in-Some.bundle.now standing)
    (lender_is c.requires.0 v m c.requires.1 c.lender.result.now c.lender.ensures.bank) made in
    subst (λ (a : Pick). IsStanding lending v.code (machine_view m) a standing)
    (pick_is c.args.pick c.from-p.result c.from-arm.result c.from-p.ensures c.from-arm.ensures)
    (asking_so lending v.code (machine_view m) arm c.in-Some.bundle.now standing
    (asks_live v.code (machine_view m) arm c.in-Some.bundle.now asks) asks here))
    c.asking.ensures

pub returns-in-None : goal.returns-in-None
returns-in-None c = λ lending is.
    let v = c.args.verified.now in
    let m = c.args.machine.now in
    let s = machine_view m in
    let given = c.code-code.result.now in
    let n = machine_count c.requires.0 v m c.requires.1 in
    let lt = c.if-processes-p.false in
    let many = c.processes.ensures in
    let within : c.from-p.result < length given.processes.items =
    omega (arith, lt, many, n, codes_number given v.code c.code-code.ensures.code) in
    let arm : Pick = record { process = c.from-p.result; arm = c.from-arm.result } in
    let process = proc_view c.proc-2.result.now in
    let live : IsLiveArm s arm = has_place s arm process c.proc-2.ensures.state
    (ap is_some (ap place_of_thread (sym c.thread-thread.ensures) ∙ sym c.place.ensures) ∙ c.if-is_none.ensures) in
    subst (λ (a : Pick). IsStanding lending v.code s a Going)
    (pick_is c.args.pick c.from-p.result c.from-arm.result c.from-p.ensures c.from-arm.ensures) (
      live,
      λ bundle asks. absurd (c.in-None.ensures.none bundle
          (asked_so v.code s c.from-p.result c.from-arm.result (process_view c.index.result.now) process (thread_view c.thread-thread.result.now)
          (code_at given v.code c.code-code.ensures.code c.from-p.result c.index.result.now within c.index.ensures)
          c.proc-2.ensures.state c.thread-thread.ensures bundle asks)),
    )
