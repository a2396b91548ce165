use Rattle.std.proofs.Common.{◌≡◌, true, ⊎_elim, subst, arith}
use Rattle.std.proofs.lemmas.Bool.{cases_lt}
use Rattle.pb_shared.specs.Ledgers.{IsReady}
use Rattle.pb_shared.proofs.book.Book.ready_arm_within.Goals as goal
use Rattle.pb_verifier.proofs.Requests.{same_pick}

pub loop-arm-preserved : goal.loop-arm-preserved
loop-arm-preserved g c pick process from lt ready = ⊎_elim
    (λ l. c.loop-arm.invariant pick process from l ready)
    (λ l.
    let same = same_pick pick (record { process = c.args.process; arm = c.loop-arm.arm }) process (omega (arith, l, lt)) in
    let t : c.is_ready.result ≡ true = c.is_ready.ensures.1 (subst (IsReady g.C.CodeBrand.code.code c.args.self.now) same ready) in
    let f = c.if-is_ready.false in cc)
    (cases_lt pick.arm c.loop-arm.arm)
