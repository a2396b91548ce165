use Rattle.std.proofs.Common.{◌≡◌, true, false, sym, ◌∙◌, length, refl, arith}
use Rattle.pb_code.specs.View.{process_view}
use Rattle.pb_verifier.specs.Given.{instrs_of}
use Rattle.pb_verifier.proofs.ForkTables.{named_from, marked_of}
use Rattle.pb_verifier.proofs.forks.are_named.Goals as goal

pub returns-then-not-marks-arm : goal.returns-then-not-marks-arm
returns-then-not-marks-arm c =
    let n = c.arm_count-arm-end.ensures in (
      λ t. let wrong : false ≡ true = t in cc,
      λ named.
          let m = marked_of (process_view c.args.code.now) named (length (instrs_of c.args.code.now)) c.in-Some.marks
          c.in-Some.ensures.named (omega arith) c.requires.few c.loop-arm.arm c.loop-arm.auto.arm (omega arith) in
          let wrong : false ≡ true = sym c.if-not-marks-arm.true ∙ m in
          cc,
    )

pub returns : goal.returns
returns c =
    let n = c.arm_count-arm-end.ensures in (
      λ _. named_from (process_view c.args.code.now) (length (instrs_of c.args.code.now)) c.in-Some.marks
          c.in-Some.ensures.named (omega arith) c.requires.few (λ b u v. c.loop-arm.invariant b u (omega arith)),
      λ _. refl,
    )
