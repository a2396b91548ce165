use Rattle.std.proofs.Common.{◌≡◌, true, false, refl, arith}
use Rattle.pb_code.specs.View.{process_view}
use Rattle.pb_verifier.specs.Given.{instrs_of, plain}
use Rattle.pb_verifier.proofs.ArmOrder.{arm_lies, jumps_from, jumps_to, stay_more}
use Rattle.pb_verifier.proofs.arms.jumps_stay.Goals as goal

pub instr_at-requires : goal.instr_at-requires
instr_at-requires c =
    let lies = arm_lies (process_view c.args.code.now) c.requires.rise c.args.arm c.requires.arm in
    let e = c.end_of_arm-end.ensures in
    omega arith

pub returns-then-not-leads_inside : goal.returns-then-not-leads_inside
returns-then-not-leads_inside c =
    let b = c.arm_entry-begin.ensures in
    let e = c.end_of_arm-end.ensures in
    let h = c.if-not-leads_inside.ensures c.args.code.now.bundles.items in (
      λ t. let wrong : false ≡ true = t in cc,
      λ stay. h.1 (λ to at.
          let in_arm = stay c.loop-place.place to (plain c.args.code.now c.instr_at.result) (
            c.requires.arm,
            omega
                arith,
            omega arith,
          ) c.instr_at.ensures (jumps_from (plain c.args.code.now c.instr_at.result) to at) in
          let low = in_arm.1 in
          let high = in_arm.2 in
          (omega arith, omega arith)),
    )

pub loop-place-preserved : goal.loop-place-preserved
loop-place-preserved c =
    stay_more (instrs_of c.args.code.now) c.arm_entry-begin.result c.end_of_arm-end.result c.loop-place.place (plain
    c.args.code.now c.instr_at.result) c.instr_at.ensures c.loop-place.invariant
    ((c.if-not-leads_inside.ensures c.args.code.now.bundles.items).0 refl)

pub returns : goal.returns
returns c =
    let b = c.arm_entry-begin.ensures in
    let e = c.end_of_arm-end.ensures in (
      λ _ place target i within read jump.
          let v = within.1 in
          let w = within.2 in
          let to = c.loop-place.invariant place target i (omega arith) (omega arith) read (jumps_to i target jump) in
          let low = to.0 in
          let high = to.1 in
          (c.requires.arm, omega arith, omega arith),
      λ _. refl,
    )
