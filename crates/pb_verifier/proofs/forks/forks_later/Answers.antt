use Rattle.std.proofs.Common.{◌≡◌, true, false, refl, ap, Some, ◌∙◌, arith}
use Rattle.pb_code.specs.View.{process_view}
use Rattle.pb_verifier.specs.Given.{plain}
use Rattle.pb_verifier.proofs.ArmOrder.{arm_lies, rise_of}
use Rattle.pb_verifier.proofs.ForkTables.{later_more}
use Rattle.pb_verifier.proofs.forks.forks_later.Goals as goal

pub instr_at-requires : goal.instr_at-requires
instr_at-requires c =
    let lies = arm_lies (process_view c.args.code.now) (rise_of (process_view c.args.code.now) c.requires.arms) c.args.arm c.requires.arm in
    let e = c.end_of_arm-end.ensures in
    omega arith

pub returns-then-not-names_later : goal.returns-then-not-names_later
returns-then-not-names_later c =
    let b = c.arm_entry-begin.ensures in
    let e = c.end_of_arm-end.ensures in
    let n = c.arm_count.ensures in
    let h = c.if-not-names_later.ensures c.args.code.now.bundles.items in (
      λ t. let wrong : false ≡ true = t in cc,
      λ later. h.1 (λ first count is.
          let l = later c.loop-place.place first count (c.requires.arm, omega arith, omega arith) (c.instr_at.ensures ∙ ap Some is) in
          let m = l.1 in
          (l.0, omega arith)),
    )

pub loop-place-preserved : goal.loop-place-preserved
loop-place-preserved c =
    let n = c.arm_count.ensures in
    later_more (process_view c.args.code.now) c.args.arm c.arm_entry-begin.result c.loop-place.place (plain
    c.args.code.now c.instr_at.result) c.instr_at.ensures c.loop-place.invariant
    (λ first count is. let l = (c.if-not-names_later.ensures c.args.code.now.bundles.items).0 refl first count is in let m = l.1 in (l.0, omega arith))

pub returns : goal.returns
returns c =
    let b = c.arm_entry-begin.ensures in
    let e = c.end_of_arm-end.ensures in
    (λ _ place first count within. let v = within.1 in let w = within.2 in c.loop-place.invariant place first count (omega arith) (omega arith), λ _. refl)
