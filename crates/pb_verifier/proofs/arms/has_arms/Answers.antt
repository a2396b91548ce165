use Rattle.std.proofs.Common.{◌≡◌, true, false, refl, arith, below_more}
use Rattle.pb_code.specs.View.{process_view}
use Rattle.pb_verifier.proofs.ArmOrder.{arms_from, rise_of}
use Rattle.pb_verifier.proofs.arms.has_arms.Goals as goal

pub returns-then-not-entries_rise : goal.returns-then-not-entries_rise
returns-then-not-entries_rise c = (λ t. let wrong : false ≡ true = t in cc, λ has. c.if-not-entries_rise.ensures.1 (rise_of (process_view c.args.code.now) has))

pub returns-then-not-jumps_stay : goal.returns-then-not-jumps_stay
returns-then-not-jumps_stay c =
    let n = c.arm_count-arm-end.ensures in (
      λ t. let wrong : false ≡ true = t in cc,
      λ has. c.if-not-jumps_stay.ensures.1 (λ place target i within. has.jumps_stay c.loop-arm.arm place target i within),
    )

pub returns-then-not-is_closed : goal.returns-then-not-is_closed
returns-then-not-is_closed c =
    let n = c.arm_count-arm-end.ensures in (
      λ t. let wrong : false ≡ true = t in cc,
      λ has. c.if-not-is_closed.ensures.1 (λ place. has.closes c.loop-arm.arm place (omega arith)),
    )

pub loop-arm-preserved : goal.loop-arm-preserved
loop-arm-preserved c = below_more _ _ c.loop-arm.invariant (c.if-not-jumps_stay.ensures.0 refl, c.if-not-is_closed.ensures.0 refl)

pub returns : goal.returns
returns c =
    let n = c.arm_count-arm-end.ensures in
    (λ _. arms_from (process_view c.args.code.now) (c.if-not-entries_rise.ensures.0 refl) (λ a u. c.loop-arm.invariant a (omega arith)), λ _. refl)
