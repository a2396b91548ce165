use borrow.Author.Count.{falls}
use Rattle.std.proofs.Common.{◌≡◌, ◌+◌, ◌&&◌, true, false, drop, ap, sym, ◌∙◌}
use Rattle.pb_names.specs.Source.{all_ended, is_ended}
use Rattle.pb_rewrite.specs.View.{arm_view, running_view}
use Rattle.pb_rewrite.proofs.ArmLooks.{ended_more}
use Rattle.pb_rewrite.proofs.arm.all_ended.Goals as goal

pub returns-then-not-is_ended : goal.returns-then-not-is_ended
returns-then-not-is_ended g c =
    let arms = c.deref-arm-items.result.now in
    let i = c.loop-arm.arm-index in
    let more = ended_more arms i c.arm-item.result c.loop-arm-test.true c.arm-item.is in
    let no : is_ended (arm_view c.arm-item.result) ≡ false = sym c.is_ended.ensures ∙ c.if-not-is_ended.true in
    sym (ap (λ b. b && all_ended (running_view (drop (i + 1) arms))) no) ∙ sym more ∙ sym c.loop-arm.invariant

pub loop-arm-preserved : goal.loop-arm-preserved
loop-arm-preserved g c =
    let arms = c.deref-arm-items.result.now in
    let i = c.loop-arm.arm-index in
    let more = ended_more arms i c.arm-item.result c.loop-arm-test.true c.arm-item.is in
    let yes_ended : is_ended (arm_view c.arm-item.result) ≡ true = sym c.is_ended.ensures ∙ c.if-not-is_ended.false in
    c.loop-arm.invariant ∙ more ∙ ap (λ b. b && all_ended (running_view (drop (i + 1) arms))) yes_ended

pub loop-arm-init : goal.loop-arm-init
loop-arm-init g c = ap (λ arms. all_ended (running_view arms)) (sym c.deref-arm-items.ensures.value)

pub loop-arm-smaller : goal.loop-arm-smaller
loop-arm-smaller g c = falls _ _ c.loop-arm-test.true
