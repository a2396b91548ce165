use borrow.Author.Count.{falls}
use Rattle.std.proofs.Common.{◌<◌, length, ap, sym, ◌∙◌, arith}
use Rattle.pb_names.specs.Source.{find_among}
use Rattle.pb_rewrite.specs.Found.{found_line}
use Rattle.pb_rewrite.specs.View.{arm_view, running_view}
use Rattle.pb_rewrite.proofs.ArmLooks.{looked_further, found_here, found_inside}
use Rattle.pb_rewrite.proofs.Views.{view-Waiting}
use Rattle.pb_rewrite.proofs.arm.+find_line.Goals as goal

pub loop-i-smaller : goal.loop-i-smaller
loop-i-smaller g t c = falls _ _ c.loop-i-test.true

pub loop-i-preserved : goal.loop-i-preserved
loop-i-preserved g t c =
    let within : c.loop-i.i < length c.in-Waiting.arms.items = omega (arith, c.in-Waiting.arms.ok.0) in
    looked_further c.args.wanted c.from-start.result c.in-Waiting.arms.items c.loop-i.i c.index.result.now within c.index.ensures
    c.find_line.result c.find_line.ensures c.loop-i.invariant c.in_default-find_line.not-At

pub returns-in-At : goal.returns-in-At
returns-in-At g t c =
    let a = c.in-Waiting in
    let within : c.loop-i.i < length a.arms.items = omega (arith, a.arms.ok.0) in
    found_here c.args.wanted c.from-start.result a.arms.items c.loop-i.i c.index.result.now within c.index.ensures
    c.find_line.result c.find_line.ensures c.loop-i.invariant c.in-At.line c.in-At.is
    ∙ ap (λ n. found_line (find_among c.args.wanted n (running_view a.arms.items))) c.from-start.ensures
    ∙ ap found_line (sym (found_inside c.args.wanted c.args.number (arm_view c.args.arm.now) _ _ _ _
    (ap arm_view a.is ∙ view-Waiting a.line a.first a.arms a.rest) c.if-wanted-number.false))
