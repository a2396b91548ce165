use Rattle.std.proofs.Common.{arith}
use Rattle.std.proofs.lemmas.Grind.{common_steps}
use Rattle.pb_plan_engine.proofs.PartLemmas.{last_cut, none_cut, one_more_cut}
use Rattle.pb_plan_engine.proofs.texts.texts_of.Goals as goal

pub loop-texts-init : goal.loop-texts-init
loop-texts-init c = none_cut c.args.bytes.now c.new-texts.result.items c.new-texts.ensures.items

pub loop-texts-preserved : goal.loop-texts-preserved
loop-texts-preserved c =
    let cut = rw c.in-Some.is at c.first_part-cut.ensures.marked in
    one_more_cut c.args.bytes.now c.loop-texts.rest.now c.in-Some.more.now c.loop-texts.texts.items _ c.first_part-cut.result.part
    c.in_ok-push.ensures.items c.loop-texts.invariant cut

pub returns-in_default : goal.returns-in_default
returns-in_default c =
    let whole = rw c.in_default.is at c.first_part-cut.ensures.whole in
    last_cut c.args.bytes.now c.loop-texts.rest.now c.loop-texts.texts.items _ c.first_part-cut.result.part
    c.in_ok-push.ensures.items c.loop-texts.invariant whole.0 whole.1

pub loop-texts-smaller : goal.loop-texts-smaller
loop-texts-smaller c = grind (arith, common_steps) steps 400000
