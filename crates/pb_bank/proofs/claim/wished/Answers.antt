use Rattle.std.proofs.Common.{◌<◌, length, true, false, arith, sym, ◌∙◌}
use Rattle.std.proofs.lemmas.Bool.{eq-eqb, ne_eqb}
use Rattle.pb_bank.proofs.ClaimDesks.{wished_next}
use Rattle.pb_bank.proofs.claim.wished.Goals as goal

pub returns-then-wish-job : goal.returns-then-wish-job
returns-then-wish-job c =
    let l : c.loop-wish.wish-index < length c.args.wishes.now = omega arith in
    c.amount_for.ensures
    ∙ sym (c.loop-wish.invariant ∙ wished_next c.args.wishes.now c.loop-wish.wish-index c.args.job c.args.resource c.wish-item.result true l
    c.wish-item.is (eq-eqb c.wish-item.result.job c.args.job c.if-wish-job.true))

pub loop-wish-preserved : goal.loop-wish-preserved
loop-wish-preserved c =
    let l : c.loop-wish.wish-index < length c.args.wishes.now = omega arith in
    c.loop-wish.invariant ∙ wished_next c.args.wishes.now c.loop-wish.wish-index c.args.job c.args.resource c.wish-item.result false l
    c.wish-item.is (ne_eqb c.wish-item.result.job c.args.job c.if-wish-job.false)
