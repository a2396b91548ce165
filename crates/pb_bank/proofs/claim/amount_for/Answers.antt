use Rattle.std.proofs.Common.{◌<◌, length, true, false, arith, sym, ◌∙◌}
use Rattle.std.proofs.lemmas.Bool.{eq-eqb, ne_eqb}
use Rattle.pb_bank.proofs.ClaimDesks.{amount_next}
use Rattle.pb_bank.proofs.claim.amount_for.Goals as goal

pub returns-then-pair-resource : goal.returns-then-pair-resource
returns-then-pair-resource c =
    let l : c.loop-i.i < length c.args.bundle.now = omega arith in
    sym (c.loop-i.invariant ∙ amount_next c.args.bundle.now c.loop-i.i c.args.resource c.get-pair.result true l c.get-pair.ensures
    (eq-eqb c.get-pair.result.resource c.args.resource c.if-pair-resource.true))

pub loop-i-preserved : goal.loop-i-preserved
loop-i-preserved c =
    let l : c.loop-i.i < length c.args.bundle.now = omega arith in
    c.loop-i.invariant ∙ amount_next c.args.bundle.now c.loop-i.i c.args.resource c.get-pair.result false l c.get-pair.ensures
    (ne_eqb c.get-pair.result.resource c.args.resource c.if-pair-resource.false)
