use Rattle.std.proofs.Common.{◌<◌, length, true, false, arith, sym, ◌∙◌}
use Rattle.std.proofs.lemmas.Bool.{eq-eqb, ne_eqb}
use Rattle.pb_bank.proofs.PairLemmas.{has_next}
use Rattle.pb_bank.proofs.request.has.Goals as goal

pub returns-then-get-resource : goal.returns-then-get-resource
returns-then-get-resource c =
    let l : c.loop-i.i < length c.args.bundle.now = omega arith in
    sym (c.loop-i.invariant ∙ has_next c.args.bundle.now c.loop-i.i c.args.resource c.get.result true l c.get.ensures
    (eq-eqb c.get.result.resource c.args.resource c.if-get-resource.true))

pub loop-i-preserved : goal.loop-i-preserved
loop-i-preserved c =
    let l : c.loop-i.i < length c.args.bundle.now = omega arith in
    c.loop-i.invariant ∙ has_next c.args.bundle.now c.loop-i.i c.args.resource c.get.result false l c.get.ensures
    (ne_eqb c.get.result.resource c.args.resource c.if-get-resource.false)
