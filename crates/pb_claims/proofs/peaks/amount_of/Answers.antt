use Rattle.std.proofs.Common.{arith}
use Rattle.pb_base.proofs.LoanRows.{amount_in-more}
use Rattle.pb_claims.proofs.Amounts.{amount_of_pair-same, amount_of_pair-other}
use Rattle.pb_claims.proofs.peaks.amount_of.Goals as goal
use Rattle.pb_claims.proofs.peaks.amount_of.Goals.{then-pair-resource, else-pair-resource}

pub loop-i-preserved : goal.loop-i-preserved
loop-i-preserved c =
    let pair = c.get-pair.result in
    let more = amount_in-more c.args.bundle.now c.loop-i.i c.args.resource pair c.get-pair.ensures in
    elim c.if-pair-resource.branch [
      | then-pair-resource w ↦
          (let one = amount_of_pair-same c.args.resource pair w.if-pair-resource.true in
          (omega (arith, more, one), omega arith))
      | else-pair-resource w ↦
          (let none = amount_of_pair-other c.args.resource pair w.if-pair-resource.false in
          (omega (arith, more, none), omega arith))
    ]
