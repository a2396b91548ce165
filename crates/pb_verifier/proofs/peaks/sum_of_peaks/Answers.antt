use Rattle.std.proofs.Common.{◌+◌, get_or, arith}
use Rattle.pb_verifier.proofs.PeakTables.{sum_more}
use Rattle.pb_verifier.proofs.peaks.sum_of_peaks.Goals as goal

pub loop-k-preserved : goal.loop-k-preserved
loop-k-preserved c =
    let more = sum_more (λ b. get_or c.args.peaks.now b 0) c.args.first c.loop-k.k in
    let small = c.requires.small (c.args.first + c.loop-k.k) in
    let v = c.loop-k.invariant.sum in
    let w = c.loop-k.invariant.few in
    record { sum = omega arith; few = omega arith }
