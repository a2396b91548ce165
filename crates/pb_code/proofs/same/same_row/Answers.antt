use Rattle.std.proofs.Common.{[], refl, arith}
use Rattle.pb_code.proofs.AlikeCodes.{rows_alike}
use Rattle.pb_code.proofs.same.same_row.Goals as goal

pub returns : goal.returns
returns c =
    let one = c.processes.ensures.one_length c.args.p [] (omega arith) in
    let two = c.processes-2.ensures.one_length c.args.p [] (omega arith) in (
      λ e. rows_alike c.args.claims.now c.args.other.now c.args.p c.loop-r.r (omega arith) (omega arith) (omega (
        arith,
        one,
        two,
      )) (omega (arith, one)) c.loop-r.invariant,
      λ e. refl,
    )
