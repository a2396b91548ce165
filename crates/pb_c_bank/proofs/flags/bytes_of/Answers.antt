use Rattle.std.proofs.Common.{◌≡◌, length, arith}
use Rattle.pb_c_bank.proofs.FlagBytes.{same_flags}
use Rattle.pb_c_bank.proofs.flags.bytes_of.Goals as goal

pub returns : goal.returns
returns c =
    let long : length c.args.set.now ≡ 64 = omega arith in
    same_flags c.loop-p.bytes c.args.set.now 64 c.loop-p.invariant.length long
    (λ k l. c.loop-p.invariant.same k (omega (arith, l)))
