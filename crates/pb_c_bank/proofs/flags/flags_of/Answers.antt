use Rattle.std.proofs.Common.{◌≡◌, length, arith, sym}
use Rattle.pb_c_bank.proofs.FlagBytes.{same_flags}
use Rattle.pb_c_bank.proofs.flags.flags_of.Goals as goal

pub returns : goal.returns
returns c =
    let long : length c.args.bytes.now ≡ 64 = omega arith in
    sym (same_flags c.args.bytes.now c.loop-p.set 64 long c.loop-p.invariant.length
    (λ k l. sym (c.loop-p.invariant.same k (omega (arith, l)))))
