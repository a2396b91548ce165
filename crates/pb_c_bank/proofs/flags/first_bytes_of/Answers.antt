use Rattle.std.proofs.Common.{ℕ, arith}
use Rattle.std.proofs.lemmas.List.{length-replicate}
use Rattle.pb_banker.proofs.Newcomers.{zeros_at}
use Rattle.pb_c_bank.proofs.flags.first_bytes_of.Goals as goal

pub loop-p-init : goal.loop-p-init
loop-p-init c = record {
  same = λ k l. absurd (omega (arith, l));
  none = λ k l. zeros_at 64 k;
  length = length-replicate {A = ℕ} 64 0;
}

pub returns : goal.returns
returns c = record {
  rows = λ p l. c.loop-p.invariant.same p (omega (arith, l));
  behind = λ p l. c.loop-p.invariant.none p (omega (arith, l));
}
