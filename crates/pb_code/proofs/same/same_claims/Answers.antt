use Rattle.std.proofs.Common.{refl, arith}
use Rattle.pb_code.proofs.ListElements.{alike_all}
use Rattle.pb_code.proofs.same.same_claims.Goals as goal

pub returns : goal.returns
returns c = (λ e. alike_all c.args.claims.now c.args.other.now c.loop-p.p (omega arith) (omega arith) c.loop-p.invariant, λ e. refl)
