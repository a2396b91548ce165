use Rattle.std.proofs.Common.{refl, arith, rules}
use Rattle.pb_code.specs.Bundles.{bundle_of}
use Rattle.pb_code.proofs.ListElements.{alike_all}
use Rattle.pb_code.proofs.same.same_bundle.Goals as goal

pub returns : goal.returns
returns c = (
  λ e. alike_all (bundle_of c.args.code.now c.args.one) (bundle_of c.args.other.now c.args.two) c.loop-i.i (omega
      arith) (omega arith) c.loop-i.invariant,
  λ e. refl,
)

pub loop-i-preserved : goal.loop-i-preserved
loop-i-preserved c = search rules fits 100
