use Rattle.std.proofs.Common.{◌≡◌, length, refl, arith}
use Rattle.pb_code.specs.Bundles.{bundle_of}
use Rattle.pb_code.proofs.ListElements.{same_by_get}
use Rattle.pb_verifier.proofs.holdings.same_bundle.Goals as goal

pub returns : goal.returns
returns c =
    let l : length (bundle_of c.args.code.now c.args.one) ≡ length (bundle_of c.args.code.now c.args.two) = omega arith in
    (λ e. same_by_get (bundle_of c.args.code.now c.args.one) (bundle_of c.args.code.now c.args.two) l (λ k u. c.loop-i.invariant k (omega arith)), λ e. refl)
