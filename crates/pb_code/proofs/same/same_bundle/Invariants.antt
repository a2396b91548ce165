use Rattle.pb_code.specs.Bundles.{bundle_of}
use Rattle.pb_code.proofs.ListElements.{AlikeBelow}
use Rattle.pb_code.proofs.same.same_bundle.Given as goal

abbrev pub invariant-loop-i : goal.invariant-loop-i
invariant-loop-i l = AlikeBelow (bundle_of l.code l.one) (bundle_of l.other l.two) l.i
