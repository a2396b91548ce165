use Rattle.std.proofs.Common.{◌<◌}
use Rattle.pb_code.specs.Bundles.{bundle_of}
use Rattle.pb_code.proofs.ListElements.{EachBelow}
use Rattle.pb_verifier.proofs.range.names_resources.Given as goal

abbrev pub invariant-loop-i : goal.invariant-loop-i
invariant-loop-i l = EachBelow (bundle_of l.code l.bundle) l.i (λ _ pair. pair.resource < l.resources)
