use Rattle.std.proofs.Common.{◌≡◌, ℕ, ◌<◌, slice_get}
use Rattle.pb_code.specs.Bundles.{bundle_of}
use Rattle.pb_verifier.proofs.holdings.same_bundle.Given as goal

abbrev pub invariant-loop-i : goal.invariant-loop-i
invariant-loop-i l = (k : ℕ) → k < l.i → slice_get (bundle_of l.code l.one) k ≡ slice_get (bundle_of l.code l.two) k
