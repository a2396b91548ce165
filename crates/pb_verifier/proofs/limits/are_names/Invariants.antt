use Rattle.std.proofs.Common.{◌≢◌, ℕ, ◌<◌, [], get_or, map, length}
use Rattle.pb_verifier.specs.Limits.{IsName}
use Rattle.pb_code.proofs.ListElements.{EachBelow}
use Rattle.pb_verifier.proofs.limits.are_names.Given as goal

abbrev pub invariant-loop-k : goal.invariant-loop-k
invariant-loop-k l = record {
  formed : EachBelow (map (λ name. name.items) l.names) l.k (λ _ name. IsName name);
  apart : (i j : ℕ) → i < l.k → i < j → j < length l.names → get_or (map (λ name. name.items) l.names) i [] ≢ get_or (map (λ name. name.items) l.names) j [];
}
