use Rattle.std.proofs.Common.{◌≢◌, ℕ, ◌<◌, [], get_or, map}
use Rattle.pb_verifier.proofs.limits.is_new.Given as goal

abbrev pub invariant-loop-j : goal.invariant-loop-j
invariant-loop-j l = (i : ℕ) → l.k < i → i < l.j → get_or (map (λ name. name.items) l.names) l.k [] ≢ get_or (map (λ name. name.items) l.names) i []
