use Rattle.std.proofs.Common.{◌<◌, ◌≤◌, ℕ}
use Rattle.pb_base.specs.Banker.{cell}
use Rattle.pb_search_engine.proofs.requirements.some_claims.Given as goal

abbrev pub invariant-loop-p : goal.invariant-loop-p
invariant-loop-p l = (p : ℕ) → p < l.p → l.amount ≤ cell l.code.claims p l.resource → ⊥
