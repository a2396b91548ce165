use Rattle.std.proofs.Common.{◌≡◌, false, map, take}
use Rattle.std.specs.Prelude.{All}
use Rattle.pb_search.specs.Outcomes.{process_outcome_view}
use Rattle.pb_search_engine.proofs.wanted.has_fault.Given as goal

abbrev pub invariant-loop-p : goal.invariant-loop-p
invariant-loop-p l = All (λ p. p.faulted ≡ false) (take l.p (map process_outcome_view l.outcome))
