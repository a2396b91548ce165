use Rattle.std.proofs.Common.{◌≡◌, ◌++◌, map}
use Rattle.pb_search.specs.Outcomes.{process_outcome_view}
use Rattle.pb_search_engine.specs.OutcomeLines.{outcome_at}
use Rattle.pb_search_engine.specs.Parts.{collected, end_parts}
use Rattle.pb_search_engine.proofs.parts.put_outcome_parts.Given as goal

abbrev pub invariant-loop-p : goal.invariant-loop-p
invariant-loop-p l =
    l.parts.items ≡ l.initial.parts.items ++ collected (λ p. end_parts p (outcome_at (map process_outcome_view l.outcome) p)) l.p
