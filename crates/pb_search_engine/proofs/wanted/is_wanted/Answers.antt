use Rattle.std.proofs.Common.{List, map, subst}
use Rattle.std.proofs.lemmas.Slice.Eq.{slice_eq-Decides}
use Rattle.pb_search.specs.Outcomes.{process_outcome_view}
use Rattle.pb_search.specs.declared.found.ProcessOutcome.{ProcessOutcome}
use Rattle.pb_search_engine.specs.Expected.{HasNoFault}
use Rattle.pb_search_engine.proofs.WantedLemmas.{listed, same_decides}
use Rattle.pb_search_engine.proofs.wanted.is_wanted.Goals as goal

pub returns : goal.returns
returns c =
    listed c.args.wanted.any_order c.args.wanted.prints.now c.args.found.now.prints.items c.as_slice.result.now
    (map process_outcome_view c.args.found.now.outcome.items) c.eq.result c.if-wanted.false
    (subst (λ (l : List ProcessOutcome). HasNoFault (map process_outcome_view l)) c.deref.ensures.value
    (c.has_fault.ensures.0 c.if-has_fault.false))
    c.as_slice.ensures.value (slice_eq-Decides same_decides c.as_slice.result.now c.args.wanted.prints.now c.eq.result c.eq.ensures)
