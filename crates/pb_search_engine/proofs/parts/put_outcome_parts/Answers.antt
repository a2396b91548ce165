use Rattle.std.proofs.Common.{[]}
use Rattle.std.specs.Prelude.{false}
use Rattle.pb_search.specs.Outcomes.{process_outcome_view}
use Rattle.pb_search_engine.specs.Parts.{end_parts}
use Rattle.pb_search_engine.proofs.PartLemmas.{viewed_more}
use Rattle.pb_search_engine.proofs.parts.put_outcome_parts.Goals as goal

pub loop-p-preserved : goal.loop-p-preserved
loop-p-preserved c =
    viewed_more process_outcome_view c.args.outcome.now (record { integers = []; faulted = false }) end_parts c.loop-p.p c.index-outcome-p.result c.args.parts.now.items
    c.loop-p.parts.items _ c.loop-p-test.true c.index-outcome-p.is c.loop-p.invariant c.in_ok-put_end.ensures
