use Rattle.pb_search.specs.Outcomes.{found_view}
use Rattle.pb_search_engine.specs.Expected.{IsWanted}
use Rattle.pb_search_engine.proofs.WantedLemmas.{all_more, all_there}
use Rattle.pb_search_engine.proofs.wanted.first_other.Goals as goal

pub loop-i-preserved : goal.loop-i-preserved
loop-i-preserved c =
    all_more found_view (λ f. IsWanted c.args.wanted.any_order c.args.wanted.prints.now f.outcome) c.args.found.now c.loop-i.i c.index-found-i.result
    c.loop-i-test.true c.index-found-i.is c.loop-i.invariant (c.in_ok-is_wanted.ensures.0 c.if-not-branch.false)

pub returns-clause-none : goal.returns-clause-none
returns-clause-none c =
    all_there found_view (λ f. IsWanted c.args.wanted.any_order c.args.wanted.prints.now f.outcome) c.args.found.now c.loop-i.i c.loop-i-test.false
    c.loop-i.invariant
