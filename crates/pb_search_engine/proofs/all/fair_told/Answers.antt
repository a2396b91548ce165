use Rattle.pb_search_engine.proofs.FairLemmas.{bounded_ends}
use Rattle.pb_search_engine.specs.SaysOutcomes.{mode_for}
use Rattle.pb_search_engine.proofs.all.fair_told.Goals as goal

pub returns-then-all_end : goal.returns-then-all_end
returns-then-all_end c = λ run.
    bounded_ends (mode_for c.args.options.lend c.args.options.prints) c.args.compiled.now.verified.code
    (c.requires c.if-all_end.true) run
