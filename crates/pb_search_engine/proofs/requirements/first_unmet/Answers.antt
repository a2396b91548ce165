use Rattle.pb_code.specs.View.{code_view}
use Rattle.pb_search_engine.proofs.RequirementLemmas.{met_all, met_more}
use Rattle.pb_search_engine.proofs.requirements.first_unmet.Goals as goal

pub loop-i-preserved : goal.loop-i-preserved
loop-i-preserved c =
    met_more (code_view c.args.code.now) c.args.requirements.now c.loop-i.i _ c.loop-i-test.true c.loop-i.invariant
    (c.is_met.ensures.0 c.if-not-is_met.false)

pub returns-clause-none : goal.returns-clause-none
returns-clause-none c =
    met_all (code_view c.args.code.now) c.args.requirements.now c.loop-i.i c.loop-i-test.false c.loop-i.invariant
