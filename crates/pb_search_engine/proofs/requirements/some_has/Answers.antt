use Rattle.std.proofs.Common.{arith, sym, ◌∙◌}
use Rattle.pb_code.specs.View.{process_view}
use Rattle.pb_search_engine.specs.Requirements.{has_part}
use Rattle.pb_search_engine.proofs.RequirementLemmas.{none_more, some_there}
use Rattle.pb_search_engine.proofs.requirements.some_has.Goals as goal

pub returns-then-has : goal.returns-then-has
returns-then-has c =
    sym (some_there (has_part c.args.part) process_view c.args.code.now.processes.items c.loop-p.p c.index.result.now (omega arith)
    c.index.ensures (sym c.has.ensures ∙ c.if-has.true))

pub loop-p-preserved : goal.loop-p-preserved
loop-p-preserved c =
    none_more (has_part c.args.part) process_view c.args.code.now.processes.items c.loop-p.p c.index.result.now (omega arith)
    c.index.ensures c.loop-p.invariant (sym c.has.ensures ∙ c.if-has.false)
