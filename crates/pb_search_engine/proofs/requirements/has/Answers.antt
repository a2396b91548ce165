use Rattle.std.proofs.Common.{arith, sym, ◌∙◌}
use Rattle.pb_code.specs.View.{instr_view}
use Rattle.pb_search_engine.specs.Requirements.{is_of}
use Rattle.pb_search_engine.proofs.RequirementLemmas.{none_more, some_there}
use Rattle.pb_search_engine.proofs.requirements.has.Goals as goal

pub returns-then-is_of : goal.returns-then-is_of
returns-then-is_of c =
    let bundles = c.args.process.now.bundles.items in
    sym (some_there (is_of c.args.part) (instr_view bundles) c.args.process.now.instrs.items c.loop-i.i c.index.result.now (omega arith)
    c.index.ensures (sym (c.is_of.ensures bundles) ∙ c.if-is_of.true))

pub loop-i-preserved : goal.loop-i-preserved
loop-i-preserved c =
    let bundles = c.args.process.now.bundles.items in
    none_more (is_of c.args.part) (instr_view bundles) c.args.process.now.instrs.items c.loop-i.i c.index.result.now (omega arith)
    c.index.ensures c.loop-i.invariant (sym (c.is_of.ensures bundles) ∙ c.if-is_of.false)
