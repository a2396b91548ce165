use Rattle.pb_verifier.specs.Given.{instrs_of}
use Rattle.pb_verifier.specs.Spread.{rules_of}
use Rattle.pb_verifier.proofs.Steps.{IsTable}
use Rattle.pb_verifier.proofs.facts.spread.Given as goal

abbrev pub invariant-loop-place : goal.invariant-loop-place
invariant-loop-place g l =
    IsTable (g.F.Fact.value (instrs_of l.code)) (g.F.Fact.IsReadable (instrs_of l.code)) (rules_of (g.F.Fact.start
    l.fn.first) g.F.Fact.Fits g.F.Fact.after) l.entries (instrs_of l.code) l.order l.place-index l.table.items
