use Rattle.std.proofs.Common.{◌+◌, sym, ◌∙◌}
use Rattle.pb_verifier.specs.Given.{instrs_of, plain}
use Rattle.pb_verifier.proofs.FactTables.{kept_agrees}
use Rattle.pb_verifier.proofs.ReachSearch.{next_follows, target_follows}
use Rattle.pb_verifier.proofs.facts.share_all.Goals as goal

pub share_at_target-requires-clause-agrees : goal.share_at_target-requires-clause-agrees
share_at_target-requires-clause-agrees g c =
    λ q to. c.requires.agree q (target_follows (plain c.args.code.now c.args.instr) c.args.place q to)

pub share_at-requires-clause-agrees : goal.share_at-requires-clause-agrees
share_at-requires-clause-agrees g c =
    let on = c.falls_through.ensures c.args.code.now.bundles.items in
    kept_agrees (g.F.Fact.value (instrs_of c.args.code.now)) (g.F.Fact.IsReadable (instrs_of c.args.code.now))
    c.args.table.now.items c.share_at_target.new.table.items c.args.fact (c.args.place + 1)
    c.share_at_target.ensures c.requires.fact
    (c.requires.agree (c.args.place + 1) (next_follows (plain c.args.code.now c.args.instr) c.args.place (sym on ∙ c.if-falls_through.true)))
