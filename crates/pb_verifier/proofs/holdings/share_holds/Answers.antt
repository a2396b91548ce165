use Rattle.std.proofs.Common.{List, Option, sym, ap, ◌∙◌}
use Rattle.pb_verifier.specs.declared.holdings.Holding.{Holding}
use Rattle.pb_verifier.specs.Given.{instrs_of}
use Rattle.pb_verifier.specs.Spread.{fact_at}
use Rattle.pb_verifier.proofs.SharedHolds.{share_step}
use Rattle.pb_verifier.proofs.holdings.share_holds.Goals as goal

pub loop-left-preserved : goal.loop-left-preserved
loop-left-preserved c =
    let d = c.deref.ensures.value in
    let e = c.deref-in-loop-left.ensures.value in
    share_step (instrs_of c.args.code.now) c.args.table.now.items c.loop-left.table.items c.loop-left.left c.loop-left.a c.loop-left.b
    c.before-kept.result c.before-dropped.result c.loop-left.invariant c.loop-left-test.true
    (ap (λ (t : List (Option Holding)). fact_at t c.loop-left.a) (sym d) ∙ c.before-kept.ensures)
    (ap (λ (t : List (Option Holding)). fact_at t c.loop-left.b) (sym e) ∙ c.before-dropped.ensures)
