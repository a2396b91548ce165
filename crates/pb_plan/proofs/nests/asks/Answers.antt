use Rattle.std.proofs.Common.{◌∙◌, ◌==◌, ◌||◌, Bool, ap, sym}
use Rattle.pb_plan.proofs.NestWalks.{asks_more}
use Rattle.pb_plan.proofs.nests.asks.Goals as goal

pub loop-i-preserved : goal.loop-i-preserved
loop-i-preserved c =
    c.is_one-found.ensures
    ∙ ap (λ (b : Bool). b || (c.get.result.resource == c.args.resource)) c.loop-i.invariant
    ∙ sym (asks_more c.args.bundle.now c.loop-i.i c.args.resource c.get.result c.get.ensures)
