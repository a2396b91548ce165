use Rattle.std.proofs.Common.{◌∙◌, ◌++◌, ◌∷◌, [], ap, sym}
use Rattle.pb_plan.proofs.OrderLemmas.{range_more}
use Rattle.pb_plan.proofs.order.numbers.Goals as goal

pub loop-r-preserved : goal.loop-r-preserved
loop-r-preserved c =
    c.in_ok-push.ensures.items ∙ ap (λ xs. xs ++ c.loop-r.r ∷ []) c.loop-r.invariant ∙ sym (range_more c.loop-r.r)
