use Rattle.std.proofs.Common.{None, ◌∷◌, ◌++◌, [], ap, ◌∙◌}
use Rattle.pb_shared.proofs.SpareStretches.{none_more}
use Rattle.pb_shared.proofs.book.no_spares.Goals as goal

pub loop-process-preserved : goal.loop-process-preserved
loop-process-preserved c =
    c.in_ok-push.ensures.items ∙ (ap (λ xs. xs ++ None ∷ []) c.loop-process.invariant ∙ none_more None c.loop-process.process)
