use Rattle.std.proofs.Common.{inr, sym, ◌∙◌}
use Rattle.std.proofs.lemmas.Result.{IfOk-weaker}
use Rattle.pb_mends.proofs.further.is_further.Goals as goal

pub returns-then-part : goal.returns-then-part
returns-then-part c =
    IfOk-weaker c.is_later.result _ _
    (λ is has later. inr (sym c.part.ensures ∙ c.if-part.true ∙ c.part-2.ensures, has later))
    c.is_later.ensures
