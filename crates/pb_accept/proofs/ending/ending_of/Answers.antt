use Rattle.std.proofs.Common.{◌≡◌, false, true, sym, ◌∙◌}
use Rattle.pb_accept.proofs.ending.ending_of.Goals as goal

pub returns-then-goes_on : goal.returns-then-goes_on
returns-then-goes_on c lending is = (
  λ over. let both : false ≡ true = sym c.if-finished.false ∙ c.finished.ensures.1 over in absurd cc,
  (c.goes_on.ensures lending is).0 c.if-goes_on.true,
)
