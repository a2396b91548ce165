use Rattle.std.proofs.Common.{refl, None, subst, ⊎_elim}
use Rattle.std.specs.Prelude.{Option}
use Rattle.pb_shared.specs.Ledgers.{IsLegal, HasOutcome}
use Rattle.pb_shared.specs.declared.outcome.Outcome.{Outcome}
use Rattle.pb_shared.proofs.LegalCalls.{none_ready_out}
use Rattle.pb_shared.proofs.book.Book.over_or_idle.Goals as goal

pub returns-in-None : goal.returns-in-None
returns-in-None g c quantum =
    let none : HasOutcome c.args.self.now None = subst (λ (o : Option Outcome). HasOutcome c.args.self.now o) c.in-None.is c.outcome.ensures.outcome in
    let legal : IsLegal g.C.CodeBrand.code c.args.self.now = rw c.self.view_is at c.self.invariant.legal in (
      none,
      c.requires,
      ⊎_elim none.1 (none_ready_out g.C.CodeBrand.code c.args.self.now legal none.0) c.requires,
      refl,
    )
