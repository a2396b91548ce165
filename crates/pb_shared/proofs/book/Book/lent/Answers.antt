use Rattle.std.proofs.Common.{◌≡◌, Some, sym, ap, ◌∙◌, slice_get, arith}
use Rattle.std.proofs.lemmas.Grind.{common_steps}
use Rattle.pb_code.specs.Code.{CodeProcess}
use Rattle.pb_shared.specs.Books.{ledger_of}
use Rattle.pb_shared.specs.Ledgers.{IsLentBy}
use Rattle.pb_shared.specs.Spares.{lent_as}
use Rattle.pb_shared.specs.declared.slip.Slip.{Slip}
use Rattle.pb_shared.proofs.LegalCalls.{same_slip, slip_of, slip_there}
use Rattle.pb_shared.proofs.book.Book.lent.Goals as goal

pub returns : goal.returns
returns g c =
    let s = ledger_of c.self.inside in
    let lent = lent_as c.deref-lent.result.now in
    let from = c.from-process.ensures in
    let at : slice_get s.slips c.from-process.result ≡ Some (Some c.in-Some.slip) =
    slip_there s.slips c.from-process.result c.in-Some.slip (rw (← c.self.view_is) at c.in-Some.ensures) in
    let slip : c.in-Some.slip ≡ slip_of lent = same_slip c.in-Some.slip (slip_of lent) (omega (
      arith,
      c.if-slip-lent.false,
    )) (omega (arith, c.if-slip-lent-2.false)) in (
      λ yes. rw (← c.self.view_is, ← c.stretch.view_is, ← c.deref-lent.ensures) (record {
        slip = ap (slice_get s.slips) (sym from) ∙ (at ∙ ap (λ (x : Slip). Some (Some x)) slip);
        base = ap (slice_get s.machine.processes) (sym from) ∙ (c.proc.ensures.state ∙ ap (λ (x : CodeProcess). Some x) (c.same.ensures.0 yes));
      }),
      λ by.
          let here : IsLentBy s lent = rw (← c.self.view_is, ← c.stretch.view_is, ← c.deref-lent.ensures) at by in
          let there : Some _ ≡ Some _ = sym c.proc.ensures.state ∙ (ap (slice_get s.machine.processes) from ∙ here.base) in
          c.same.ensures.1 (cc),
    )

pub proc-requires : goal.proc-requires
proc-requires g c = grind (arith, common_steps) steps 400000
