use Rattle.std.proofs.Common.{◌≡◌, ◌≤◌, Some, None, slice_get}
use Rattle.pb_shared.specs.declared.slip.Slip.{Slip}
use Rattle.pb_shared.specs.Books.{ledger_of}
use Rattle.pb_shared.proofs.LegalCalls.{lent_legal}
use Rattle.pb_shared.proofs.SpareStretches.{spares_stay}
use Rattle.pb_shared.proofs.book.Book.lend.Goals as goal

pub invariant_of-self : goal.invariant_of-self
invariant_of-self g c =
    let slip : Slip = record { arm = c.args.pick.arm; allowance = c.args.allowance } in
    let at_home : slice_get (ledger_of c.self.inside).slips c.args.pick.process ≡ Some None = rw (← c.self.view_is) at c.requires.at_home in
    let within : slip.allowance ≤ (ledger_of c.self.inside).left = rw (← c.self.view_is) at c.requires.within in
    record {
      refers = c.self.invariant.refers;
      legal = rw c.from-process.ensures (lent_legal g.C.CodeBrand.code (ledger_of c.self.inside) c.args.pick.process
          slip c.self.invariant.legal at_home within);
      machine = c.self.invariant.machine;
      spares = spares_stay g.C.CodeBrand.code _ _ c.self.invariant.spares _ _;
    }
