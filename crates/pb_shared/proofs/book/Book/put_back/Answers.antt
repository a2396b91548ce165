use Rattle.std.proofs.Common.{ℕ, Some, None, sym, subst, arith}
use Rattle.pb_shared.specs.Books.{ledger_of}
use Rattle.pb_shared.specs.Ledgers.{IsLentBy}
use Rattle.pb_shared.proofs.LegalCalls.{back_fits, given_back_legal, slip_within}
use Rattle.pb_shared.specs.Spares.{lent_as, IsSpareOf}
use Rattle.pb_shared.specs.declared.spare.Spare.{Spare}
use Rattle.pb_shared.proofs.SpareStretches.{spare_at, spares_stay, spares_with}
use Rattle.pb_shared.proofs.book.Book.put_back.Goals as goal

pub index_mut-requires : goal.index_mut-requires
index_mut-requires g c =
    let by : IsLentBy (ledger_of c.self.inside) (lent_as c.deref-lent.result.now) = rw (
      ← c.self.view_is,
      ← c.stretch.view_is,
      ← c.deref-lent.ensures,
    ) at (c.lent.ensures.0 c.if-not-lent.false) in
    let lt = slip_within g.C.CodeBrand.code (ledger_of c.self.inside) (lent_as c.deref-lent.result.now) c.self.invariant.legal by in
    let from = c.from-process.ensures in
    let all = c.self.invariant.spares.all in
    omega (arith, lt, from, all, c.self.inside.slips.ok.0)

pub index_mut-requires-2 : goal.index_mut-requires-2
index_mut-requires-2 g c =
    let by : IsLentBy (ledger_of c.self.inside) (lent_as c.deref-lent.result.now) = rw (
      ← c.self.view_is,
      ← c.stretch.view_is,
      ← c.deref-lent.ensures,
    ) at (c.lent.ensures.0 c.if-not-lent.false) in
    let lt = slip_within g.C.CodeBrand.code (ledger_of c.self.inside) (lent_as c.deref-lent.result.now) c.self.invariant.legal by in
    let from = c.from-process.ensures in
    omega (arith, lt, from, c.self.inside.slips.ok.0)

pub overflow_add-self : goal.overflow_add-self
overflow_add-self g c =
    let by : IsLentBy (ledger_of c.self.inside) (lent_as c.deref-lent.result.now) = rw (
      ← c.self.view_is,
      ← c.stretch.view_is,
      ← c.deref-lent.ensures,
    ) at (c.lent.ensures.0 c.if-not-lent.false) in
    let fits = back_fits g.C.CodeBrand.code (ledger_of c.self.inside) (lent_as c.deref-lent.result.now) c.self.invariant.legal by in
    let limited = c.self.invariant.legal.limited in
    omega (arith, fits, limited)

pub invariant_of-self : goal.invariant_of-self
invariant_of-self g c =
    let by : IsLentBy (ledger_of c.self.inside) (lent_as c.deref-lent.result.now) = rw (
      ← c.self.view_is,
      ← c.stretch.view_is,
      ← c.deref-lent.ensures,
    ) at (c.lent.ensures.0 c.if-not-lent.false) in
    let of : IsSpareOf g.C.CodeBrand.code c.deref-lent.result.now.pick.process c.stretch.inside.spare.value =
    subst (λ (x : Spare). IsSpareOf g.C.CodeBrand.code x.pick.process c.stretch.inside.spare.value) (sym c.deref-lent.ensures) c.stretch.invariant.spare in
    record {
      refers = c.self.invariant.refers;
      legal = rw c.from-process.ensures
          (given_back_legal g.C.CodeBrand.code (ledger_of c.self.inside) (lent_as c.deref-lent.result.now) c.self.invariant.legal by);
      machine = c.self.invariant.machine;
      spares = spares_with g.C.CodeBrand.code _ _ (spares_stay g.C.CodeBrand.code _ _ c.self.invariant.spares _ None) _ (Some c.stretch.inside.spare)
          (spare_at g.C.CodeBrand.code c.from-process.result c.stretch.inside.spare (subst (λ (p : ℕ). IsSpareOf
          g.C.CodeBrand.code p c.stretch.inside.spare.value) (sym c.from-process.ensures) of));
    }
