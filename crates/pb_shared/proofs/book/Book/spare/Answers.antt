use Rattle.std.proofs.Common.{◌≡◌, ℕ, Some, None, ap, ◌∙◌, slice_get, subst, sym, arith}
use Rattle.std.proofs.lemmas.Option.{slice_get_within}
use Rattle.pb_shared.specs.Books.{ledger_of}
use Rattle.pb_shared.specs.Spares.{IsSpareOf}
use Rattle.pb_shared.proofs.SpareStretches.{none_at, spares_with}
use Rattle.pb_shared.proofs.book.Book.spare.Goals as goal
use Rattle.pb_base.proofs.Lists.{item_at}

pub index_mut-requires : goal.index_mut-requires
index_mut-requires g c =
    let here : slice_get (ledger_of c.self.inside).slips c.args.pick.process ≡ Some None = rw (← c.self.view_is) at c.requires in
    let lt = slice_get_within (ledger_of c.self.inside).slips c.args.pick.process _ here in
    let all = c.self.invariant.spares.all in
    let from = c.from-process.ensures in
    omega (arith, lt, all, from)

pub invariant_of-self : goal.invariant_of-self
invariant_of-self g c = record {
  refers = c.self.invariant.refers;
  legal = c.self.invariant.legal;
  machine = c.self.invariant.machine;
  spares = spares_with g.C.CodeBrand.code _ _ c.self.invariant.spares c.from-process.result c.take-kept.new.self
      (none_at g.C.CodeBrand.code c.from-process.result c.take-kept.new.self c.take-kept.ensures.after);
}

pub returns-in-Some-clause-spare : goal.returns-in-Some-clause-spare
returns-in-Some-clause-spare g c =
    let here : slice_get (ledger_of c.self.inside).slips c.args.pick.process ≡ Some None = rw (← c.self.view_is) at c.requires in
    let lt = slice_get_within (ledger_of c.self.inside).slips c.args.pick.process _ here in
    let all = c.self.invariant.spares.all in
    let from = c.from-process.ensures in
    let there = item_at c.self.inside.spares.items c.from-process.result c.index_mut.result.now (omega (arith, lt, all, from)) c.index_mut.ensures.value in
    subst (λ (p : ℕ). IsSpareOf g.C.CodeBrand.code p c.in-Some.spare.value) from
    (c.self.invariant.spares.each c.from-process.result c.in-Some.spare (there ∙ ap Some (sym c.take-kept.ensures.value ∙ c.in-Some.is)))

pub proc-requires : goal.proc-requires
proc-requires g c =
    let here : slice_get (ledger_of c.self.inside).slips c.args.pick.process ≡ Some None = rw (← c.self.view_is) at c.requires in
    let lt = slice_get_within (ledger_of c.self.inside).slips c.args.pick.process _ here in
    let slots = c.self.invariant.legal.slots in
    let from = c.from-process.ensures in
    omega (arith, lt, slots, from)
