use Rattle.std.proofs.Common.{◌≡◌, ℕ, Some, ap, refl, sym, subst, slice_get, ◌∙◌, arith}
use Rattle.pb_base.specs.declared.lending.Lending.TheVariants.{ByBanker}
use Rattle.pb_machine.specs.Views.{proc_view, IsProcessOf}
use Rattle.pb_shared.specs.Books.{ledger_of}
use Rattle.pb_shared.specs.Ledgers.{Ledger}
use Rattle.pb_shared.specs.Lending.{Lent, IsSilentRun}
use Rattle.pb_shared.specs.Spares.{IsSpareOf}
use Rattle.pb_shared.specs.Taking.{StartsAt}
use Rattle.pb_shared.proofs.book.Book.fresh.Goals as goal

pub begin-requires : goal.begin-requires
begin-requires g c = (
  g.C.CodeBrand.code,
  c.args.pick.process,
  c.self.invariant.legal.verified,
  subst (IsSpareOf g.C.CodeBrand.code c.args.pick.process) (sym c.deref_mut.ensures.value) c.in_ok-spare.ensures.spare,
  subst (λ (p : ℕ). IsProcessOf g.C.CodeBrand.code p c.proc.result.now) c.from-number.ensures
      (c.proc.ensures.process ByBanker g.C.CodeBrand.code c.self.invariant.machine),
)

pub invariant_of-result : goal.invariant_of-result
invariant_of-result g c =
    let code = g.C.CodeBrand.code in
    let spare = subst (IsSpareOf code c.args.pick.process) (sym c.deref_mut.ensures.value) c.in_ok-spare.ensures.spare in
    let process = subst (λ (p : ℕ). IsProcessOf code p c.proc.result.now) c.from-number.ensures (c.proc.ensures.process ByBanker code c.self.invariant.machine) in
    record {
      refers = c.self.invariant.refers;
      run = subst (IsSilentRun code.code) (sym c.begin.ensures.lent) (record { within = omega arith; runs = refl });
      spare = subst (λ (p : ℕ). IsSpareOf code p c.begin.new.self) (ap (λ (l : Lent). l.pick.process) (sym c.begin.ensures.lent))
          (c.begin.ensures.spare code c.args.pick.process spare process);
    }

pub returns-clause-same : goal.returns-clause-same
returns-clause-same g c = c.spare.ensures.same

pub returns-clause-starts : goal.returns-clause-starts
returns-clause-starts g c =
    let there : slice_get (ledger_of c.self.inside).machine.processes c.args.pick.process ≡ Some (proc_view c.proc.result.now) =
    ap (slice_get (ledger_of c.self.inside).machine.processes) (sym c.from-number.ensures) ∙ c.proc.ensures.state in
    subst (λ (l : Lent). StartsAt c.args.self.now c.args.pick c.args.allowance l) (sym c.begin.ensures.lent) (record {
      pick_is = refl;
      allowance_is = refl;
      base = subst (λ (s : Ledger). slice_get s.machine.processes c.args.pick.process ≡ Some (proc_view c.proc.result.now))
          (c.self.view_is ∙ c.spare.ensures.same) there;
      state = refl;
      made = refl;
    })
