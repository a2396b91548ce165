-- What a legal book says of its outcome.
use Rattle.std.proofs.Common.{◌≡◌, ℕ, List, length, Some, refl, sym, ap, subst, arith}
use Rattle.pb_code.specs.Whole.{code_opening}
use Rattle.pb_history.specs.Entries.{Entry}
use Rattle.pb_history.specs.Leads.{Leads}
use Rattle.pb_shared.specs.Ledgers.{Ledger, IsLegal, HasOutcome}
use Rattle.pb_shared.specs.declared.outcome.Outcome.{Outcome}
use Rattle.pb_shared.specs.declared.outcome.Outcome.TheVariants.{Done, Limit}
use Rattle.pb_verifier.specs.Verified.{VerifiedCode}
use Rattle.pb_workers.specs.declared.report.Report.{Report}
use Rattle.pb_workers.specs.Reports.{IsReport, EndsAs}

ends : (s : Ledger) (o : Outcome) → HasOutcome s (Some o) → (Some o ≡ Some Limit → length s.entries ≡ s.limit) → EndsAs o s.limit s.entries s.machine
ends s Done h limit = h
ends s Limit h limit = (h.0, limit refl)

-- a legal book of this limit, its picks and its outcome make a report
pub report_of : (code : VerifiedCode) (s : Ledger) (report : Report) (limit : ℕ) → IsLegal code s → s.limit ≡ limit → report.trace.entries ≡ s.entries
    → HasOutcome s (Some report.outcome) → (Some report.outcome ≡ Some Limit → length s.entries ≡ s.limit) → IsReport code.code limit report
report_of code s report limit legal is_limit made h at_limit = record {
  end = s.machine;
  leads = subst (λ (es : List Entry). Leads code.code (code_opening code.code) es s.machine) (sym made) legal.leads;
  few = let counted = legal.counted in
      let many = ap (λ (es : List Entry). length es) made in
      omega (arith, counted, many, is_limit);
  ends = subst (λ (es : List Entry). EndsAs report.outcome limit es s.machine) (sym made)
      (subst (λ (n : ℕ). EndsAs report.outcome n s.entries s.machine) is_limit (ends s report.outcome h at_limit));
}
