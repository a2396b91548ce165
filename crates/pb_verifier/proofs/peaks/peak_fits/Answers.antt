use Rattle.std.proofs.Common.{ℕ, List, Option, refl, sym, subst, arith}
use Rattle.std.proofs.lemmas.Bool.{leb-true, le-leb}
use Rattle.pb_code.specs.View.{process_view}
use Rattle.pb_verifier.specs.declared.amounts.Amount.{Amount}
use Rattle.pb_verifier.specs.Amounts.{TurnsAmount}
use Rattle.pb_verifier.specs.Spread.{IsTableOf, notes_of}
use Rattle.pb_verifier.proofs.UntakenResources.{absent_fits}
use Rattle.pb_verifier.proofs.PeakTables.{peak_fits, peak_least}
use Rattle.pb_verifier.proofs.peaks.peak_fits.Goals as goal

pub returns-then-not-takes_any : goal.returns-then-not-takes_any
returns-then-not-takes_any c =
    (λ _. absent_fits (process_view c.args.code.now) c.args.resource c.args.claim (c.if-not-takes_any.ensures refl), λ _. refl)

pub returns : goal.returns
returns c =
    let root = c.root_peak.ensures in
    let is = root.1 in
    let amounts = subst (λ (t : List (Option Amount)). IsTableOf (process_view c.args.code.now) TurnsAmount
    (c.args.resource, 0) (notes_of (λ (a : Amount). let x : ℕ × ℕ = (a.resource, a.held) in x) t)) (sym
    c.deref.ensures.value) c.in_ok-table.ensures.amounts in (
      λ e.
          let within = leb-true c.root_peak.result c.args.claim e in
          peak_fits (process_view c.args.code.now) c.requires.arms c.requires.forks c.requires.small.some_arms.0
          c.deref.result.now c.requires.small c.args.resource amounts root.0 root.2 c.args.claim (omega arith),
      λ fits.
          let least = peak_least (process_view c.args.code.now) c.requires.arms c.requires.forks
          c.requires.small.some_arms.0 c.deref.result.now c.requires.small c.args.resource amounts root.0 root.2
          c.requires.holdings c.args.claim fits in
          le-leb c.root_peak.result c.args.claim (omega arith),
    )
