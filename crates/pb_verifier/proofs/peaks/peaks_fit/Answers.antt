use Rattle.std.proofs.Common.{◌≡◌, true, false, refl, sym, subst, arith, below_more}
use Rattle.pb_code.specs.View.{process_view}
use Rattle.pb_verifier.specs.Faults.{PeakFits}
use Rattle.pb_verifier.proofs.peaks.peaks_fit.Goals as goal

pub loop-r-preserved : goal.loop-r-preserved
loop-r-preserved c =
    below_more _ _ c.loop-r.invariant
    (subst (PeakFits (process_view c.args.code.now) c.loop-r.r) c.get.ensures (c.in_ok-peak_fits.ensures.0 c.if-not-branch.false))

pub returns : goal.returns
returns c =
    let n = c.resources-r-end.ensures.number in
    (λ _ r u. c.loop-r.invariant r (omega arith), λ _. refl)

pub returns-then-not-branch : goal.returns-then-not-branch
returns-then-not-branch c =
    let n = c.resources-r-end.ensures.number in (
      λ e. let wrong : false ≡ true = e in absurd cc,
      λ all.
          let here = all c.loop-r.r (omega arith) in
          let yes = c.in_ok-peak_fits.ensures.1 (subst (PeakFits (process_view c.args.code.now) c.loop-r.r) (sym c.get.ensures) here) in
          let no = c.if-not-branch.true in
          cc,
    )
