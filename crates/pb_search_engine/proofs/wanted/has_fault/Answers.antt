use Rattle.std.proofs.Common.{◌≡◌, ◌∙◌, true, false, ap, refl}
use Rattle.pb_search.specs.Outcomes.{process_outcome_view}
use Rattle.pb_search.specs.declared.found.ProcessOutcome.{ProcessOutcome}
use Rattle.pb_search_engine.proofs.WantedLemmas.{all_more, all_there, has_faulted}
use Rattle.pb_search_engine.proofs.wanted.has_fault.Goals as goal

pub returns-then-outcome-p : goal.returns-then-outcome-p
returns-then-outcome-p c = (
  λ e. absurd (let t : true ≡ false = e in cc),
  λ none.
      absurd (has_faulted c.args.outcome.now c.loop-p.p c.index-outcome-p.result c.loop-p-test.true c.index-outcome-p.is
      (ap (λ (o : ProcessOutcome). o.faulted) c.index-outcome-p.is ∙ c.if-outcome-p.true) none),
)

pub loop-p-preserved : goal.loop-p-preserved
loop-p-preserved c =
    all_more process_outcome_view (λ p. p.faulted ≡ false) c.args.outcome.now c.loop-p.p c.index-outcome-p.result c.loop-p-test.true
    c.index-outcome-p.is c.loop-p.invariant
    (ap (λ (o : ProcessOutcome). o.faulted) c.index-outcome-p.is ∙ c.if-outcome-p.false)

pub returns : goal.returns
returns c =
    (λ e. all_there process_outcome_view (λ p. p.faulted ≡ false) c.args.outcome.now c.loop-p.p c.loop-p-test.false c.loop-p.invariant, λ none. refl)
