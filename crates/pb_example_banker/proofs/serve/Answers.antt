use Rattle.std.proofs.Common.{◌∙◌, ap, arith, refl}
use Rattle.std.proofs.lemmas.Option.{slice_get-get_or}
use Rattle.pb_example_banker.proofs.Rounds.{one_granted, one_waits, one_hopeless}
use Rattle.pb_example_banker.proofs.serve.Goals.{in-Granted+in_ok-push-in-Granted, in-NotNow+in_ok-push-in-NotNow}
use Rattle.pb_example_banker.proofs.serve.Goals.{in-OverClaim+in_ok-push-in-OverClaim}
use Rattle.pb_example_banker.proofs.serve.Goals as goal
use Rattle.pb_example_banker.specs.Serving.{none}
use Rattle.pb_example_banker.specs.declared.Round.{Round}

pub loop-request-init : goal.loop-request-init
loop-request-init c = rw c.new.ensures.items (rw c.new-2.ensures.items (rw c.new-3.ensures.items (none, refl)))

pub loop-request-preserved : goal.loop-request-preserved
loop-request-preserved c =
    let before = c.loop-request.invariant in
    let i = c.loop-request.request-index in (
      elim c.match-ask.branch [
        | in-Granted+in_ok-push-in-Granted w ↦
            one_granted _ _ _ _ _ _ _ _ _ _ _ _ (slice_get-get_or c.args.requests.now i _ (omega arith)) before.0 w.in-Granted.ensures.answer
            (ap (λ (r : Round). r.granted.items) w.round-is ∙ w.in_ok-push-in-Granted.ensures.items)
            (ap (λ (r : Round). r.waiting.items) w.round-is)
            (ap (λ (r : Round). r.hopeless.items) w.round-is)
        | in-NotNow+in_ok-push-in-NotNow w ↦
            one_waits _ _ _ _ _ _ _ _ _ _ _ _ (slice_get-get_or c.args.requests.now i _ (omega arith)) before.0 w.in-NotNow.ensures.answer
            (ap (λ (r : Round). r.granted.items) w.round-is)
            (ap (λ (r : Round). r.waiting.items) w.round-is ∙ w.in_ok-push-in-NotNow.ensures.items)
            (ap (λ (r : Round). r.hopeless.items) w.round-is)
        | in-OverClaim+in_ok-push-in-OverClaim w ↦
            one_hopeless _ _ _ _ _ _ _ _ _ _ _ _ (slice_get-get_or c.args.requests.now i _ (omega arith)) before.0 w.in-OverClaim.ensures.answer
            (ap (λ (r : Round). r.granted.items) w.round-is)
            (ap (λ (r : Round). r.waiting.items) w.round-is)
            (ap (λ (r : Round). r.hopeless.items) w.round-is ∙ w.in_ok-push-in-OverClaim.ensures.items)
      ],
      c.ask.ensures.claims ∙ before.1,
    )
