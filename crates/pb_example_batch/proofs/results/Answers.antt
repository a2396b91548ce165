use Rattle.std.proofs.Common.{◌++◌, ◌∙◌, ◌∷◌, [], ℤ, List, Option, ap, sym}
use Rattle.pb_example_batch.proofs.Printouts.{one_more_job}
use Rattle.pb_example_batch.proofs.results.Goals as goal
use Rattle.pb_example_batch.specs.Results.{last_prints}
use Rattle.pb_history.specs.Entries.{events_of}

pub loop-job-preserved : goal.loop-job-preserved
loop-job-preserved c =
    let events = events_of c.args.trace.now.entries in
    c.in_ok-push.ensures.items
    ∙ (ap (λ (rs : List (Option ℤ)). rs ++ c.last_print.result ∷ []) c.loop-job.invariant
    ∙ (ap (λ (x : Option ℤ). last_prints c.loop-job.job events ++ x ∷ []) c.last_print.ensures
    ∙ sym (one_more_job c.loop-job.job events)))
