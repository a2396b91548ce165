use Rattle.std.proofs.Common.{◌∙◌, ℤ, Option, ap, sym}
use Rattle.pb_example_batch.proofs.Printouts.{one_more_event}
use Rattle.pb_example_batch.proofs.last_print.Goals as goal
use Rattle.pb_example_batch.specs.Results.{result_after}
use Rattle.pb_history.specs.Entries.{events_of}

pub loop-i-preserved : goal.loop-i-preserved
loop-i-preserved c =
    c.result_after-last.ensures
    ∙ (ap (λ (before : Option ℤ). result_after c.args.job before c.event.result) c.loop-i.invariant
    ∙ sym (one_more_event c.args.job c.loop-i.i (events_of c.args.trace.now.entries) c.event.result c.event.ensures))
