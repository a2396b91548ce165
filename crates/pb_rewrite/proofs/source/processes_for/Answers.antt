use Rattle.std.proofs.Common.{ap, ◌∙◌, arith}
use Rattle.std.proofs.lemmas.List.{take_all}
use Rattle.pb_rewrite.proofs.Openings.{opened, opened_pushed, source_of}
use Rattle.pb_rewrite.proofs.source.processes_for.Goals as goal

pub loop-process-preserved : goal.loop-process-preserved
loop-process-preserved g c =
    opened_pushed c.loop-process.made.items _ c.deref-process-items.result.now c.loop-process.process-index c.process-item.result _
    c.loop-process.invariant (omega arith) c.process-item.is c.in_ok-push.ensures.items
    (c.in_ok-new.ensures ∙ source_of c.process-item.result _ _ (omega (arith, c.len.ensures, c.process-item.result.integers.ok.0)) c.in_ok-body.ensures)

pub returns : goal.returns
returns g c =
    c.loop-process.invariant
    ∙ ap opened (take_all c.loop-process.process-index c.deref-process-items.result.now (omega arith))
    ∙ ap opened c.deref-process-items.ensures.value
