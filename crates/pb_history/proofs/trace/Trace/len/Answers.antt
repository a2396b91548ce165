use Rattle.std.proofs.Common.{sym, ◌∙◌}
use Rattle.pb_history.proofs.SpanEvents.{laid_size}
use Rattle.pb_history.proofs.trace.Trace.len.Goals as goal

pub returns : goal.returns
returns c =
    let t = c.self.inside in
    rw (← c.self.view_is) (c.len.ensures ∙ sym (laid_size t.spans.spans t.events.events c.self.invariant.laid))
