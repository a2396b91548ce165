use Rattle.std.proofs.Common.{List, length, sym, ap, ◌∙◌}
use Rattle.pb_base.specs.declared.event.Event.{Event}
use Rattle.pb_history.proofs.SpanEvents.{laid_events}
use Rattle.pb_history.proofs.trace.Trace.events_len.Goals as goal

pub returns : goal.returns
returns c =
    let t = c.self.inside in
    rw (← c.self.view_is) (c.len.ensures ∙ sym (ap (λ (es : List Event). length es) (laid_events t.spans.spans t.events.events c.self.invariant.laid)))
