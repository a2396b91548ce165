use Rattle.std.proofs.Common.{◌<◌, List, length, ap, ◌∙◌, slice_get, arith}
use Rattle.pb_base.specs.declared.event.Event.{Event}
use Rattle.pb_history.specs.Entries.{events_of}
use Rattle.pb_history.specs.Traces.{trail_of}
use Rattle.pb_history.proofs.SpanEvents.{laid_events}
use Rattle.pb_history.proofs.trace.Trace.event.Goals as goal

pub get-requires : goal.get-requires
get-requires c =
    let t = c.self.inside in
    let within : c.args.i < length (events_of (trail_of t).entries) = rw (← c.self.view_is) at c.requires in
    let same = ap (λ (es : List Event). length es) (laid_events t.spans.spans t.events.events c.self.invariant.laid) in
    omega (arith, within, same)

pub returns : goal.returns
returns c =
    let t = c.self.inside in
    rw (← c.self.view_is) (ap (λ (es : List Event). slice_get es c.args.i) (laid_events t.spans.spans t.events.events c.self.invariant.laid) ∙ c.get.ensures)
