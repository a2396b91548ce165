use Rattle.std.proofs.Common.{◌≡◌, ◌+◌, ◌<◌, List, length, ap, ◌∙◌, slice_get, arith}
use Rattle.pb_base.specs.declared.pick.Pick.{Pick}
use Rattle.pb_history.specs.Traces.{trail_of}
use Rattle.pb_history.specs.Entries.{all_picks}
use Rattle.pb_history.proofs.SpanEvents.{laid_picks, laid_size}
use Rattle.pb_history.proofs.trace.Trace.pick.Goals as goal

pub rest-rest-requires : goal.rest-rest-requires
rest-rest-requires c =
    let t = c.self.inside in
    let within : c.args.i < length (trail_of t).entries = rw (← c.self.view_is) at c.requires in
    let same = laid_size t.spans.spans t.events.events c.self.invariant.laid in
    omega (arith, within, same)

pub returns : goal.returns
returns c =
    let t = c.self.inside in
    let i = c.args.i in
    let none : i ≡ i + 0 = omega arith in
    rw (← c.self.view_is) (ap (λ (ps : List Pick). slice_get ps i) (laid_picks t.spans.spans t.events.events c.self.invariant.laid)
    ∙ (ap (slice_get (all_picks t.spans.spans)) none ∙ c.rest-rest.ensures.picks 0 c.rest-rest.ensures.some))
