use Rattle.std.proofs.Common.{◌+◌, ◌<◌, List, length, sym, ap, ◌∙◌, subst, slice_get, arith}
use Rattle.pb_base.specs.declared.pick.Pick.{Pick}
use Rattle.pb_history.specs.Entries.{IsRest}
use Rattle.pb_history.specs.Traces.{trail_of}
use Rattle.pb_history.specs.declared.span.Span.{Span}
use Rattle.pb_history.proofs.SpanEvents.{laid_picks, laid_size}
use Rattle.pb_history.proofs.trace.Trace.rest_of_span.Goals as goal

pub rest-requires : goal.rest-requires
rest-requires c =
    let t = c.self.inside in
    let within : c.args.i < length (trail_of t).entries = rw (← c.self.view_is) at c.requires in
    let same = laid_size t.spans.spans t.events.events c.self.invariant.laid in
    omega (arith, within, same)

pub returns-clause-picks : goal.returns-clause-picks
returns-clause-picks c =
    let t = c.self.inside in
    rw (← c.self.view_is) (λ k few.
    ap (λ (ps : List Pick). slice_get ps (c.args.i + k)) (laid_picks t.spans.spans t.events.events c.self.invariant.laid)
    ∙ c.rest.ensures.picks k few)

pub returns-clause-span : goal.returns-clause-span
returns-clause-span c =
    let t = c.self.inside in
    rw (← c.self.view_is) (subst (λ (spans : List Span). IsRest spans c.args.i c.rest.result) (sym c.self.invariant.apart) c.rest.ensures.span)
