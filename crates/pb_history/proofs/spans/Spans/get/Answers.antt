use Rattle.std.proofs.Common.{◌≡◌, ◌+◌, ◌<◌, ℕ, Some, length, slice_get, take, sym, ap, ◌∙◌, arith}
use Rattle.pb_history.specs.Entries.{size}
use Rattle.pb_history.specs.Ends.{span_row, spans_from}
use Rattle.pb_history.proofs.SpanEnds.{item_there, length_from, span_at, span_to, starts_before}
use Rattle.pb_history.proofs.spans.Spans.get.Goals as goal

pub index-requires : goal.index-requires
index-requires c =
    let t = c.self.inside in
    let within : c.args.i < length (span_row t).spans = rw (← c.self.view_is) at c.requires in
    let same = length_from 0 t.ends.items in
    omega (arith, within, same, t.ends.ok.0)

pub overflow_sub-count : goal.overflow_sub-count
overflow_sub-count c =
    let t = c.self.inside in
    let ends = t.ends.items in
    let i = c.args.i in
    let within : i < length (span_row t).spans = rw (← c.self.view_is) at c.requires in
    let start : c.start.result ≡ size (take i (spans_from 0 ends)) = rw (← c.self.view_is) at c.start.ensures in
    let same = length_from 0 ends in
    let e = c.index.result.now in
    let there : slice_get ends i ≡ Some e = item_there ends i e (omega (arith, within, same)) ∙ ap Some (sym c.index.ensures) in
    let before = starts_before 0 t.len ends i e c.self.invariant there in
    omega (arith, before, start)

pub returns : goal.returns
returns c =
    let t = c.self.inside in
    let ends = t.ends.items in
    let i = c.args.i in
    let within : i < length (span_row t).spans = rw (← c.self.view_is) at c.requires in
    let start : c.start.result ≡ size (take i (spans_from 0 ends)) = rw (← c.self.view_is) at c.start.ensures in
    let same = length_from 0 ends in
    let e = c.index.result.now in
    let there : slice_get ends i ≡ Some e = item_there ends i e (omega (arith, within, same)) ∙ ap Some (sym c.index.ensures) in
    let from : 0 + size (take i (spans_from 0 ends)) ≡ c.start.result = omega (arith, start) in
    rw (← c.self.view_is) (span_at 0 t.len ends i e c.self.invariant there ∙ ap (λ (n : ℕ). Some (span_to n e)) from)
