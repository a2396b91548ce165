use Rattle.std.proofs.Common.{◌≡◌, ◌+◌, ◌-◌, ◌<◌, suc, Some, length, take, sym, ap, ◌∙◌, arith}
use Rattle.pb_history.specs.Entries.{size}
use Rattle.pb_history.specs.Ends.{span_row, spans_from}
use Rattle.pb_history.proofs.SpanEnds.{end_is, item_there, length_from, start_is}
use Rattle.pb_history.proofs.spans.Spans.start.Goals as goal

pub index-before-requires : goal.index-before-requires
index-before-requires c =
    let t = c.self.inside in
    let within : c.args.i < length (span_row t).spans = rw (← c.self.view_is) at c.requires in
    let same = length_from 0 t.ends.items in
    omega (arith, within, same, t.ends.ok.0)

pub returns : goal.returns
returns c =
    let t = c.self.inside in
    let ends = t.ends.items in
    let i = c.args.i in
    let within : i < length (span_row t).spans = rw (← c.self.view_is) at c.requires in
    let same = length_from 0 ends in
    let lt : i - 1 < length ends = omega (arith, within, same) in
    let e = c.index-before.result.now in
    let end = end_is ends (i - 1) e (item_there ends (i - 1) e lt ∙ ap Some (sym c.index-before.ensures)) in
    let start = start_is 0 t.len ends (i - 1) c.self.invariant lt in
    let more = c.if-i-eq0.false in
    let number : suc (i - 1) ≡ i = omega (arith, more) in
    let all : 0 + size (take i (spans_from 0 ends)) ≡ e.end = rw number at (start ∙ end) in
    rw (← c.self.view_is) (omega (arith, all))
