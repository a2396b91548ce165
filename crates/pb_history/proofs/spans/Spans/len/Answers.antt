use Rattle.std.proofs.Common.{arith}
use Rattle.pb_history.proofs.SpanEnds.{size_from}
use Rattle.pb_history.proofs.spans.Spans.len.Goals as goal

pub returns : goal.returns
returns c =
    let s = c.self.inside in
    rw (← c.self.view_is) (let size = size_from 0 s.len s.ends.items c.self.invariant in omega (arith, size))
