use Rattle.std.proofs.Common.{arith}
use Rattle.pb_history.proofs.SpanEnds.{length_from}
use Rattle.pb_history.proofs.spans.Spans.count.Goals as goal

pub returns : goal.returns
returns c =
    let s = c.self.inside in
    rw (← c.self.view_is) (let same = length_from 0 s.ends.items in omega (arith, same, s.ends.ok.0))
