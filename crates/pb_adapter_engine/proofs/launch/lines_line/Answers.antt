use Rattle.std.proofs.lemmas.Result.{IfOk-at_ok}
use Rattle.pb_accept.specs.ReplayLines.{SaysOfNoPicksBy}
use Rattle.pb_adapter_engine.proofs.LaunchLemmas.{lines_refused}
use Rattle.pb_adapter_engine.proofs.launch.lines_line.Goals as goal

pub returns : goal.returns
returns c lending code lines is =
    let reply = c.in_ok-text.field-0 in
    lines_refused lending code lines reply.text.items c.without_feed.new.text.items reply.status
    (IfOk-at_ok (λ r. SaysOfNoPicksBy lending code lines r.text.items r.status) c.in_ok-text.was (c.lines_refusal.ensures lending code lines is))
    c.without_feed.ensures
