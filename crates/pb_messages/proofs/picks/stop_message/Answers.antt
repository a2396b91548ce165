use Rattle.pb_messages.proofs.SaidLemmas.{stop_told}
use Rattle.pb_messages.proofs.picks.stop_message.Goals as goal

pub returns : goal.returns
returns c =
    stop_told (λ told. told.items) c.args.lending c.args.verified.now.code c.args.lines.before c.args.lines.text.now c.args.picks.now
    c.in-NotEnabled.number c.in-Some.stop c.in_ok-wording.wording c.worded.result c.requires.spelled (rw c.in-NotEnabled.is at c.requires.stopped)
    (c.in-Some.ensures c.args.verified.now.code c.requires.spelled) c.in_ok-wording.ensures c.worded.ensures.told c.worded.ensures.shows
    c.worded.ensures.whole
