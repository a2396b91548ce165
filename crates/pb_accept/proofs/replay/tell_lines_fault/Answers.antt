use Rattle.pb_accept.proofs.ReplayLemmas.{lines_are_refused}
use Rattle.pb_voice.specs.Held.{at}
use Rattle.pb_accept.proofs.replay.tell_lines_fault.Goals as goal

pub returns : goal.returns
returns g c lending code lines is =
    lines_are_refused g.T.Teller.tells g.T.Teller.breaks (at g.O.Output.written g.O.Output.failures c.args.teller.now c.args.output.now)
    (at g.O.Output.written g.O.Output.failures c.tell_refused.new.teller c.tell_refused.new.output) c.tell_refused.result lending code
    lines c.args.fault c.lines_cause.result c.lines_cause.ensures is c.tell_refused.ensures
