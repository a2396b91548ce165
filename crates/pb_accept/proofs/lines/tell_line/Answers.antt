use Rattle.pb_accept.proofs.lines.tell_line.Goals as goal

pub returns-in-TooLong-clause-err : goal.returns-in-TooLong-clause-err
returns-in-TooLong-clause-err g c = rw c.in-TooLong.is c.say-in-TooLong.ensures.err

pub returns-in-LongOutput-clause-err : goal.returns-in-LongOutput-clause-err
returns-in-LongOutput-clause-err g c = rw c.in-LongOutput.is c.say-in-LongOutput.ensures.err
