use Rattle.pb_plan_engine.proofs.lines.tell_line.Goals as goal

pub returns-in-Bottleneck-clause-ok : goal.returns-in-Bottleneck-clause-ok
returns-in-Bottleneck-clause-ok g c = rw c.in-Bottleneck.is (rw c.deref-in-Bottleneck.ensures.value at c.say_all-in-Bottleneck.ensures.ok)

pub returns-in-Bottleneck-clause-err : goal.returns-in-Bottleneck-clause-err
returns-in-Bottleneck-clause-err g c = rw c.in-Bottleneck.is (rw c.deref-in-Bottleneck.ensures.value at c.say_all-in-Bottleneck.ensures.err)

pub returns-in-TooLong-clause-ok : goal.returns-in-TooLong-clause-ok
returns-in-TooLong-clause-ok g c = rw c.in-TooLong.is c.say-in-TooLong.ensures.ok

pub returns-in-TooLong-clause-err : goal.returns-in-TooLong-clause-err
returns-in-TooLong-clause-err g c = rw c.in-TooLong.is c.say-in-TooLong.ensures.err
