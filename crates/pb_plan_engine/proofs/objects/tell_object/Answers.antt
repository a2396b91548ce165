use Rattle.pb_plan_engine.proofs.objects.tell_object.Goals as goal

pub returns-in-NoRequestWaits-clause-err : goal.returns-in-NoRequestWaits-clause-err
returns-in-NoRequestWaits-clause-err g c = rw c.in-NoRequestWaits.is c.say.ensures.err

pub returns-in-NoOrder-clause-ok : goal.returns-in-NoOrder-clause-ok
returns-in-NoOrder-clause-ok g c = rw c.in-NoOrder.is c.say-in-NoOrder.ensures.ok

pub returns-in-NoOrder-clause-err : goal.returns-in-NoOrder-clause-err
returns-in-NoOrder-clause-err g c = rw c.in-NoOrder.is c.say-in-NoOrder.ensures.err

pub returns-in-TooLong-clause-ok : goal.returns-in-TooLong-clause-ok
returns-in-TooLong-clause-ok g c = rw c.in-TooLong.is c.say-in-TooLong.ensures.ok

pub returns-in-TooLong-clause-err : goal.returns-in-TooLong-clause-err
returns-in-TooLong-clause-err g c = rw c.in-TooLong.is c.say-in-TooLong.ensures.err

pub returns-in-NoMemory-clause-ok : goal.returns-in-NoMemory-clause-ok
returns-in-NoMemory-clause-ok g c = rw c.in-NoMemory.is c.say-in-NoMemory.ensures.ok

pub returns-in-NoMemory-clause-err : goal.returns-in-NoMemory-clause-err
returns-in-NoMemory-clause-err g c = rw c.in-NoMemory.is c.say-in-NoMemory.ensures.err
