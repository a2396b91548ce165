use Rattle.pb_accept.proofs.objects.tell_object.Goals as goal

pub returns-in-TooLong-clause-err : goal.returns-in-TooLong-clause-err
returns-in-TooLong-clause-err g c = rw c.in-TooLong.is c.say-in-TooLong.ensures.err

pub returns-in-NoMemory-clause-ok : goal.returns-in-NoMemory-clause-ok
returns-in-NoMemory-clause-ok g c = rw c.in-NoMemory.is c.say-in-NoMemory.ensures.ok

pub returns-in-NoMemory-clause-err : goal.returns-in-NoMemory-clause-err
returns-in-NoMemory-clause-err g c = rw c.in-NoMemory.is c.say-in-NoMemory.ensures.err

pub returns-in-BeyondFirst-clause-err : goal.returns-in-BeyondFirst-clause-err
returns-in-BeyondFirst-clause-err g c = rw c.in-BeyondFirst.is c.say-in-BeyondFirst.ensures.err

pub returns-in-Threads-clause-ok : goal.returns-in-Threads-clause-ok
returns-in-Threads-clause-ok g c = rw c.in-Threads.is c.say-in-Threads.ensures.ok

pub returns-in-Threads-clause-err : goal.returns-in-Threads-clause-err
returns-in-Threads-clause-err g c = rw c.in-Threads.is c.say-in-Threads.ensures.err

pub returns-in-TooLong-clause-ok : goal.returns-in-TooLong-clause-ok
returns-in-TooLong-clause-ok g c = rw c.in-TooLong.is c.say-in-TooLong.ensures.ok

pub returns-in-LongOutput-clause-err : goal.returns-in-LongOutput-clause-err
returns-in-LongOutput-clause-err g c = rw c.in-LongOutput.is c.say-in-LongOutput.ensures.err
