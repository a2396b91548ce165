use Rattle.pb_accept.proofs.objects.tell_fault.Goals as goal

pub returns-in-Memory-clause-ok : goal.returns-in-Memory-clause-ok
returns-in-Memory-clause-ok g c = rw c.in-Memory.is c.say.ensures.ok

pub returns-in-Memory-clause-err : goal.returns-in-Memory-clause-err
returns-in-Memory-clause-err g c = rw c.in-Memory.is c.say.ensures.err
