use Rattle.pb_accept.proofs.event_objects.tell_event_object.Goals as goal

pub returns-in-Granted-clause-ok : goal.returns-in-Granted-clause-ok
returns-in-Granted-clause-ok g c = rw c.in-Granted.is c.tell_bundle.ensures.ok

pub returns-in-Granted-clause-err : goal.returns-in-Granted-clause-err
returns-in-Granted-clause-err g c = rw c.in-Granted.is c.tell_bundle.ensures.err

pub returns-in-Returned-clause-ok : goal.returns-in-Returned-clause-ok
returns-in-Returned-clause-ok g c = rw c.in-Returned.is c.tell_bundle-in-Returned.ensures.ok

pub returns-in-Returned-clause-err : goal.returns-in-Returned-clause-err
returns-in-Returned-clause-err g c = rw c.in-Returned.is c.tell_bundle-in-Returned.ensures.err
