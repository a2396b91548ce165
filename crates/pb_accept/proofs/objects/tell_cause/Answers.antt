use Rattle.pb_accept.proofs.objects.tell_cause.Goals as goal

pub returns-in_default-clause-err : goal.returns-in_default-clause-err
returns-in_default-clause-err g c = rw c.in_default.is c.say.ensures.err

pub returns-in-Some-at-clause-ok : goal.returns-in-Some-at-clause-ok
returns-in-Some-at-clause-ok g c =
    rw c.in-Some.is (rw c.in-Some-at.is
    (rw (c.as_bytes.ensures.value, c.name.ensures, c.as_bytes-in-Some-at.ensures.value, c.format.ensures.text) at c.say_all.ensures.ok))

pub returns-in-Some-at-clause-err : goal.returns-in-Some-at-clause-err
returns-in-Some-at-clause-err g c =
    rw c.in-Some.is (rw c.in-Some-at.is
    (rw (c.as_bytes.ensures.value, c.name.ensures, c.as_bytes-in-Some-at.ensures.value, c.format.ensures.text) at c.say_all.ensures.err))

pub returns-in-None-clause-ok : goal.returns-in-None-clause-ok
returns-in-None-clause-ok g c =
    rw c.in-Some.is (rw c.in-None.is (rw (c.as_bytes-in-None.ensures.value, c.name-in-None.ensures) at c.say_all-in-None.ensures.ok))

pub returns-in-None-clause-err : goal.returns-in-None-clause-err
returns-in-None-clause-err g c =
    rw c.in-Some.is (rw c.in-None.is (rw (c.as_bytes-in-None.ensures.value, c.name-in-None.ensures) at c.say_all-in-None.ensures.err))
