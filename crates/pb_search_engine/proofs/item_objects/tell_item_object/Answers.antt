use Rattle.pb_search_engine.proofs.item_objects.tell_item_object.Goals as goal

pub returns-in-Outcome-clause-ok : goal.returns-in-Outcome-clause-ok
returns-in-Outcome-clause-ok g c = rw c.in-Outcome.is c.tell_block.ensures.ok

pub returns-in-Outcome-clause-err : goal.returns-in-Outcome-clause-err
returns-in-Outcome-clause-err g c = rw c.in-Outcome.is c.tell_block.ensures.err

pub returns-in-Deadlock-clause-ok : goal.returns-in-Deadlock-clause-ok
returns-in-Deadlock-clause-ok g c = rw c.in-Deadlock.is c.tell_block-in-Deadlock.ensures.ok

pub returns-in-Deadlock-clause-err : goal.returns-in-Deadlock-clause-err
returns-in-Deadlock-clause-err g c = rw c.in-Deadlock.is c.tell_block-in-Deadlock.ensures.err

pub returns-in-AtDeadlock-clause-ok : goal.returns-in-AtDeadlock-clause-ok
returns-in-AtDeadlock-clause-ok g c = rw c.in-AtDeadlock.is c.say-in-AtDeadlock.ensures.ok

pub returns-in-AtDeadlock-clause-err : goal.returns-in-AtDeadlock-clause-err
returns-in-AtDeadlock-clause-err g c = rw c.in-AtDeadlock.is c.say-in-AtDeadlock.ensures.err

pub returns-in-Round-clause-ok : goal.returns-in-Round-clause-ok
returns-in-Round-clause-ok g c = rw c.in-Round.is (rw (c.deref-in-Round.ensures.value) at c.tell_circle-in-Round.ensures.ok)

pub returns-in-Round-clause-err : goal.returns-in-Round-clause-err
returns-in-Round-clause-err g c = rw c.in-Round.is (rw (c.deref-in-Round.ensures.value) at c.tell_circle-in-Round.ensures.err)

pub returns-in-AsExpected-clause-ok : goal.returns-in-AsExpected-clause-ok
returns-in-AsExpected-clause-ok g c = rw c.in-AsExpected.is c.say.ensures.ok

pub returns-in-AsExpected-clause-err : goal.returns-in-AsExpected-clause-err
returns-in-AsExpected-clause-err g c = rw c.in-AsExpected.is c.say.ensures.err
