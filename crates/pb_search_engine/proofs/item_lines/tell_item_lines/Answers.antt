use Rattle.pb_search_engine.proofs.item_lines.tell_item_lines.Goals as goal

pub returns-in-Outcome-clause-ok : goal.returns-in-Outcome-clause-ok
returns-in-Outcome-clause-ok g c = rw c.in-Outcome.is c.tell_block.ensures.ok

pub returns-in-Outcome-clause-err : goal.returns-in-Outcome-clause-err
returns-in-Outcome-clause-err g c = rw c.in-Outcome.is c.tell_block.ensures.err

pub returns-in-Deadlock-clause-ok : goal.returns-in-Deadlock-clause-ok
returns-in-Deadlock-clause-ok g c = rw c.in-Deadlock.is c.tell_block-in-Deadlock.ensures.ok

pub returns-in-Deadlock-clause-err : goal.returns-in-Deadlock-clause-err
returns-in-Deadlock-clause-err g c = rw c.in-Deadlock.is c.tell_block-in-Deadlock.ensures.err

pub returns-in-AtDeadlock-clause-ok : goal.returns-in-AtDeadlock-clause-ok
returns-in-AtDeadlock-clause-ok g c = rw c.in-AtDeadlock.is c.say-in-AtDeadlock.ensures.ok

pub returns-in-AtDeadlock-clause-err : goal.returns-in-AtDeadlock-clause-err
returns-in-AtDeadlock-clause-err g c = rw c.in-AtDeadlock.is c.say-in-AtDeadlock.ensures.err

pub returns-in-Others-clause-ok : goal.returns-in-Others-clause-ok
returns-in-Others-clause-ok g c = rw c.in-Others.is c.tell_more.ensures.ok

pub returns-in-Others-clause-err : goal.returns-in-Others-clause-err
returns-in-Others-clause-err g c = rw c.in-Others.is c.tell_more.ensures.err

pub returns-in-Lead-clause-ok : goal.returns-in-Lead-clause-ok
returns-in-Lead-clause-ok g c = rw c.in-Lead.is (rw (c.deref.ensures.value) at c.tell_circle_lines.ensures.ok)

pub returns-in-Lead-clause-err : goal.returns-in-Lead-clause-err
returns-in-Lead-clause-err g c = rw c.in-Lead.is (rw (c.deref.ensures.value) at c.tell_circle_lines.ensures.err)

pub returns-in-AsExpected-clause-ok : goal.returns-in-AsExpected-clause-ok
returns-in-AsExpected-clause-ok g c = rw c.in-AsExpected.is c.say.ensures.ok

pub returns-in-AsExpected-clause-err : goal.returns-in-AsExpected-clause-err
returns-in-AsExpected-clause-err g c = rw c.in-AsExpected.is c.say.ensures.err
