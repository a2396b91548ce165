use Rattle.pb_engines.specs.Outcomes.{all_done, some_fault, used_up}
use Rattle.pb_engines.proofs.report.last_of.Goals as goal

pub returns-in-Limit-clause-said : goal.returns-in-Limit-clause-said
returns-in-Limit-clause-said c = rw c.in-Limit.is used_up

pub returns-then-shows_fault-clause-said : goal.returns-then-shows_fault-clause-said
returns-then-shows_fault-clause-said c = rw c.in-Done.is (some_fault (c.shows_fault.ensures.0 c.if-shows_fault.true))

pub returns-else-shows_fault-clause-said : goal.returns-else-shows_fault-clause-said
returns-else-shows_fault-clause-said c =
    rw c.in-Done.is (all_done (λ shown. let yes = c.shows_fault.ensures.1 shown in let no = c.if-shows_fault.false in cc))
