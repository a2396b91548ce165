use Rattle.pb_tree.specs.View.{program_view}
use Rattle.pb_names.specs.Causes.{InProgram}
use Rattle.pb_resolver.proofs.ToldFaults.{told_first, none_free, none_too_many}
use Rattle.pb_resolver.proofs.resolver.resolve.Goals as goal

pub returns-in-Some-2-clause-fault : goal.returns-in-Some-2-clause-fault
returns-in-Some-2-clause-fault g c =
    rw c.fault_of.ensures
    (told_first (program_view c.args.program.now) c.in-Some-2.cause.at c.in-Some-2.cause.wrong c.in_default.ensures.within
    (rw c.in-Some-2.is at c.in_ok-cause.ensures))

pub number_program-requires-clause-free : goal.number_program-requires-clause-free
number_program-requires-clause-free g c =
    none_free (InProgram (program_view c.args.program.now)) (rw c.in-None.is at c.in_ok-cause.ensures)

pub returns-clause-too_many : goal.returns-clause-too_many
returns-clause-too_many g c =
    λ kind many. absurd (none_too_many (program_view c.args.program.now) kind c.in_default.ensures.within many)

pub returns-in-Some-2-clause-too_many : goal.returns-in-Some-2-clause-too_many
returns-in-Some-2-clause-too_many g c =
    λ kind many. absurd (none_too_many (program_view c.args.program.now) kind c.in_default.ensures.within many)

pub returns-in-Some-clause-fault : goal.returns-in-Some-clause-fault
returns-in-Some-clause-fault g c = c.in-Some.ensures.passed
