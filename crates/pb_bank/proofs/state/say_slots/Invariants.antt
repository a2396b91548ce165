use Rattle.std.proofs.Common.{◌≡◌, ◌++◌}
use Rattle.pb_bank.specs.Answers.{all_said_below, job_said}
use Rattle.pb_bank.proofs.state.say_slots.Given as goal

abbrev pub invariant-loop-p : goal.invariant-loop-p
invariant-loop-p l = l.out.items ≡ l.initial.out.items ++ all_said_below (job_said l.bank) l.p
