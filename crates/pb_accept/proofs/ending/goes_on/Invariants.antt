use Rattle.std.proofs.Common.{◌≡◌}
use Rattle.pb_base.specs.declared.lending.Lending.{Lending}
use Rattle.pb_machine.specs.Views.{machine_view, IsMachineBy}
use Rattle.pb_accept.proofs.StillLemmas.{ProcessesAreStill}
use Rattle.pb_accept.proofs.ending.goes_on.Given as goal

-- no pick of the processes so far is enabled, and nothing has changed
abbrev pub invariant-loop-process : goal.invariant-loop-process
invariant-loop-process l = record {
  same : machine_view l.machine ≡ machine_view l.initial.machine;
  machine : (lending : Lending) → IsMachineBy lending l.verified l.initial.machine → IsMachineBy lending l.verified l.machine;
  still : (lending : Lending) → IsMachineBy lending l.verified l.initial.machine
      → ProcessesAreStill lending l.verified.code (machine_view l.initial.machine) l.process;
}
