use Rattle.std.proofs.Common.{set, Some, refl, sym, ap, ◌∙◌, subst, arith}
use Rattle.std.proofs.lemmas.List.{length-map, map-set}
use Rattle.pb_machine.specs.Views.{proc_view, rooms_of, machine_view, machine_rooms, IsProcessOf}
use Rattle.pb_machine.specs.Steps.{ComesFrom}
use Rattle.pb_machine.specs.declared.process.Proc.{Proc}
use Rattle.pb_machine.proofs.Machines.{proc_there}
use Rattle.pb_machine.proofs.SetMachines.{process_of}
use Rattle.pb_machine.proofs.SilentPicks.{set_machine}
use Rattle.pb_machine.proofs.machine.Machine.exchange.Goals as goal

pub returns-clause-processes : goal.returns-clause-processes
returns-clause-processes c =
    map-set proc_view c.args.self.now.processes.items c.args.p c.swap.new.x
    ∙ ap (λ (x : Proc). set (machine_view c.args.self.now).processes c.args.p (proc_view x)) c.swap.ensures.x_after

pub returns-clause-rooms : goal.returns-clause-rooms
returns-clause-rooms c =
    map-set rooms_of c.args.self.now.processes.items c.args.p c.swap.new.x
    ∙ ap (λ (x : Proc). set (machine_rooms c.args.self.now) c.args.p (rooms_of x)) c.swap.ensures.x_after

pub returns-clause-machine : goal.returns-clause-machine
returns-clause-machine c lending v of comes =
    set_machine v c.args.self.now _ c.args.p c.swap.new.x refl refl of (subst (ComesFrom v c.args.self.now c.args.p) (sym c.swap.ensures.x_after) comes)

pub returns-clause-exchanged : goal.returns-clause-exchanged
returns-clause-exchanged c =
    proc_there c.args.self.now c.args.p c.index_mut.result.now c.requires c.index_mut.ensures.value
    ∙ ap (λ (x : Proc). Some (proc_view x)) (sym c.swap.ensures.y_after)

pub returns-clause-process : goal.returns-clause-process
returns-clause-process c lending v of =
    subst (IsProcessOf v c.args.p) (sym c.swap.ensures.y_after)
    (process_of v c.args.self.now of c.args.p c.index_mut.result.now
    (let lt = c.requires in omega (arith, lt, length-map c.args.self.now.processes.items proc_view)) c.index_mut.ensures.value)
