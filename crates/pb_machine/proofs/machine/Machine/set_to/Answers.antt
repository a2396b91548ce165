use Rattle.std.proofs.Common.{◌≡◌, ◌<◌, length, map, take, Some, sym, ap, ◌∙◌, arith, rules}
use Rattle.std.specs.Prelude.{slice_get}
use Rattle.pb_banker.specs.Lenders.{lending_by}
use Rattle.std.proofs.lemmas.List.{take_more_set}
use Rattle.std.proofs.Math.Seq.{map-set_same}
use Rattle.pb_machine.specs.Views.{proc_view, rooms_of}
use Rattle.pb_machine.proofs.BuiltLists.{pushed_more}
use Rattle.pb_machine.proofs.SetMachines.{all_set, as_many_processes, as_many_rows, machine_as, process_of, rest_on}
use Rattle.pb_machine.proofs.SetMachines.{same_rest}
use Rattle.pb_machine.proofs.SilentPicks.{copied_view}
use Rattle.pb_machine.proofs.Spares.{fit_rooms, fit_vars}
use Rattle.pb_base.proofs.Lists.{item_at}
use Rattle.pb_machine.proofs.machine.Machine.set_to.Goals as goal

pub index-requires : goal.index-requires
index-requires c =
    let of = c.requires in
    let lt : c.loop-p.p < length c.args.self.now.processes.items = omega (arith, c.args.self.now.processes.ok.0) in
    let count = as_many_processes of.1 c.args.self.now c.args.other.now of.2 of.3 in
    omega (arith, lt, count)

pub set_to-requires-clause-vars : goal.set_to-requires-clause-vars
set_to-requires-clause-vars c =
    let of = c.requires in
    let lt : c.loop-p.p < length c.args.self.now.processes.items = omega (arith, c.args.self.now.processes.ok.0) in
    let count = as_many_processes of.1 c.args.self.now c.args.other.now of.2 of.3 in
    fit_vars of.1 of.2.verified c.loop-p.p c.index_mut.result.now c.index.result.now
    (process_of of.1 c.args.self.now of.2 c.loop-p.p c.index_mut.result.now lt
    (same_rest c.loop-p.self.processes.items c.args.self.now.processes.items c.loop-p.p c.index_mut.result.now
    c.loop-p.invariant.rest c.index_mut.ensures.value))
    (process_of of.1 c.args.other.now of.3 c.loop-p.p c.index.result.now (omega (arith, lt, count)) c.index.ensures)

pub set_to-requires-clause-rooms : goal.set_to-requires-clause-rooms
set_to-requires-clause-rooms c =
    let of = c.requires in
    let lt : c.loop-p.p < length c.args.self.now.processes.items = omega (arith, c.args.self.now.processes.ok.0) in
    let count = as_many_processes of.1 c.args.self.now c.args.other.now of.2 of.3 in
    fit_rooms of.1 of.2.verified c.loop-p.p c.index_mut.result.now c.index.result.now
    (process_of of.1 c.args.self.now of.2 c.loop-p.p c.index_mut.result.now lt
    (same_rest c.loop-p.self.processes.items c.args.self.now.processes.items c.loop-p.p c.index_mut.result.now
    c.loop-p.invariant.rest c.index_mut.ensures.value))
    (process_of of.1 c.args.other.now of.3 c.loop-p.p c.index.result.now (omega (arith, lt, count)) c.index.ensures)

pub loop-p-preserved : goal.loop-p-preserved
loop-p-preserved c =
    let of = c.requires in
    let ps = c.loop-p.self.processes.items in
    let qs = c.args.other.now.processes.items in
    let p = c.loop-p.p in
    let count = as_many_processes of.1 c.args.self.now c.args.other.now of.2 of.3 in
    let mine = as_many_rows ps c.args.self.now.processes.items c.loop-p.invariant.rooms in
    let lt : p < length ps = omega (arith, mine, c.args.self.now.processes.ok.0) in
    let there : slice_get qs p ≡ Some c.index.result.now = item_at qs p c.index.result.now (omega (arith, lt, mine, count)) c.index.ensures in
    record {
      states =
          ap (map proc_view) (take_more_set ps p c.set_to.new.self lt)
          ∙ pushed_more proc_view proc_view (take p ps) qs p c.set_to.new.self c.index.result.now c.loop-p.invariant.states there c.set_to.ensures.state;
      rooms =
          map-set_same rooms_of ps p c.set_to.new.self c.index_mut.result.now (c.set_to.ensures.rooms ∙ ap rooms_of c.index_mut.ensures.value)
          ∙ c.loop-p.invariant.rooms;
      bank = c.loop-p.invariant.bank;
      rest = rest_on ps c.args.self.now.processes.items p c.set_to.new.self c.loop-p.invariant.rest;
    }

pub returns-clause-state : goal.returns-clause-state
returns-clause-state c =
    copied_view c.args.other.now (record { processes = c.loop-p.self.processes; bank = c.set_to-2.new.self })
    (all_set c.requires.1 c.args.self.now c.args.other.now c.loop-p.self.processes.items c.loop-p.p c.requires.2 c.requires.3
    c.loop-p.invariant.rooms c.loop-p.invariant.states (omega (arith, c.args.self.now.processes.ok.0)))
    c.set_to-2.ensures

pub returns-clause-machine : goal.returns-clause-machine
returns-clause-machine c lending v of of_other =
    machine_as v c.args.self.now c.args.other.now (record { processes = c.loop-p.self.processes; bank = c.set_to-2.new.self })
    (all_set c.requires.1 c.args.self.now c.args.other.now c.loop-p.self.processes.items c.loop-p.p c.requires.2 c.requires.3
    c.loop-p.invariant.rooms c.loop-p.invariant.states (omega (arith, c.args.self.now.processes.ok.0)))
    c.loop-p.invariant.rooms c.set_to-2.ensures of of_other

pub loop-p-init : goal.loop-p-init
loop-p-init c = search rules fits 100

pub set_to-requires-2 : goal.set_to-requires-2
set_to-requires-2 c = ap lending_by c.loop-p.invariant.bank ∙ (c.requires.2.lends ∙ sym c.requires.3.lends)
