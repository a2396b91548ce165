use Rattle.std.proofs.Common.{◌≡◌, Some, refl, arith}
use Rattle.std.specs.Prelude.{slice_get}
use Rattle.std.specs.Vec.{with_item}
use Rattle.pb_machine.proofs.SetMachines.{process_of}
use Rattle.pb_machine.proofs.SilentRuns.{machine_aloud, machine_moves, machine_stays}
use Rattle.pb_machine.proofs.machine.Machine.run_silent.Goals as goal
use Rattle.pb_base.proofs.Lists.{item_at}

pub returns-clause-made : goal.returns-clause-made
returns-clause-made c lending =
    let ps = c.args.self.now.processes.items in
    let there : slice_get ps c.args.pick.process ≡ Some c.index_mut.result.now =
    item_at ps c.args.pick.process c.index_mut.result.now (omega (arith, c.args.self.now.processes.ok.0)) c.index_mut.ensures.value in
    machine_moves c.args.verified.now c.args.self.now (record {
      processes = with_item c.args.self.now.processes
          c.args.pick.process c.run_silent.new.self;
      bank = c.args.self.now.bank;
    }) c.args.pick c.run_silent.result
    c.index_mut.result.now c.run_silent.new.self c.requires.1 there refl refl c.run_silent.ensures.made lending

pub returns-clause-stops : goal.returns-clause-stops
returns-clause-stops c fewer =
    let ps = c.args.self.now.processes.items in
    let there : slice_get ps c.args.pick.process ≡ Some c.index_mut.result.now =
    item_at ps c.args.pick.process c.index_mut.result.now (omega (arith, c.args.self.now.processes.ok.0)) c.index_mut.ensures.value in
    machine_aloud c.args.verified.now c.args.self.now (record {
      processes = with_item c.args.self.now.processes
          c.args.pick.process c.run_silent.new.self;
      bank = c.args.self.now.bank;
    }) c.args.pick c.run_silent.result
    c.index_mut.result.now c.run_silent.new.self c.requires.1 there refl refl c.run_silent.ensures.made
    (c.run_silent.ensures.stops fewer)

pub returns-clause-machine : goal.returns-clause-machine
returns-clause-machine c lending of =
    let ps = c.args.self.now.processes.items in
    let there : slice_get ps c.args.pick.process ≡ Some c.index_mut.result.now =
    item_at ps c.args.pick.process c.index_mut.result.now (omega (arith, c.args.self.now.processes.ok.0)) c.index_mut.ensures.value in
    machine_stays c.args.verified.now c.args.self.now (record {
      processes = with_item c.args.self.now.processes
          c.args.pick.process c.run_silent.new.self;
      bank = c.args.self.now.bank;
    }) c.args.pick c.run_silent.result
    c.index_mut.result.now c.run_silent.new.self of there refl refl c.run_silent.ensures.made
    c.run_silent.ensures.process.rooms

pub run_silent-requires : goal.run_silent-requires
run_silent-requires c =
    process_of c.args.verified.now c.args.self.now c.requires.1 c.args.pick.process c.index_mut.result.now
    (omega (arith, c.args.self.now.processes.ok.0)) c.index_mut.ensures.value
