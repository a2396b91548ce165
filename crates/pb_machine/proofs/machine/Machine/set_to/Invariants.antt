use Rattle.std.proofs.Common.{◌≡◌, drop, map, take}
use Rattle.pb_machine.specs.Views.{proc_view, machine_rooms}
use Rattle.pb_machine.proofs.machine.Machine.set_to.Given as goal

abbrev pub invariant-loop-p : goal.invariant-loop-p
invariant-loop-p l = record {
  states : map proc_view (take l.p l.self.processes.items) ≡ map proc_view (take l.p l.other.processes.items);
  rooms : machine_rooms l.self ≡ machine_rooms l.fn.self;
  bank : l.self.bank ≡ l.fn.self.bank;
  rest : drop l.p l.self.processes.items ≡ drop l.p l.fn.self.processes.items;
}
