use Rattle.std.proofs.Common.{◌≡◌, ℕ, ◌-◌, ◌≤◌, List, [], length, take, drop, Some}
use Rattle.pb_bank_engine.specs.Sessions.{Fed}
use Rattle.pb_bank_engine.proofs.session.read_lines.Given as goal

abbrev pub invariant-loop-left : goal.invariant-loop-left
invariant-loop-left g l = record {
  most : l.left ≤ 18446744073709551615;
  room : length l.block ≡ 4096;
  reads : g.I.Input.failures l.input ≡ g.I.Input.failures l.initial.input;
  writes : g.O.Output.failures l.output ≡ g.O.Output.failures l.initial.output;
  read : (bytes : List ℕ) → g.I.Input.rest l.initial.input ≡ Some bytes
      → Fed l.form l.initial.desk [] (take (18446744073709551615 - l.left) bytes) (g.O.Output.written l.initial.output) (g.O.Output.written l.output) l.line l.desk;
  rest : (bytes : List ℕ) → g.I.Input.rest l.initial.input ≡ Some bytes
      → g.I.Input.rest l.input ≡ Some (drop (18446744073709551615 - l.left) bytes);
}

abbrev pub decreases-loop-left : goal.decreases-loop-left
decreases-loop-left g l = l.left
