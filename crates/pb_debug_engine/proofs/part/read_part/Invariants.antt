use Rattle.std.proofs.Common.{◌≡◌, ◌≤◌, ◌-◌, length, vec_len}
use Rattle.pb_base.proofs.DeviceLemmas.{prepended}
use Rattle.pb_debug_engine.specs.Live.{IsUnmarked}
use Rattle.pb_debug_engine.proofs.part.read_part.Given as goal

abbrev pub invariant-loop-count : goal.invariant-loop-count
invariant-loop-count g l = record {
  few : vec_len l.part ≤ 4194304;
  room : length l.byte ≡ 1;
  read : g.I.Input.rest l.fn.input ≡ prepended l.part.items (g.I.Input.rest l.input);
  counted : g.I.Input.failures l.input ≡ g.I.Input.failures l.fn.input;
  unmarked : IsUnmarked l.part.items;
}

abbrev pub decreases-loop-count : goal.decreases-loop-count
decreases-loop-count g l = 4194304 - vec_len l.part
