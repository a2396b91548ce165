use Rattle.std.proofs.Common.{◌≡◌, ◌≤◌, length}
use Rattle.pb_code.specs.View.{code_view}
use Rattle.pb_picks.specs.PickLines.{ReadsPicks}
use Rattle.pb_history.specs.Replays.{spread}
use Rattle.pb_picks.proofs.reader.read_picks.Given as goal

abbrev pub invariant-loop-rest : goal.invariant-loop-rest
invariant-loop-rest l = record {
  reads : ReadsPicks (code_view l.code) l.text l.picks.items l.rest;
  total : l.total ≡ length (spread l.picks.items);
  few : l.total ≤ 10000000;
  within : length l.rest ≤ length l.text;
}

abbrev pub decreases-loop-rest : goal.decreases-loop-rest
decreases-loop-rest l = length l.rest
