use Rattle.std.proofs.Common.{◌≡◌, ◌+◌, length}
use Rattle.pb_history.specs.Replays.{spread}
use Rattle.pb_machine.specs.Views.{machine_view, IsMachineBy}
use Rattle.pb_picks.specs.Counted.{AreApart}
use Rattle.pb_record.specs.Draws.{DrawsRun, generator_of}
use Rattle.pb_record.proofs.RecordedPicks.{LeadTo}
use Rattle.pb_record.proofs.picks.draw_picks.Given as goal

abbrev pub invariant-loop-left : goal.invariant-loop-left
invariant-loop-left l = record {
  lead : LeadTo l.fn.lending l.verified.code l.picks.items (machine_view l.machine);
  many : length (spread l.picks.items) + l.left ≡ l.fn.steps;
  apart : AreApart l.picks.items;
  machine : IsMachineBy l.fn.lending l.verified l.machine;
  drawn : DrawsRun l.fn.lending l.verified.code (generator_of l.fn.seed) (spread l.picks.items) (machine_view l.machine) l.chooser.generator;
}

abbrev pub decreases-loop-left : goal.decreases-loop-left
decreases-loop-left l = l.left
