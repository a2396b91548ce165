use Rattle.std.proofs.Common.{take}
use Rattle.pb_messages.specs.Details.{AreSpots}
use Rattle.pb_messages.proofs.worded.show_spots.Given as goal

abbrev pub invariant-loop-spot : goal.invariant-loop-spot
invariant-loop-spot l = AreSpots l.label l.text (take l.spot-index l.spots) l.out.items
