use Rattle.pb_base.specs.Lines.{names_view}
use Rattle.pb_code.specs.View.{labels_view}
use Rattle.pb_draw_picture.proofs.AxisSteps.{AxisSoFar}
use Rattle.pb_draw_picture.proofs.KnotSteps.{KnotsSoFar}
use Rattle.pb_draw_picture.proofs.axis.axis_of.Given as goal

abbrev pub invariant-loop-mark : goal.invariant-loop-mark
invariant-loop-mark l = record {
  axis : AxisSoFar l.marks l.mark-index l.start.position l.start.x l.knots.items;
  knots : KnotsSoFar (names_view l.names) (labels_view l.labels) l.fn.picks l.fn.left l.marks l.mark-index l.start.position l.start.x
      l.start.width l.knots.items;
}
