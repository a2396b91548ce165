use Rattle.std.proofs.Common.{arith}
use Rattle.std.proofs.lemmas.Grind.{common_steps}
use Rattle.pb_base.specs.Lines.{names_view}
use Rattle.pb_code.specs.View.{labels_view}
use Rattle.pb_draw_picture.proofs.AxisSteps.{so_far_axis, so_far_chain, so_far_push, so_far_skip, so_far_start}
use Rattle.pb_draw_picture.proofs.KnotSteps.{knots_end, knots_push, knots_skip, knots_start}
use Rattle.pb_base.proofs.Lists.{item_at}
use Rattle.pb_draw_picture.proofs.axis.axis_of.Goals as goal
use Rattle.pb_draw_picture.proofs.axis.axis_of.Goals.{then-start-next+in_ok-push+in_ok-width_of, else-start-next}

pub loop-mark-init : goal.loop-mark-init
loop-mark-init c =
    let first = c.first_start-start.ensures in
    record {
      axis =
          rw (c.new-knots.ensures.items) (so_far_start c.args.marks.now c.first_start-start.result.position c.first_start-start.result.x
          first.position);
      knots = rw (c.new-knots.ensures.items) (knots_start _ _ _ _ _ _ _ _ first.position first.x first.width);
    }

pub loop-mark-preserved : goal.loop-mark-preserved
loop-mark-preserved c =
    let names = names_view c.args.names.now in
    let labels = labels_view c.args.labels.now in
    let there = item_at c.args.marks.now c.loop-mark.mark-index c.mark-item.result (omega arith) c.mark-item.is in
    elim c.if-start-next.branch [
      | then-start-next+in_ok-push+in_ok-width_of w ↦ record {
        axis =
            so_far_push c.args.marks.now c.loop-mark.mark-index c.loop-mark.start.position c.loop-mark.start.x
            c.if-start-next.start.position c.if-start-next.start.x c.loop-mark.knots.items c.if-start-next.knots.items
            c.mark-item.result w.knot_to-knot.result c.loop-mark.invariant.axis there
            (grind (arith, common_steps)) (grind (arith, common_steps)) (grind (arith, common_steps))
            (grind (arith, common_steps)) (grind (arith, common_steps)) (grind (arith, common_steps));
        knots =
            knots_push names labels c.args.picks c.args.left c.args.marks.now c.loop-mark.mark-index c.loop-mark.start.position
            c.loop-mark.start.x c.loop-mark.start.width c.if-start-next.start.position c.if-start-next.start.x c.if-start-next.start.width
            c.loop-mark.knots.items c.if-start-next.knots.items c.mark-item.result w.knot_to-knot.result c.loop-mark.invariant.knots there
            (grind (arith, common_steps)) (grind (arith, common_steps)) (grind (arith, common_steps)) (grind (arith, common_steps))
            (grind (arith, common_steps)) (grind (arith, common_steps)) (grind (arith, common_steps)) (grind (arith, common_steps))
            (grind (arith, common_steps));
      }
      | else-start-next w ↦ record {
        axis =
            so_far_skip c.args.marks.now c.loop-mark.mark-index c.loop-mark.start.position c.loop-mark.start.x
            c.if-start-next.start.position c.if-start-next.start.x c.loop-mark.knots.items c.if-start-next.knots.items
            c.mark-item.result c.loop-mark.invariant.axis there (grind (arith, common_steps))
            (grind (arith, common_steps)) (grind (arith, common_steps)) (grind (arith, common_steps));
        knots =
            knots_skip names labels c.args.picks c.args.left c.args.marks.now c.loop-mark.mark-index c.loop-mark.start.position
            c.loop-mark.start.x c.loop-mark.start.width c.if-start-next.start.position c.if-start-next.start.x c.if-start-next.start.width
            c.loop-mark.knots.items c.if-start-next.knots.items c.mark-item.result c.loop-mark.invariant.knots there
            (grind (arith, common_steps)) (grind (arith, common_steps)) (grind (arith, common_steps)) (grind (arith, common_steps))
            (grind (arith, common_steps));
      }
    ]

pub returns-clause-knots : goal.returns-clause-knots
returns-clause-knots c =
    knots_end (names_view c.args.names.now) (labels_view c.args.labels.now) c.args.picks c.args.left c.args.marks.now c.loop-mark.mark-index
    c.loop-mark.start.position c.loop-mark.start.x c.loop-mark.start.width c.loop-mark.knots.items c.push-2.new.self.items c.knot_to.result
    c.loop-mark.invariant.knots (grind (arith, common_steps)) (grind (arith, common_steps)) (grind (arith, common_steps))
    (grind (arith, common_steps)) (grind (arith, common_steps)) (grind (arith, common_steps))

pub returns-clause-chain : goal.returns-clause-chain
returns-clause-chain c =
    rw (c.in_ok-push-2.ensures.items) (so_far_chain c.args.marks.now c.loop-mark.mark-index c.loop-mark.start.position c.loop-mark.start.x
    c.loop-mark.knots.items c.knot_to.result c.loop-mark.invariant.axis (grind (arith, common_steps)) (grind (arith, common_steps)))

pub returns-clause-axis : goal.returns-clause-axis
returns-clause-axis c =
    so_far_axis c.args.marks.now c.loop-mark.mark-index c.loop-mark.start.position c.loop-mark.start.x
    c.loop-mark.knots.items c.push-2.new.self.items c.knot_to.result c.loop-mark.invariant.axis (grind (arith, common_steps))
    (grind (arith, common_steps)) (grind (arith, common_steps)) (grind (arith, common_steps))
