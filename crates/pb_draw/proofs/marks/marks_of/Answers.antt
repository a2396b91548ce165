use Rattle.std.proofs.Common.{◌≡◌, ◌∙◌}
use Rattle.pb_history.specs.Entries.{picks_of}
use Rattle.pb_code.specs.View.{labels_view}
use Rattle.pb_draw.specs.Marks.{happening_at}
use Rattle.pb_draw.proofs.AccessSteps.{access_here}
use Rattle.pb_draw.proofs.PickMarks.{happening_here, line_here, marks_more}
use Rattle.pb_draw.proofs.marks.marks_of.Goals as goal

pub loop-at-init : goal.loop-at-init
loop-at-init c = record {
  stands = record { machine = c.in_ok-machine.ensures.machine; state = c.in_ok-machine.ensures.opening };
  marks = c.new-marks.ensures.items;
}

pub loop-at-preserved : goal.loop-at-preserved
loop-at-preserved c =
    let v = c.args.verified.now in
    let picks = picks_of c.args.trace.now.entries in
    let labels = labels_view c.args.labels.now in
    let i = c.loop-at.at in
    let pick = c.pick-pick.result in
    let stands = c.advance-event.ensures.stands c.args.lending c.requires c.loop-at.invariant.stands in
    let what : c.happening-what.result ≡ happening_at c.args.integers v.code picks i =
    c.happening-what.ensures
    ∙ happening_here c.args.lending v picks c.args.integers i pick c.advance-event.result c.access_of-access.result c.loop-at.machine
    c.advance-event.new.machine c.read_by-read.result c.assigned_by-assigned.result c.loop-at.invariant.stands stands c.pick-pick.ensures
    c.advance-event.ensures.event
    (c.access_of-access.ensures ∙ access_here c.args.lending v picks i pick c.loop-at.machine c.loop-at.invariant.stands c.pick-pick.ensures)
    c.read_by-read.ensures c.assigned_by-assigned.ensures in
    record {
      stands = stands;
      marks = marks_more c.args.integers v.code labels picks i pick c.happening-what.result c.line_of-line.result _ _
          c.loop-at.invariant.marks c.pick-pick.ensures what
          (c.line_of-line.ensures ∙ line_here c.args.lending v labels picks i pick c.loop-at.machine c.loop-at.invariant.stands c.pick-pick.ensures)
          c.in_ok-add_mark.ensures;
    }

pub advance-event-requires-clause-stands : goal.advance-event-requires-clause-stands
advance-event-requires-clause-stands c = (c.args.lending, c.requires, c.loop-at.invariant.stands)
