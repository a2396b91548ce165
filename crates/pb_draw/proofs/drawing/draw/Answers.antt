use Rattle.std.proofs.Common.{◌≡◌, ◌≤◌, ◌*◌, List, length, sym, ap, ◌∙◌, subst, arith}
use Rattle.pb_base.specs.declared.pick.Pick.{Pick}
use Rattle.pb_verifier.specs.declared.fault.VerifyFault.TheVariants.{OutOfLimits}
use Rattle.pb_draw.specs.Arms.{AreDifferent, arms_from}
use Rattle.pb_draw.specs.declared.drawing.Lane.{Lane}
use Rattle.pb_draw.proofs.ArmOrder.{arms_apart, arms_few}
use Rattle.std.specs.Prelude.{All}
use Rattle.std.proofs.lemmas.List.{length-map}
use Rattle.pb_code.specs.View.{labels_view}
use Rattle.pb_history.specs.Entries.{Entry, picks_of}
use Rattle.pb_draw.specs.Accesses.{assignments, reads}
use Rattle.pb_draw.specs.Bars.{AreNested, bars_of}
use Rattle.pb_draw.specs.Marks.{AreInOrder, IsNamed, marks_before}
use Rattle.pb_draw.specs.declared.drawing.Mark.{Mark}
use Rattle.pb_draw.proofs.MarkOrder.{marks_few, marks_in_order}
use Rattle.pb_draw.proofs.Nesting.{bars_nested}
use Rattle.pb_draw.proofs.PickMarks.{marks_named}
use Rattle.pb_draw.proofs.drawing.draw.Goals as goal

pub bars_of-requires-clause-ordered : goal.bars_of-requires-clause-ordered
bars_of-requires-clause-ordered c =
    let entries = c.args.trace.now.entries in
    subst AreInOrder (sym (c.as_slice.ensures.value ∙ c.in_ok-marks.ensures))
    (marks_in_order c.integers_drawn-integers.result c.args.verified.now.code (labels_view c.args.labels.now) (picks_of entries) (length entries))

pub bars_of-requires-clause-few : goal.bars_of-requires-clause-few
bars_of-requires-clause-few c =
    let entries = c.args.trace.now.entries in
    let marks = marks_few c.integers_drawn-integers.result c.args.verified.now.code (labels_view c.args.labels.now) (picks_of entries) (length entries) in
    let same = ap (λ (ms : List Mark). length ms) (c.as_slice.ensures.value ∙ c.in_ok-marks.ensures) in
    let few = c.requires.few in
    omega (arith, marks, same, few)

pub returns-clause-drawing : goal.returns-clause-drawing
returns-clause-drawing c =
    let entries = c.args.trace.now.entries in
    let picks = picks_of entries in
    let many : length entries ≡ length picks = sym (length-map entries (λ (e : Entry). e.pick)) in
    record {
      many = c.len-picks.ensures ∙ many;
      assignments = c.in_ok-counts.ensures.assignments ∙ ap (assignments c.args.verified.now.code picks) many;
      reads = c.in_ok-counts.ensures.reads ∙ ap (reads c.args.verified.now.code picks) many;
      integers = c.integers_drawn-integers.ensures;
      marks = c.in_ok-marks.ensures
          ∙ ap (marks_before c.integers_drawn-integers.result c.args.verified.now.code (labels_view c.args.labels.now) picks) many;
      bars = c.in_ok-bars.ensures ∙ ap bars_of c.as_slice.ensures.value;
      arms = c.in_ok-lanes.ensures.arms;
      lanes = c.in_ok-lanes.ensures.lanes;
      curves = c.in_ok-curves.ensures;
    }

pub returns-clause-named : goal.returns-clause-named
returns-clause-named c =
    let v = c.args.verified.now in
    let entries = c.args.trace.now.entries in
    subst (λ (ms : List Mark). All (λ (m : Mark). IsNamed v.code.names m.what) ms) (sym c.in_ok-marks.ensures)
    (marks_named c.args.lending v (picks_of entries) c.code.ensures.verified c.requires.enabled c.integers_drawn-integers.result (labels_view c.args.labels.now) (length entries))

pub returns-clause-ordered : goal.returns-clause-ordered
returns-clause-ordered c =
    let entries = c.args.trace.now.entries in
    subst AreInOrder (sym c.in_ok-marks.ensures) (marks_in_order c.integers_drawn-integers.result c.args.verified.now.code (labels_view c.args.labels.now) (picks_of entries) (length entries))

pub returns-clause-nested : goal.returns-clause-nested
returns-clause-nested c =
    let entries = c.args.trace.now.entries in
    subst AreNested (sym c.in_ok-bars.ensures)
    (bars_nested c.as_slice.result.now
    (subst AreInOrder (sym (c.as_slice.ensures.value ∙ c.in_ok-marks.ensures))
    (marks_in_order c.integers_drawn-integers.result c.args.verified.now.code (labels_view c.args.labels.now) (picks_of entries) (length entries))))

pub returns-clause-different : goal.returns-clause-different
returns-clause-different c =
    subst AreDifferent (sym c.in_ok-lanes.ensures.arms) (arms_apart 0 c.args.verified.now.code.processes)

pub returns-clause-rows : goal.returns-clause-rows
returns-clause-rows c =
    let code = c.args.verified.now.code in
    let limits = c.code.ensures.verified.faultless OutOfLimits in
    let few : length (arms_from 0 code.processes) ≤ 64 * length code.processes =
    arms_few 64 0 code.processes (λ k process there. (limits.each k process there).some_arms.1) in
    let many = limits.some_processes.1 in
    let same = ap (λ (arms : List Pick). length arms) c.in_ok-lanes.ensures.arms in
    let mapped = length-map c.in_ok-lanes.lanes.items (λ (l : Lane). l.pick) in
    omega (arith, few, many, same, mapped)
