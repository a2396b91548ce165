use Rattle.std.proofs.Common.{List, arith, subst, sym}
use Rattle.pb_findings.specs.Reports.{AreReported, more, none}
use Rattle.pb_findings.specs.declared.said.Report.{Report}
use Rattle.pb_findings.proofs.FileLemmas.{frame_shorter}
use Rattle.pb_findings.proofs.report.look_at_files.Goals as goal

pub loop-entry-init : goal.loop-entry-init
loop-entry-init c = subst (λ (s : List Report). AreReported c.args.options.warn c.args.input.now c.args.input.now s) (sym c.new-said.ensures.items) none

pub loop-entry-preserved : goal.loop-entry-preserved
loop-entry-preserved c =
    let (head, mid, content, first, second, says) = c.in-Entry.ensures in
    let (one, is, told) = c.in-Ok.ensures in
    subst (λ (s : List Report). AreReported c.args.options.warn c.args.input.now c.next_entry.new.input s) (sym told)
    (more c.loop-entry.input head mid content c.next_entry.new.input c.loop-entry.said.items c.in-Entry.entry one c.loop-entry.invariant first second says is)

pub loop-entry-smaller : goal.loop-entry-smaller
loop-entry-smaller c =
    let (head, mid, content, first, second, says) = c.in-Entry.ensures in
    let one = frame_shorter c.loop-entry.input head mid first in
    let two = frame_shorter mid content c.next_entry.new.input second in
    omega (arith, one, two)
