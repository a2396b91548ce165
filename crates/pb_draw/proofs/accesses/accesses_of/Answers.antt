use Rattle.std.proofs.Common.{◌≤◌, cond, ◌∙◌, arith}
use Rattle.pb_history.specs.Entries.{picks_of}
use Rattle.pb_draw.specs.Accesses.{is_assignment, is_read}
use Rattle.pb_draw.proofs.AccessSteps.{access_here, accesses_more, at_most_one}
use Rattle.pb_draw.proofs.accesses.accesses_of.Goals as goal

pub loop-at-preserved : goal.loop-at-preserved
loop-at-preserved c =
    let v = c.args.verified.now in
    let picks = picks_of c.args.trace.now.entries in
    let i = c.loop-at.at in
    let access = c.access_of-access.result in
    let here = c.access_of-access.ensures
    ∙ access_here c.args.lending v picks i c.pick.result c.loop-at.machine c.loop-at.invariant.stands c.pick.ensures in
    let next = c.one_more-assignments.ensures in
    let next_read = c.one_more-reads.ensures in
    let most : cond c.is_assignment.result 1 0 ≤ 1 = at_most_one c.is_assignment.result in
    let most_read : cond c.is_read.result 1 0 ≤ 1 = at_most_one c.is_read.result in
    let few = c.loop-at.invariant.few in
    let few_reads = c.loop-at.invariant.few_reads in
    record {
      stands = c.advance.ensures.stands c.args.lending c.requires.enabled c.loop-at.invariant.stands;
      few = omega (arith, next, most, few);
      few_reads = omega (arith, next_read, most_read, few_reads);
      assignments = accesses_more is_assignment v.code picks i c.loop-at.assignments c.one_more-assignments.result access c.is_assignment.result
          c.loop-at.invariant.assignments here c.is_assignment.ensures next;
      reads = accesses_more is_read v.code picks i c.loop-at.reads c.one_more-reads.result access c.is_read.result
          c.loop-at.invariant.reads here c.is_read.ensures next_read;
    }
