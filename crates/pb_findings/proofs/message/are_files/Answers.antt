use Rattle.pb_findings.proofs.FileLemmas.{two_shorter}
use Rattle.pb_findings.proofs.message.are_files.Goals as goal

pub loop-smaller-in-Entry : goal.loop-smaller-in-Entry
loop-smaller-in-Entry c = two_shorter c.loop.input c.in-Entry.field-0 c.next_entry.new.input c.in-Entry.ensures

pub loop-smaller-in-Entry-2 : goal.loop-smaller-in-Entry-2
loop-smaller-in-Entry-2 c = two_shorter c.loop.input c.in-Entry.field-0 c.next_entry.new.input c.in-Entry.ensures

pub loop-smaller-in-Entry-3 : goal.loop-smaller-in-Entry-3
loop-smaller-in-Entry-3 c = two_shorter c.loop.input c.in-Entry.field-0 c.next_entry.new.input c.in-Entry.ensures
