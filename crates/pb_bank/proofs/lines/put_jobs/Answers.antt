use Rattle.std.proofs.Common.{◌++◌, [], false, cond, slice_index_or}
use Rattle.std.specs.Prelude.{codes}
use Rattle.pb_base.specs.Lines.{names_view, name_of}
use Rattle.pb_bank.proofs.EachNumber.{each_next}
use Rattle.pb_bank.proofs.lines.put_jobs.Goals as goal

pub loop-p-preserved : goal.loop-p-preserved
loop-p-preserved c =
    each_next (λ p. cond (slice_index_or c.args.jobs.now.marks p false) (codes " " ++ name_of (names_view c.args.names.now).processes p) [])
    c.loop-p.p c.args.out.now.items c.loop-p.out.items c.put_marked.new.out.items c.loop-p.invariant c.in_ok-put_marked.ensures
