use Rattle.std.proofs.Common.{◌≡◌, ◌++◌}
use Rattle.pb_base.specs.Lines.{names_view}
use Rattle.pb_bank.specs.Tables.{jobs_text}
use Rattle.pb_bank.proofs.lines.put_jobs.Given as goal

abbrev pub invariant-loop-p : goal.invariant-loop-p
invariant-loop-p l = l.out.items ≡ l.initial.out.items ++ jobs_text (names_view l.names) l.jobs.marks l.p
