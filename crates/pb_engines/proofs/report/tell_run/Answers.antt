use Rattle.std.proofs.Common.{[], ◌∷◌, rules}
use Rattle.pb_accept.specs.Sayings.{NoMemory, Threads}
use Rattle.pb_command_io.specs.declared.status.Status.TheVariants as status
use Rattle.pb_engines.proofs.ReportLemmas.{says_no_memory, says_no_threads}
use Rattle.pb_engines.proofs.report.tell_run.Goals as goal

pub returns-in-Err-NoMemory : goal.returns-in-Err-NoMemory
returns-in-Err-NoMemory g c =
    (NoMemory ∷ [], status.Memory, says_no_memory c.args.verified.now.code c.args.options.steps, c.tell_last.ensures)

pub returns-in-Err : goal.returns-in-Err
returns-in-Err g c =
    (Threads ∷ [], status.Threads, says_no_threads c.args.verified.now.code c.args.options.steps, c.tell_last-in-Err.ensures)

pub tell_report-requires : goal.tell_report-requires
tell_report-requires g c = search rules fits 100
