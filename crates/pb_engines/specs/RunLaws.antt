-- What workers report of the code of a text, the text can do.
use Rattle.std.specs.Prelude.{ℕ, List, length}
use Rattle.pb_code.specs.Whole.{Code, ProcessLabels}
use Rattle.pb_codegen.specs.Compiled.{IsCompiled}
use Rattle.pb_history.specs.Entries.{events_of}
use Rattle.pb_names.specs.Meaning.{SourceCan}
use Rattle.pb_workers.specs.Reports.{IsReport}
use Rattle.pb_workers.specs.declared.report.Report.{Report}

-- the events that workers report of compiled code are events that the program of the text can make, with as
-- many picks
abbrev pub ReportsFollowTheSource : Type 0
ReportsFollowTheSource =
    (text : List ℕ) (code : Code) (labels : List ProcessLabels) (compiled : IsCompiled text code labels)
    (limit : ℕ) (report : Report) → IsReport code limit report
    → SourceCan compiled.program (events_of report.trace.entries) (length report.trace.entries)
