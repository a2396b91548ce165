-- What can be shown. No public contract cites this file.
use Rattle.std.specs.Prelude.{List, All}
use Rattle.pb_base.specs.declared.pick.Pick.{Pick}
use Rattle.pb_base.specs.Lines.{HasProcess, NameTable}

-- each of these picks is of a process that has a name
abbrev pub HaveProcesses : NameTable → List Pick → Type 0
HaveProcesses names picks = All (λ pick. HasProcess names pick.process) picks
