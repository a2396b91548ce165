-- What it means that code does what a program does.
use Rattle.std.specs.Prelude.{◌≡◌, ℕ, ◌+◌, ◌*◌, ℤ, List, map, Some, None, get_or, slice_get, ◌↔◌}
use Rattle.pb_base.specs.declared.pick.Pick.{Pick}
use Rattle.pb_base.specs.declared.event.Event.{Event}
use Rattle.pb_base.specs.declared.lending.Lending.{Lending}
use Rattle.pb_base.specs.Steppers.{Bank, State, Makes, IsFinished, opening}
use Rattle.pb_names.specs.Program.{Process, Program}
use Rattle.pb_names.specs.Meaning.{SourceCanBy}
use Rattle.pb_names.specs.HeadLines.{head_line}
use Rattle.pb_names.specs.Source.{Arm, find, SourceProcess}
use Rattle.pb_names.specs.Source.{source_step, source_process, source_over, SourceCanUnder}
use Rattle.pb_code.specs.Code.{ProcessCode, Live, CodeProcess, thread, code_step, code_process, code_over}
use Rattle.pb_code.specs.Code.{CodeCanUnder, longest}
use Rattle.pb_code.specs.Shadows.{shadow}
use Rattle.pb_code.specs.Whole.{Code, CodeCanBy}
use Rattle.pb_generator.specs.Generate.{process_code}
use Rattle.pb_generator.specs.Lines.{process_lines}

-- the code of each process
abbrev pub generated : List Process → List ProcessCode
generated program = map process_code program

-- the code makes the events of the source, and no others; a pick of the source is at most `times` picks of
-- the code
pub record Implements (source code : List Event → ℕ → Type 0) (times : ℕ) : Type 0 where
  pub no_more : (events : List Event) (n : ℕ) → code events n → source events n
  pub no_less : (events : List Event) (n : ℕ) → source events n → code events (n * times)

-- so it is under one bank: a pick of the source takes at most the length of the longest code, and one more
abbrev pub ImplementsUnder : Bank → List Process → List ProcessCode → Type 0
ImplementsUnder bank program codes =
    Implements (SourceCanUnder bank program) (CodeCanUnder bank codes) (longest codes + 1)

-- and so it is for the program and its code, whoever lends
abbrev pub MeansTheSame : Program → Code → Type 0
MeansTheSame program code =
    (lending : Lending) → Implements (SourceCanBy lending program) (CodeCanBy lending code) (longest code.processes + 1)

-- ---- lines

-- the line of the place of each live arm is the line of the first item of that arm in the source, none if its
-- list is empty
abbrev pub LinesAgree : List Process → State CodeProcess → State SourceProcess → Type 0
LinesAgree program s t =
    (p a place : ℕ) (stack : List ℤ) (process : Process) (cp : CodeProcess) (sp : SourceProcess)
    → slice_get program p ≡ Some process
    → slice_get s.processes p ≡ Some cp
    → slice_get t.processes p ≡ Some sp
    → thread cp.threads a ≡ Live place stack
    → (run : Arm) × (arm : Arm)
    × (sp.run ≡ Some run) × (find a 0 run ≡ Some arm)
    × (get_or (process_lines process) place None ≡ head_line arm)

-- whatever the code's picks, the source makes their shadow, with the same events; the lines agree there, and
-- whether all is finished
pub record IsFollowed (bank : Bank) (program : List Process) (codes : List ProcessCode) : Type 0 where
  pub by_shadow : (picks : List Pick) (events : List Event) (s : State CodeProcess)
      → Makes bank (code_step codes) (opening bank (map code_process codes)) picks events s
      → (t : State SourceProcess)
      × Makes bank source_step (opening bank (map source_process program))
      (shadow codes (opening bank (map code_process codes)) picks) events t
      × LinesAgree program s t
      × (IsFinished code_over s ↔ IsFinished source_over t)
