-- Debugging against the source: a compiled text's code after some picks, and its source after their shadow:
-- each line shown is that of what the arm does next there.
use Rattle.std.specs.Prelude.{◌≡◌, ℕ, ℤ, List, length, map, take, Some, slice_get}
use Rattle.pb_base.specs.declared.event.Event.{Event}
use Rattle.pb_base.specs.declared.pick.Pick.{Pick}
use Rattle.pb_base.specs.Steppers.{State, Makes, opening}
use Rattle.pb_code.specs.Code.{Live, CodeProcess, thread}
use Rattle.pb_code.specs.Shadows.{shadow}
use Rattle.pb_code.specs.Whole.{Code, ProcessLabels, bank_of, code_opening}
use Rattle.pb_codegen.specs.Compiled.{IsCompiled}
use Rattle.pb_names.specs.HeadLines.{head_line}
use Rattle.pb_names.specs.Program.{Program}
use Rattle.pb_names.specs.Source.{Arm, find, SourceProcess, source_process, source_step}
use Rattle.pb_history.specs.Positions.{AreEnabled, state_after}
use Rattle.pb_debug_positions.specs.Searches.{thread_line}

-- at position i
pub record FollowsSource (program : Program) (code : Code) (labels : List ProcessLabels) (picks : List Pick) (i : ℕ) : Type 0 where
  pub events : List Event
  pub source : State SourceProcess
  pub makes : Makes (bank_of code) source_step (opening (bank_of code) (map source_process program.processes))
      (shadow code.processes (code_opening code) (take i picks)) events source
  pub as_many : length source.processes ≡ length program.processes
  pub lines : (p a place : ℕ) (stack : List ℤ) (l : ProcessLabels) (cp : CodeProcess) (sp : SourceProcess)
      → slice_get labels p ≡ Some l
      → slice_get (state_after code picks i).processes p ≡ Some cp
      → slice_get source.processes p ≡ Some sp
      → thread cp.threads a ≡ Live place stack
      → (run : Arm) × (arm : Arm)
      × (sp.run ≡ Some run) × (find a 0 run ≡ Some arm)
      × (thread_line l.lines (thread cp.threads a) ≡ head_line arm)

-- so it is at each position of picks that are all enabled under the banker
abbrev pub CodeFollowsSource : Type 0
CodeFollowsSource =
    (text : List ℕ) (code : Code) (labels : List ProcessLabels) (c : IsCompiled text code labels)
    → (picks : List Pick) → AreEnabled code picks
    → (i : ℕ) → FollowsSource c.program code labels picks i
