-- The line of an arm.
use Rattle.std.proofs.Common.{◌≡◌, ℕ, List, get_or, Option, Some, None, sym, ap, ◌∙◌}
use Rattle.std.specs.Prelude.{slice_get}
use Rattle.pb_code.specs.Code.{Thread, Idle, Live, Ended, CodeProcess, thread}
use Rattle.pb_code.specs.Whole.{ProcessLabels}
use Rattle.pb_machine.specs.Views.{place_of_thread}
use Rattle.pb_debug_positions.specs.Searches.{line_in, thread_line}

pub line_at_place : (lines : List (Option ℕ)) (t : Thread) (place : ℕ) → Some place ≡ place_of_thread t → thread_line lines t ≡ get_or lines place None
line_at_place lines Idle place e = absurd cc
line_at_place lines (Live at stack) place e = let same : place ≡ at = cc in ap (λ n. get_or lines n None) (sym same)
line_at_place lines Ended place e = absurd cc

-- the line of an arm of a process that is there
pub line_in_is : (labels : List ProcessLabels) (processes : List CodeProcess) (p a : ℕ) (l : ProcessLabels) (process : CodeProcess) (t : Thread)
    (line : Option ℕ) → slice_get labels p ≡ Some l → slice_get processes p ≡ Some process → t ≡ thread process.threads a → thread_line l.lines t ≡ line
    → line ≡ line_in (slice_get labels p) (slice_get processes p) a
line_in_is labels processes p a l process t line l_there there at is =
    sym is
    ∙ (ap (thread_line l.lines) at
    ∙ sym (ap (λ (o : Option ProcessLabels). line_in o (slice_get processes p) a) l_there ∙ ap (λ (o : Option CodeProcess). line_in (Some l) o a) there))
