-- What `outcomes --run` and `outcomes --deadlock` say of an input, and with which status.
use Rattle.std.specs.Prelude.{◌≡◌, ◌-◌, ◌++◌, ℕ, Bool, List, Option, None, Some, codes, length, option_map, slice_get}
use Rattle.std.specs.Fmt.{decimal}
use Rattle.pb_base.specs.Lines.{line}
use Rattle.pb_base.specs.declared.pick.Pick.{Pick}
use Rattle.pb_accept.specs.Refusals.{SaysOfRefusedText}
use Rattle.pb_accept.specs.RunTexts.{SaysOfRunText}
use Rattle.pb_code.specs.Whole.{Code, ProcessLabels}
use Rattle.pb_codegen.specs.Compiled.{IsCompiled}
use Rattle.pb_command_io.specs.declared.status.Status.{Status}
use Rattle.pb_command_io.specs.declared.status.Status.TheVariants.{Limit, Refused}
use Rattle.pb_history.specs.declared.counted.CountedPick.{CountedPick}
use Rattle.pb_options.specs.declared.options.Lend.{Lend}
use Rattle.pb_search.specs.Deadlocks.{FoundDeadlock}
use Rattle.pb_search.specs.Outcomes.{Found}
use Rattle.pb_search.specs.Told.{IsTold}
use Rattle.pb_search.specs.declared.found.Extent.{Extent}
use Rattle.pb_search.specs.declared.found.Extent.TheVariants as extent
use Rattle.pb_search.specs.declared.found.Until.{Until}
use Rattle.pb_search_stages.specs.declared.print.Mode.{Mode}
use Rattle.pb_search_engine.specs.OutcomeLines.{AreCounted, last_line}
use Rattle.pb_search_engine.specs.SaysOutcomes.{mode_for, until_for}
use Rattle.pb_search_engine.specs.declared.one_run.Target.{Target}
use Rattle.pb_search_engine.specs.declared.one_run.Target.TheVariants.{Deadlock, Outcome}

-- the picks that lead to the outcome or the deadlock with this number, counted from 1, if there is one
abbrev pub picks_to : Target → List Found → List FoundDeadlock → Option (List Pick)
picks_to (Outcome n) found deadlocks = option_map (λ f. f.picks) (slice_get found (n - 1))
picks_to (Deadlock n) found deadlocks = option_map (λ d. d.picks) (slice_get deadlocks (n - 1))

-- there is none with this number
abbrev pub none_line : Target → List ℕ
none_line (Outcome n) = line (codes "no outcome " ++ decimal n)
none_line (Deadlock n) = line (codes "no deadlock " ++ decimal n)

-- the status then: there may be one that was not found
abbrev pub none_status : Extent → Status
none_status (extent.All cycles) = Refused
none_status extent.TooMany = Limit
none_status extent.TooLong = Limit
none_status extent.AtDeadlock = Limit

-- what is said of code and its text: the text with the picks that lead to the one that is asked for, of those that
-- `outcomes` lists; or that it lists none with this number, and its last line
pub data SaysOfOneRun (target : Target) (mode : Mode) (until : Until) (code : Code) (states : ℕ) (bytes : List ℕ)
    : List ℕ → Status → Type 0 where
  there : (found : List Found) (deadlocks : List FoundDeadlock) (extent : Extent)
      → IsTold mode code until states found deadlocks extent
      → (picks : List Pick) → picks_to target found deadlocks ≡ Some picks
      → (counted : List CountedPick) → AreCounted picks counted
      → (text : List ℕ) (status : Status) → SaysOfRunText bytes code.names counted text status
      → SaysOfOneRun target mode until code states bytes text status
  none : (found : List Found) (deadlocks : List FoundDeadlock) (extent : Extent)
      → IsTold mode code until states found deadlocks extent
      → picks_to target found deadlocks ≡ None
      → SaysOfOneRun target mode until code states bytes
      (none_line target ++ last_line states (length found) (length deadlocks) extent) (none_status extent)

-- what is said of a text: it is refused; or it is accepted, and it is said what is said of its code
pub data SaysOfOne (target : Target) (lend : Lend) (first_deadlock prints : Bool) (states : ℕ) (bytes : List ℕ)
    : List ℕ → Status → Type 0 where
  refused : (text : List ℕ) (status : Status) → SaysOfRefusedText bytes text status
      → SaysOfOne target lend first_deadlock prints states bytes text status
  accepted : (code : Code) (labels : List ProcessLabels) → IsCompiled bytes code labels
      → (text : List ℕ) (status : Status)
      → SaysOfOneRun target (mode_for lend prints) (until_for first_deadlock) code states bytes text status
      → SaysOfOne target lend first_deadlock prints states bytes text status
