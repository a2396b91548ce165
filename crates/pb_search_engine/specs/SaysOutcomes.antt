-- What `outcomes` says of an input, as data, and with which status.
use Rattle.std.specs.Prelude.{◌≡◌, ℕ, zero, suc, Bool, true, false, List, [], ◌∷◌, ◌++◌, length}
use Rattle.pb_code.specs.Whole.{Code, ProcessLabels}
use Rattle.pb_command_io.specs.declared.status.Status.{Status}
use Rattle.pb_command_io.specs.declared.status.Status.TheVariants.{Deadlock, Done, Limit}
use Rattle.pb_search.specs.Deadlocks.{FoundDeadlock}
use Rattle.pb_search.specs.Outcomes.{Found}
use Rattle.pb_search.specs.Told.{IsTold}
use Rattle.pb_search.specs.declared.found.Extent.{Extent}
use Rattle.pb_search.specs.declared.found.Extent.TheVariants as extent
use Rattle.pb_search.specs.declared.found.Until.{Until}
use Rattle.pb_search.specs.declared.found.Until.TheVariants.{AllIsFound, FirstDeadlock}
use Rattle.pb_search_stages.specs.declared.print.Mode.{Mode}
use Rattle.pb_options.specs.Lends.{lending_for}
use Rattle.pb_options.specs.declared.options.Lend.{Lend}
use Rattle.pb_options.specs.declared.options.OutcomesOptions.{OutcomesOptions}
use Rattle.pb_search_engine.specs.FairLines.{status_with}
use Rattle.pb_search_engine.specs.Items.{AreDeadlockItems, AreOutcomeItems, Item, fair_item, closing_item}
use Rattle.pb_search_engine.specs.SaysOfTexts.{SaysOfItems}
use Rattle.pb_search_engine.specs.Sayings.{Saying}
use Rattle.pb_search_fair.specs.CodeRuns.{TellsFairRuns}
use Rattle.pb_search_fair.specs.declared.runs.FairRuns.{FairRuns}

-- what the search goes through, by the options
abbrev pub mode_for : Lend → (prints : Bool) → Mode
mode_for lend prints = record { lending = lending_for lend; prints = prints }

-- where the search ends, by the option
abbrev pub until_for : (first_deadlock : Bool) → Until
until_for true = FirstDeadlock
until_for false = AllIsFound

-- the status, by how much was found and how many deadlocks there are
abbrev pub status_of : Extent → (deadlocks : ℕ) → Status
status_of (extent.All cycles) zero = Done
status_of (extent.All cycles) (suc n) = Deadlock
status_of extent.TooMany deadlocks = Limit
status_of extent.TooLong deadlocks = Limit
status_of extent.AtDeadlock deadlocks = Deadlock

-- what is found of code in this mode: outcomes, then deadlocks, each one of the code and no two the same,
-- and whether these are all, which at most this number of configurations tell, or why there may be others
pub data SaysOfSearch (mode : Mode) (until : Until) (code : Code) (states : ℕ) : List Item → Status → Type 0 where
  told : (found : List Found) (deadlocks : List FoundDeadlock) (extent : Extent)
      → IsTold mode code until states found deadlocks extent
      → (outcomes : List Item) → AreOutcomeItems found outcomes
      → (stuck : List Item) → AreDeadlockItems deadlocks stuck
      → SaysOfSearch mode until code states
      ((outcomes ++ stuck) ++ closing_item states (length found) (length deadlocks) extent ∷ []) (status_of extent (length deadlocks))

-- the same, and then, if that is asked, what is told of fair runs, whatever they print
abbrev pub SaysFairly : (fair : Bool) → Mode → Until → Code → (states : ℕ) → List Item → Status → Type 0
SaysFairly false mode until code states items status = SaysOfSearch mode until code states items status
SaysFairly true mode until code states items status =
    (before : List Item) × (was : Status) × (told : FairRuns) × SaysOfSearch mode until code states before was
    × TellsFairRuns (record { lending = mode.lending; prints = false }) code states told
    × (items ≡ before ++ fair_item states told ∷ []) × (status ≡ status_with was told)

-- what is said of code with these names: its outcomes and deadlocks, and its fair runs if that is asked; or out of memory
abbrev pub SaysOfOutcomesOf : OutcomesOptions → Code → List ProcessLabels → List Saying → Status → Type 0
SaysOfOutcomesOf options code =
    SaysOfItems (SaysFairly options.fair (mode_for options.lend options.prints) (until_for options.first_deadlock) code options.states) code.names
