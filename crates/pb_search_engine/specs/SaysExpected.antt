-- What `outcomes --expect` says of code and the lines after its text, as data, and with which status.
use Rattle.std.specs.Prelude.{◌≡◌, ℕ, Bool, true, false, List, [], ◌∷◌, Some, slice_get, ⊤}
use Rattle.pb_base.specs.declared.lending.Lending.{Lending}
use Rattle.pb_base.specs.declared.limits.TheConstants.{MAX_PICKS}
use Rattle.pb_accept.specs.Sayings.{NoMemory}
use Rattle.pb_code.specs.Whole.{Code, ProcessLabels}
use Rattle.pb_command_io.specs.declared.status.Status.{Status}
use Rattle.pb_command_io.specs.declared.status.Status.TheVariants.{Done, Limit, Memory, Refused, Unexpected}
use Rattle.pb_history.specs.declared.counted.CountedPick.{CountedPick}
use Rattle.pb_options.specs.Lends.{lending_for}
use Rattle.pb_options.specs.declared.options.OutcomesOptions.{OutcomesOptions}
use Rattle.pb_search.specs.Deadlocks.{FoundDeadlock}
use Rattle.pb_search.specs.Outcomes.{Found, HasEndlessRun}
use Rattle.pb_search.specs.Told.{IsTold}
use Rattle.pb_search.specs.declared.found.Extent.{Extent}
use Rattle.pb_search.specs.declared.found.Extent.TheVariants as extent
use Rattle.pb_search.specs.declared.found.Until.TheVariants.{FirstDeadlock}
use Rattle.pb_search_fair.specs.CodeRuns.{TellsFairRuns}
use Rattle.pb_search_fair.specs.declared.runs.FairRuns.{FairRuns}
use Rattle.pb_search_fair.specs.declared.runs.FairRuns.TheVariants.{AllEnd, SomeDoNotEnd, TooMany}
use Rattle.pb_search_stages.specs.Reaching.{ProcessOutcome}
use Rattle.pb_search_stages.specs.declared.print.Print.{Print}
use Rattle.pb_search_engine.specs.Expected.{AreWanted, EndsAsExpected, HasNoFault, IsAsExpected, IsFirstOther, printing}
use Rattle.pb_search_engine.specs.Items.{AsExpected, Item, More, NotAsExpected, deadlock_item, outcome_item}
use Rattle.pb_search_engine.specs.OutcomeLines.{AreCounted}
use Rattle.pb_search_engine.specs.Requirements.{AreMet, IsBadAsked, IsFirstUnmet, SpellsAsked}
use Rattle.pb_search_engine.specs.SaysOfTexts.{SaysOfItems}
use Rattle.pb_search_engine.specs.Sayings.{BadLine, Lacks, Plain, Saying}
use Rattle.pb_search_engine.specs.SourceOutcomes.{without_prints}
use Rattle.pb_search_engine.specs.declared.item.Bound.TheVariants.{Configurations, FairRuns as ForFairRuns, Picks}
use Rattle.pb_search_engine.specs.declared.other.Other.{Other}
use Rattle.pb_search_engine.specs.declared.other.Other.TheVariants as other
use Rattle.pb_search_engine.specs.declared.print_lines.PrintFault.TheVariants.{NotPrint}
use Rattle.pb_search_engine.specs.declared.requirements.Requirement.{Requirement}

-- what is not as expected of an outcome: a fault, or else its prints
pub data IsOther (processes : List ProcessOutcome) : Other → Type 0 where
  fault : ¬ HasNoFault processes → IsOther processes other.Fault
  prints : HasNoFault processes → IsOther processes other.Prints

-- what a search up to the first deadlock tells of the code: what `outcomes --prints --first-deadlock` lists
abbrev pub IsListed : Lending → Code → (states : ℕ) → List Found → List FoundDeadlock → Extent → Type 0
IsListed lending code = IsTold (printing lending) code FirstDeadlock

-- what is said if each run that ends is as expected and only fair runs count, by what is told of these
abbrev pub fair_verdict : (states : ℕ) → FairRuns → Item
fair_verdict states AllEnd = AsExpected
fair_verdict states SomeDoNotEnd = NotAsExpected (other.Endless true)
fair_verdict states TooMany = More ForFairRuns states

-- with which status
abbrev pub fair_status : FairRuns → Status
fair_status AllEnd = Done
fair_status SomeDoNotEnd = Unexpected
fair_status TooMany = Limit

-- what is said of code if each run that ends is as expected and some run does not end, by whether only fair runs count
abbrev pub SaysOfEndless : (fair : Bool) → Lending → Code → (states : ℕ) → List Item → Status → Type 0
SaysOfEndless false lending code states items status =
    (items ≡ NotAsExpected (other.Endless false) ∷ []) × (status ≡ Unexpected)
SaysOfEndless true lending code states items status =
    (told : FairRuns) × TellsFairRuns (without_prints lending) code states told × (items ≡ fair_verdict states told ∷ [])
    × (status ≡ fair_status told)

-- what is found of code, under this lending: all its runs are as expected; or one is not, which is the first outcome of
-- the list that is not, or, if each that is listed is, the deadlock of the list, or, if each run that ends is as
-- expected, one that does not end, which counts if it is fair or all runs count; or there may be others than were
-- found, which all are as expected, since more than this number of configurations are reached, or since picks lead to
-- an outcome or a deadlock that are more than a run may have
pub data SaysOfRuns (fair : Bool) (lending : Lending) (any_order : Bool) (wanted : List Print) (code : Code) (states : ℕ)
    : List Item → Status → Type 0 where
  as_expected : IsAsExpected lending any_order wanted code
      → SaysOfRuns fair lending any_order wanted code states (AsExpected ∷ []) Done
  outcome : (found : List Found) (deadlocks : List FoundDeadlock) (extent : Extent) → IsListed lending code states found deadlocks extent
      → (at : ℕ) → IsFirstOther any_order wanted found at → (f : Found) → slice_get found at ≡ Some f
      → (picks : List CountedPick) → AreCounted f.picks picks → (what : Other) → IsOther f.outcome.processes what
      → SaysOfRuns fair lending any_order wanted code states (outcome_item 1 f.outcome picks ∷ NotAsExpected what ∷ []) Unexpected
  deadlock : (found : List Found) (deadlocks : List FoundDeadlock) (extent : Extent) → IsListed lending code states found deadlocks extent
      → AreWanted any_order wanted found → (d : FoundDeadlock) → slice_get deadlocks 0 ≡ Some d → (picks : List CountedPick) → AreCounted d.picks picks
      → SaysOfRuns fair lending any_order wanted code states (deadlock_item 1 d picks ∷ NotAsExpected other.Deadlock ∷ []) Unexpected
  endless : EndsAsExpected lending any_order wanted code → HasEndlessRun (printing lending) code
      → (items : List Item) (status : Status) → SaysOfEndless fair lending code states items status
      → SaysOfRuns fair lending any_order wanted code states items status
  many : (found : List Found) → IsListed lending code states found [] extent.TooMany → AreWanted any_order wanted found
      → SaysOfRuns fair lending any_order wanted code states (More Configurations states ∷ []) Limit
  long : (found : List Found) → IsListed lending code states found [] extent.TooLong → AreWanted any_order wanted found
      → SaysOfRuns fair lending any_order wanted code states (More Picks MAX_PICKS ∷ []) Limit

-- what is said of code of which requirements and prints are asked: the first requirement that is not met, and nothing
-- else; or all are met, and it is said what is found of the runs
pub data SaysOfAsked (fair : Bool) (lending : Lending) (any_order : Bool) (requirements : List Requirement) (wanted : List Print)
    (code : Code) (labels : List ProcessLabels) (states : ℕ) : List Saying → Status → Type 0 where
  unmet : (r : Requirement) → IsFirstUnmet code requirements r
      → SaysOfAsked fair lending any_order requirements wanted code labels states (Lacks r ∷ []) Unexpected
  met : AreMet code requirements
      → (said : List Saying) (status : Status)
      → SaysOfItems (SaysOfRuns fair lending any_order wanted code states) code.names labels said status
      → SaysOfAsked fair lending any_order requirements wanted code labels states said status

-- what is said of the lines after an accepted text, by its code: one says no print after those that say requirements;
-- or all say requirements and then prints, which are asked of the code; or out of memory
pub data SaysOfLines (fair : Bool) (lending : Lending) (any_order : Bool) (states : ℕ) (lines : List ℕ) (code : Code)
    (labels : List ProcessLabels) : List Saying → Status → Type 0 where
  no_prints : (at : ℕ) → IsBadAsked code lines (NotPrint at)
      → SaysOfLines fair lending any_order states lines code labels (BadLine at ∷ []) Refused
  asked : (requirements : List Requirement) (wanted : List Print) → SpellsAsked code lines requirements wanted
      → (said : List Saying) (status : Status)
      → SaysOfAsked fair lending any_order requirements wanted code labels states said status
      → SaysOfLines fair lending any_order states lines code labels said status
  no_memory : SaysOfLines fair lending any_order states lines code labels (Plain NoMemory ∷ []) Memory

-- so it is by the options
abbrev pub SaysOfExpectedOf : OutcomesOptions → (lines : List ℕ) → Code → List ProcessLabels → List Saying → Status → Type 0
SaysOfExpectedOf options lines = SaysOfLines options.fair (lending_for options.lend) options.any_order options.states lines

-- ---- what serves the proof

-- the outcome, which alone is told, by its picks, and what is not as expected of it
abbrev pub TellsOutcome : Found → List Item → Type 0
TellsOutcome f items =
    (picks : List CountedPick) × AreCounted f.picks picks × ((what : Other) × IsOther f.outcome.processes what
    × (items ≡ outcome_item 1 f.outcome picks ∷ NotAsExpected what ∷ []))

-- the deadlock, by its picks, and that it is not as expected
abbrev pub TellsDeadlock : FoundDeadlock → List Item → Type 0
TellsDeadlock d items =
    (picks : List CountedPick) × AreCounted d.picks picks
    × (items ≡ deadlock_item 1 d picks ∷ NotAsExpected other.Deadlock ∷ [])

-- what is said if all that was found is as expected, by how much that is; the search has not ended at a deadlock then
abbrev pub IsPlain : (states : ℕ) → Extent → List Item → Status → Type 0
IsPlain states (extent.All true) items status = (items ≡ NotAsExpected (other.Endless false) ∷ []) × (status ≡ Unexpected)
IsPlain states (extent.All false) items status = (items ≡ AsExpected ∷ []) × (status ≡ Done)
IsPlain states extent.TooMany items status = (items ≡ More Configurations states ∷ []) × (status ≡ Limit)
IsPlain states extent.TooLong items status = (items ≡ More Picks MAX_PICKS ∷ []) × (status ≡ Limit)
IsPlain states extent.AtDeadlock items status = ⊤

-- the same, by whether only fair runs count
abbrev pub IsPlainBy : (fair : Bool) → Lending → Code → (states : ℕ) → Extent → List Item → Status → Type 0
IsPlainBy false lending code states extent = IsPlain states extent
IsPlainBy true lending code states (extent.All true) = SaysOfEndless true lending code states
IsPlainBy true lending code states (extent.All false) = IsPlain states (extent.All false)
IsPlainBy true lending code states extent.TooMany = IsPlain states extent.TooMany
IsPlainBy true lending code states extent.TooLong = IsPlain states extent.TooLong
IsPlainBy true lending code states extent.AtDeadlock = IsPlain states extent.AtDeadlock
