-- What `outcomes --endless` says of code, as data, and with which status.
use Rattle.std.specs.Prelude.{◌≡◌, ◌⊎◌, ℕ, ◌<◌, Bool, List, [], ◌∷◌, length}
use Rattle.pb_base.specs.declared.lending.Lending.{Lending}
use Rattle.pb_base.specs.declared.limits.TheConstants.{MAX_PICKS}
use Rattle.pb_base.specs.declared.pick.Pick.{Pick}
use Rattle.pb_code.specs.Whole.{Code, ProcessLabels}
use Rattle.pb_command_io.specs.declared.status.Status.{Status}
use Rattle.pb_command_io.specs.declared.status.Status.TheVariants.{Done, Limit}
use Rattle.pb_history.specs.declared.counted.CountedPick.{CountedPick}
use Rattle.pb_options.specs.Lends.{lending_for}
use Rattle.pb_options.specs.declared.options.OutcomesOptions.{OutcomesOptions}
use Rattle.pb_search.specs.Outcomes.{IsExcess}
use Rattle.pb_search_engine.specs.Items.{AllEnd, Item, Lead, More, Round, SomeDoNotEnd}
use Rattle.pb_search_engine.specs.OutcomeLines.{AreCounted}
use Rattle.pb_search_engine.specs.SaysOfTexts.{SaysOfItems}
use Rattle.pb_search_engine.specs.Sayings.{Saying}
use Rattle.pb_search_engine.specs.SourceOutcomes.{without_prints}
use Rattle.pb_search_engine.specs.declared.item.Bound.TheVariants.{Configurations, Picks}
use Rattle.pb_search_fair.specs.EndlessRuns.{GoesRound, NeverEnds}
use Rattle.pb_search_stages.specs.Traces.{TraceLeads, trace_opening}

-- these picks are more than a run may have
abbrev pub IsLong : List Pick → Type 0
IsLong picks = MAX_PICKS < length picks

-- what is found in code, under this lending: every run ends, or every fair one; or picks lead into a circle and go round
-- it; or more than this number of configurations are reached; or the picks are more than a run may have
pub data SaysOfCircle (fair : Bool) (lending : Lending) (code : Code) (states : ℕ) : List Item → Status → Type 0 where
  ends : (NeverEnds (TraceLeads (without_prints lending) code) fair (trace_opening code) → ⊥)
      → SaysOfCircle fair lending code states (AllEnd fair ∷ []) Done
  endless : (lead round : List Pick) → GoesRound (TraceLeads (without_prints lending) code) fair (trace_opening code) lead round
      → (led rounds : List CountedPick) → AreCounted lead led → AreCounted round rounds
      → SaysOfCircle fair lending code states (Lead led ∷ Round rounds ∷ SomeDoNotEnd fair ∷ []) Done
  many : IsExcess (without_prints lending) code states → SaysOfCircle fair lending code states (More Configurations states ∷ []) Limit
  long : (lead round : List Pick) → GoesRound (TraceLeads (without_prints lending) code) fair (trace_opening code) lead round
      → IsLong lead ⊎ IsLong round → SaysOfCircle fair lending code states (More Picks MAX_PICKS ∷ []) Limit

-- what is said of code with these names: that, by the options; or out of memory
abbrev pub SaysOfEndlessOf : OutcomesOptions → Code → List ProcessLabels → List Saying → Status → Type 0
SaysOfEndlessOf options code = SaysOfItems (SaysOfCircle options.fair (lending_for options.lend) code options.states) code.names

-- ---- what serves the proof

-- what is found of a circle: its picks, or that they are more than a run may have
abbrev pub TellsCircle : (fair : Bool) → (lead round : List Pick) → List Item → Status → Type 0
TellsCircle fair lead round items status =
    ((led : List CountedPick) × AreCounted lead led × ((rounds : List CountedPick) × AreCounted round rounds
    × (items ≡ Lead led ∷ Round rounds ∷ SomeDoNotEnd fair ∷ []) × (status ≡ Done)))
    ⊎ ((IsLong lead ⊎ IsLong round) × (items ≡ More Picks MAX_PICKS ∷ []) × (status ≡ Limit))
