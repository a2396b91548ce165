-- What `outcomes` says of an input by its options.
use Rattle.std.specs.Prelude.{◌≡◌, ℕ, Bool, true, false, List, [], Option, None, Some}
use Rattle.pb_accept.specs.Claims.{SaysOfAny}
use Rattle.pb_accept.specs.Objects as base
use Rattle.pb_code.specs.Whole.{Code, ProcessLabels}
use Rattle.pb_command_io.specs.Inputs.{SaysOfInput}
use Rattle.pb_command_io.specs.Parts.{AreTwoParts}
use Rattle.pb_command_io.specs.declared.status.Status.{Status}
use Rattle.pb_options.specs.Lends.{lending_for}
use Rattle.pb_options.specs.declared.options.OutcomesOptions.{OutcomesOptions}
use Rattle.pb_page_engine.specs.Schedules.{SaysOfSchedules}
use Rattle.pb_search_engine.specs.SaysEndless.{SaysOfEndlessOf}
use Rattle.pb_search_engine.specs.SaysExpected.{SaysOfExpectedOf}
use Rattle.pb_search_engine.specs.SaysOfOne.{SaysOfOne}
use Rattle.pb_search_engine.specs.SaysOfTexts.{SaysOfText}
use Rattle.pb_search_engine.specs.SaysOutcomes.{SaysOfOutcomesOf}
use Rattle.pb_search_engine.specs.Sayings.{Saying, SaysOfAnyInput, text_of}
use Rattle.pb_search_engine.specs.declared.one_run.Target.{Target}
use Rattle.pb_search_engine.specs.declared.one_run.Target.TheVariants.{Deadlock, Outcome}
use Rattle.pb_search_engine.specs.declared.outcomes.Way.{Way}
use Rattle.pb_search_engine.specs.declared.outcomes.Way.TheVariants.{Document, One, Seeks}
use Rattle.pb_search_engine.specs.declared.sought.Sought.{Sought}
use Rattle.pb_search_engine.specs.declared.sought.Sought.TheVariants.{All, Endless, Expected}
use Rattle.pb_voice.specs.Voices.{Written}
use Rattle.pb_voice.specs.declared.form.Form.{Form}

-- which outcome or deadlock a run is asked for, if one is, by the numbers that are given
abbrev pub target_of : (run deadlock : Option ℕ) → Option Target
target_of (Some n) deadlock = Some (Outcome n)
target_of None (Some n) = Some (Deadlock n)
target_of None None = None

-- a run to that one, if one is asked for; else all
abbrev pub one_or_all : Option Target → Way
one_or_all (Some target) = One target
one_or_all None = Seeks All

-- what is asked of a text: the document of all schedules; or else whether all runs are as expected; or else a run that
-- never ends; or else a run to one outcome or deadlock; or else all of them
abbrev pub way_by : (graph expect endless : Bool) → Option Target → Way
way_by true expect endless target = Document
way_by false true endless target = Seeks Expected
way_by false false true target = Seeks Endless
way_by false false false target = one_or_all target

-- so it is by options
abbrev pub way_of : OutcomesOptions → Way
way_of options = way_by options.graph options.expect options.endless (target_of options.run options.deadlock)

-- what is said of code, by what is sought in it, and by the lines after its text
abbrev pub SaysOfCode : Sought → OutcomesOptions → (lines : List ℕ) → Code → List ProcessLabels → List Saying → Status → Type 0
SaysOfCode All options lines = SaysOfOutcomesOf options
SaysOfCode Endless options lines = SaysOfEndlessOf options
SaysOfCode Expected options lines = SaysOfExpectedOf options lines

-- an input is a text; and there are lines after it if these say what is expected
abbrev pub AreCut : Sought → (bytes text lines : List ℕ) → Type 0
AreCut All bytes text lines = (text ≡ bytes) × (lines ≡ [])
AreCut Endless bytes text lines = (text ≡ bytes) × (lines ≡ [])
AreCut Expected bytes text lines = AreTwoParts bytes text lines

-- what is said of an input: that, if its text is accepted
abbrev pub SaysOfSought : Sought → OutcomesOptions → List ℕ → List Saying → Status → Type 0
SaysOfSought sought options bytes said status =
    (text : List ℕ) × (lines : List ℕ) × AreCut sought bytes text lines × SaysOfText (SaysOfCode sought options lines) text said status

-- what may be said of an input of which a run to one outcome or deadlock is asked, as a text
abbrev pub SaysOfTarget : Target → OutcomesOptions → List ℕ → List ℕ → Status → Type 0
SaysOfTarget target options = SaysOfInput (SaysOfOne target options.lend options.first_deadlock options.prints options.states)

-- what may be said of an input by what is asked of it: the document and what is found are told in a form, and a run as
-- a text
abbrev pub SaysBy : Way → Form → OutcomesOptions → List ℕ → List ℕ → Status → Type 0
SaysBy Document form options = Written (base.text_of form) (SaysOfAny (SaysOfSchedules (lending_for options.lend) options.states))
SaysBy (Seeks sought) form options = Written (text_of form) (SaysOfAnyInput (SaysOfSought sought options))
SaysBy (One target) form options = SaysOfTarget target options

-- what `outcomes` with these options may say of an input
abbrev pub SaysOfSearches : Form → OutcomesOptions → List ℕ → List ℕ → Status → Type 0
SaysOfSearches form options = SaysBy (way_of options) form options
