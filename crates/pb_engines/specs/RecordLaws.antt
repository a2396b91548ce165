-- What `record` wrote can be replayed, and a seed decides it.
use Rattle.std.specs.Prelude.{◌≡◌, ◌≢◌, ◌↔◌, ◌⊎◌, ℕ, ◌<◌, ◌≤◌, List, Option, Some, length}
use Rattle.pb_base.specs.declared.lending.Lending.{Lending}
use Rattle.pb_base.specs.declared.limits.TheConstants.{MAX_PICKS, MAX_TEXT}
use Rattle.pb_base.specs.Steppers.{State}
use Rattle.pb_code.specs.Code.{CodeProcess}
use Rattle.pb_code.specs.Whole.{Code, ProcessLabels}
use Rattle.pb_codegen.specs.Compiled.{IsCompiled}
use Rattle.pb_history.specs.declared.counted.CountedPick.{CountedPick}
use Rattle.pb_picks.specs.PickLines.{SpellsPicks}
use Rattle.pb_command_io.specs.Parts.{AreTwoParts}
use Rattle.pb_accept.specs.RunTexts.{EndsLine, IsEnded}
use Rattle.pb_engines.specs.Records.{SaysOfRecord}
use Rattle.pb_record.specs.Recorded.{IsRecorded}
use Rattle.pb_accept.specs.Replays.{SaysOfReplay}
use Rattle.pb_accept.specs.Sayings.{Saying, line_of}
use Rattle.pb_voice.specs.Voices.{Written}
use Rattle.pb_command_io.specs.declared.status.Status.{Status}
use Rattle.pb_command_io.specs.declared.status.Status.TheVariants.{Deadlock, Done, Refused}

-- the text is the recorded one, ended by a line feed; the lines say the picks of a run of its code under this
-- lending, the drawn one if there is a seed
pub record HoldsRun (lending : Lending) (steps : ℕ) (seed : Option ℕ) (bytes text lines : List ℕ) : Type 0 where
  pub ended : IsEnded bytes text
  pub code : Code
  pub labels : List ProcessLabels
  pub compiled : IsCompiled bytes code labels
  pub picks : List CountedPick
  pub end : State CodeProcess
  pub recorded : IsRecorded lending code steps seed picks end
  pub said : SpellsPicks code lines picks

-- a run was written with this status
abbrev pub IsOfRun : Status → Type 0
IsOfRun status = (status ≡ Done) ⊎ (status ≡ Deadlock)

-- an input is cut by `replay` into the recorded text and the picks of its run, and under the same lending no line
-- or pick of them is refused; nor is the text, unless the line feed after it made it longer than a text may be.
-- The replay ends in a deadlock exactly if the run was written as one
pub record CanBeReplayed (lending : Lending) (steps : ℕ) (seed : Option ℕ) (bytes whole : List ℕ) (status : Status) : Type 0 where
  pub cut : (text lines : List ℕ) → AreTwoParts whole text lines → HoldsRun lending steps seed bytes text lines
  pub replayed : (length bytes < MAX_TEXT) ⊎ EndsLine bytes
      → (said : List Saying) (answered : Status) → SaysOfReplay lending whole said answered → answered ≢ Refused
  pub deadlock : (length bytes < MAX_TEXT) ⊎ EndsLine bytes
      → (said : List Saying) (answered : Status) → SaysOfReplay lending whole said answered
      → ((answered ≡ Deadlock) ↔ (status ≡ Deadlock))

-- what `record` wrote as lines can be replayed under the same lending
abbrev pub RecordsCanBeReplayed : Type 0
RecordsCanBeReplayed =
    (lending : Lending) (steps : ℕ) (seed : Option ℕ) (bytes whole : List ℕ) (status : Status) → steps ≤ MAX_PICKS
    → Written line_of (SaysOfRecord lending steps seed) bytes whole status → IsOfRun status
    → CanBeReplayed lending steps seed bytes whole status

-- two records of one text with one seed under one lending say the same, in each form in the same bytes, and have the same
-- status
abbrev pub SeedsWriteOneRecord : Type 0
SeedsWriteOneRecord =
    (lending : Lending) (steps seed : ℕ) (bytes : List ℕ) (one other : List Saying) (its_status status : Status)
    → SaysOfRecord lending steps (Some seed) bytes one its_status → IsOfRun its_status
    → SaysOfRecord lending steps (Some seed) bytes other status → IsOfRun status
    → (one ≡ other) × (its_status ≡ status)
