-- What a message says of a refusal.
use Rattle.std.specs.Prelude.{◌≡◌, ◌≢◌, ◌<◌, ℕ, List, [], ◌++◌, Option, None, Some, codes, length, min, slice_index}
use Rattle.pb_accept.specs.Causes.{text_cause}
use Rattle.pb_message_excerpts.specs.Places.{IsPlace, excerpt}
use Rattle.pb_accept.specs.declared.cause.Cause.{Cause}
use Rattle.pb_codegen.specs.Compiled.{IsRefused}
use Rattle.pb_codegen.specs.declared.fault.CompileFault.{CompileFault}
use Rattle.pb_options.specs.Codes.{code_name}
use Rattle.pb_message_excerpts.specs.declared.place.Place.{Place}

-- the place of a fault as it is shown: nothing if it has none; one after the text is that of its end
abbrev pub IsShown : (label text : List ℕ) → Option ℕ → List ℕ → Type 0
IsShown label text None shown = shown ≡ []
IsShown label text (Some at) shown =
    (place : Place) × IsPlace text (min at (length text)) place × (shown ≡ excerpt label text place)

-- a message: a code, what is wrong in words, a place, and details
abbrev pub message : (code summary shown details : List ℕ) → List ℕ
message code summary shown details =
    codes "error " ++ code ++ codes ": " ++ summary ++ codes "\n" ++ shown ++ details

-- what is wrong in words: not empty, and in one line
pub record IsSummary (summary : List ℕ) : Type 0 where
  pub some : 0 < length summary
  pub line : (k : ℕ) → k < length summary → slice_index summary k ≢ 10

-- the message of this code, with this place in the text
abbrev pub IsMessageAt : (label text code : List ℕ) → Option ℕ → List ℕ → Type 0
IsMessageAt label text code at told =
    (summary : List ℕ) × (shown : List ℕ) × (details : List ℕ)
    × IsSummary summary × IsShown label text at shown × (told ≡ message code summary shown details)

-- the message of a cause
abbrev pub IsMessage : (label text : List ℕ) → Cause → List ℕ → Type 0
IsMessage label text cause told = IsMessageAt label text (code_name cause.code) cause.at told

-- the text is refused for this cause, which its refusal line tells
abbrev pub HasCause : (text : List ℕ) → Cause → Type 0
HasCause text cause = (fault : CompileFault) × IsRefused text fault × (text_cause fault ≡ Some cause)

-- the message tells the cause of the refusal of a text: its code and its offset
abbrev pub TellsRefusal : (label text told : List ℕ) → Type 0
TellsRefusal label text told = (cause : Cause) × HasCause text cause × IsMessage label text cause told
