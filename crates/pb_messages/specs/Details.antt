-- What a message shows of a wording: its summary, and after the place of the fault the other places and the notes.
use Rattle.std.specs.Prelude.{◌≡◌, ℕ, List, [], ◌∷◌, ◌++◌, Option, None, Some, codes, length, map, min, replicate, string_bytes}
use Rattle.std.specs.List.{flat_map}
use Rattle.std.specs.Fmt.{decimal}
use Rattle.pb_accept.specs.declared.cause.Cause.{Cause}
use Rattle.pb_message_excerpts.specs.Places.{IsPlace, excerpt}
use Rattle.pb_message_excerpts.specs.declared.place.Place.{Place}
use Rattle.pb_mistakes.specs.declared.wording.Spot.{Spot}
use Rattle.pb_mistakes.specs.declared.wording.Wording.{Wording}
use Rattle.pb_messages.specs.Messages.{IsShown, message}
use Rattle.pb_options.specs.Codes.{code_name}

-- another place as it is shown, with what is named before it
abbrev pub IsSpot : (label text : List ℕ) → Spot → List ℕ → Type 0
IsSpot label text spot shown =
    (place : Place) × IsPlace text (min spot.at (length text)) place
    × (shown ≡ excerpt (string_bytes spot.label ++ label) text place)

-- other places as they are shown, one after the other
pub data AreSpots (label text : List ℕ) : List Spot → List ℕ → Type 0 where
  none : AreSpots label text [] []
  more : (spots : List Spot) (spot : Spot) (shown one : List ℕ)
      → AreSpots label text spots shown → IsSpot label text spot one
      → AreSpots label text (spots ++ spot ∷ []) (shown ++ one)

-- a note, which has a line, after a margin of this width
abbrev pub note_row : (width : ℕ) → (note : List ℕ) → List ℕ
note_row width note = replicate width 32 ++ (codes " = " ++ (note ++ codes "\n"))

-- the offset at which a message points first: that of its cause, else that of the first other place
abbrev pub first_spot : List Spot → ℕ
first_spot [] = 0
first_spot (spot ∷ spots) = spot.at

abbrev pub first_offset : Option ℕ → List Spot → ℕ
first_offset (Some at) spots = at
first_offset None spots = first_spot spots

-- what is after the place of a fault: each other place of the wording, and each of its notes, whose margin is as wide as
-- the number of the line at which the message points first
pub record AreDetails (label text : List ℕ) (cause : Cause) (wording : Wording) (details : List ℕ) : Type 0 where
  pub shown : List ℕ
  pub first : Place
  pub spots : AreSpots label text wording.spots.items shown
  pub place : IsPlace text (min (first_offset cause.at wording.spots.items) (length text)) first
  pub parts : details ≡ shown ++ flat_map (λ note. note_row (length (decimal first.line)) (string_bytes note)) wording.notes.items

-- a message of a cause shows all of a wording
abbrev pub ShowsWording : (label text : List ℕ) → Cause → Wording → List ℕ → Type 0
ShowsWording label text cause wording told =
    (shown : List ℕ) × (details : List ℕ) × IsShown label text cause.at shown × AreDetails label text cause wording details
    × (told ≡ message (code_name cause.code) (string_bytes wording.summary) shown details)
