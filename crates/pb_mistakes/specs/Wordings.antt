-- What is added to a wording.
use Rattle.std.specs.Prelude.{◌≡◌, ℕ, List, [], ◌∷◌, ◌++◌, Contains, IsTrue, map, string_bytes}
use Rattle.pb_mistakes.specs.declared.wording.Spot.{Spot}
use Rattle.pb_mistakes.specs.declared.wording.Wording.{Wording}

-- the notes of a wording
abbrev pub notes_of : Wording → List (List ℕ)
notes_of wording = map string_bytes wording.notes.items

-- a wording is whole with these notes and places only if the one before was, and it has the words of that one
abbrev pub Follows : (old new : Wording) → (notes : List (List ℕ)) → (spots : List Spot) → Type 0
Follows old new notes spots =
    IsTrue new.is_whole
    → IsTrue old.is_whole × (string_bytes new.summary ≡ string_bytes old.summary)
    × (notes_of new ≡ notes) × (new.spots.items ≡ spots)

-- a note was added, or there was no memory for it
abbrev pub AddsNote : (old : Wording) → (note : List ℕ) → (new : Wording) → Type 0
AddsNote old note new = Follows old new (notes_of old ++ note ∷ []) old.spots.items

-- a place was added, or there was no memory for it
abbrev pub AddsSpot : (old : Wording) → (spot : Spot) → (new : Wording) → Type 0
AddsSpot old spot new = Follows old new (notes_of old) (old.spots.items ++ spot ∷ [])

-- a wording has these words and notes and no other place, or there was no memory for them
abbrev pub IsWording : (words : List ℕ) → (notes : List (List ℕ)) → Wording → Type 0
IsWording words notes wording =
    IsTrue wording.is_whole
    → (string_bytes wording.summary ≡ words) × (notes_of wording ≡ notes) × (wording.spots.items ≡ [])

-- a wording keeps what an earlier one says: its words, its notes and its places
abbrev pub Keeps : (old new : Wording) → Type 0
Keeps old new =
    IsTrue new.is_whole
    → IsTrue old.is_whole × (string_bytes new.summary ≡ string_bytes old.summary) × (new.spots.items ≡ old.spots.items)
    × ((note : List ℕ) → Contains (notes_of old) note → Contains (notes_of new) note)
