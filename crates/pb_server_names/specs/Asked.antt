-- What the parameters of a request ask for: a place of the text, and what else they say.
use Rattle.std.specs.Prelude.{ℕ, Bool, true, List, Option, Some, None, codes, option_and_then}
use Rattle.std.specs.List.{find}
use Rattle.serde_json.specs.Data.{Data}
use Rattle.serde_json.specs.Find.{get, as_bool}
use Rattle.pb_adapter_requests.specs.Requests.{number_in, text_in}
use Rattle.pb_outline.specs.Places.{Place, is_at}
use Rattle.pb_outline.specs.Positions.{offset_at}
use Rattle.pb_outline.specs.declared.position.Position.{Position}

-- a position, of its line and its character
abbrev pub position_of_numbers : Option ℕ → Option ℕ → Option Position
position_of_numbers (Some line) (Some character) = Some (record { line = line; character = character })
position_of_numbers _ _ = None

-- the position that a value says
abbrev pub position_in : Data → Option Position
position_in d = position_of_numbers (number_in (codes "line") d) (number_in (codes "character") d)

-- the position that the parameters ask for, and the offset that has it in a text
abbrev pub asked_position : Option Data → Option Position
asked_position params = option_and_then position_in (option_and_then (get (codes "position")) params)

abbrev pub asked_offset : List ℕ → Option Data → Option ℕ
asked_offset text params = option_and_then (offset_at text) (asked_position params)

-- the name that stands there
abbrev pub asked_place : List ℕ → List Place → Option Data → Option Place
asked_place text places params = option_and_then (λ at. find (is_at at) places) (asked_offset text params)

-- the new name that they give
abbrev pub asked_name : Option Data → Option (List ℕ)
asked_name params = option_and_then (text_in (codes "newName")) params

-- whether they ask for the declaration among the references; they do if they say nothing
abbrev pub true_unless : Option Bool → Bool
true_unless None = true
true_unless (Some b) = b

abbrev pub asks_declaration : Option Data → Bool
asks_declaration params =
    true_unless (option_and_then (λ d. option_and_then as_bool (get (codes "includeDeclaration") d))
    (option_and_then (get (codes "context")) params))
