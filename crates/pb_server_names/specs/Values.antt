-- Places of a text as the protocol has them. The members of an object are in the order of their names.
use Rattle.std.specs.Prelude.{ℕ, ◌+◌, List, codes, length}
use Rattle.serde_json.specs.Data.{Data, number, string, object, unsigned, no_members, member}
use Rattle.pb_outline.specs.Places.{Place}
use Rattle.pb_outline.specs.Positions.{position_of}
use Rattle.pb_outline.specs.declared.position.Position.{Position}

-- a position
abbrev pub position_data : Position → Data
position_data position = object (member (codes "character") (number (unsigned position.character))
    (member (codes "line") (number (unsigned position.line)) no_members))

-- the part of a text from one offset up to another
abbrev pub range_data : List ℕ → (start end : ℕ) → Data
range_data text start end = object (member (codes "end") (position_data (position_of text end))
    (member (codes "start") (position_data (position_of text start)) no_members))

-- the part of a text that a name takes
abbrev pub name_range : List ℕ → Place → Data
name_range text place = range_data text place.at (place.at + length place.text)

-- the position right after a name
abbrev pub end_of_name : List ℕ → Place → Data
end_of_name text place = position_data (position_of text (place.at + length place.text))

-- a name in the document with this address
abbrev pub location_data : (uri text : List ℕ) → Place → Data
location_data uri text place = object (member (codes "range") (name_range text place)
    (member (codes "uri") (string uri) no_members))

-- another text in the place of a name
abbrev pub edit_data : (text new_name : List ℕ) → Place → Data
edit_data text new_name place = object (member (codes "newText") (string new_name)
    (member (codes "range") (name_range text place) no_members))
