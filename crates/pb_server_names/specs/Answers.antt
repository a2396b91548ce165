-- What is answered of a name of a text: where it is declared, where it stands, and what a new name changes. Nothing is
-- answered where no name stands.
use Rattle.std.specs.Prelude.{ℕ, Bool, not, ◌&&◌, ◌||◌, List, Option, Some, None, codes, cond, filter, map}
use Rattle.std.specs.List.{find}
use Rattle.serde_json.specs.Data.{Data, null, array, object, no_members, member}
use Rattle.serde_json.specs.View.{items_of}
use Rattle.pb_code.specs.Names.{is_name}
use Rattle.pb_outline.specs.Places.{Place, declares_name, is_same_name}
use Rattle.pb_outline.specs.Scopes.{is_taken}
use Rattle.pb_server_names.specs.Values.{edit_data, location_data}

-- a location, if there is one
abbrev pub location_if : (uri text : List ℕ) → Option Place → Data
location_if uri text None = null
location_if uri text (Some place) = location_data uri text place

-- where the name of a place is declared
abbrev pub definition_data : (uri text : List ℕ) → List Place → Option Place → Data
definition_data uri text places None = null
definition_data uri text places (Some one) = location_if uri text (find (declares_name one) places)

-- the place is none that declares, if these are left out
abbrev pub is_wanted : Bool → Place → Bool
is_wanted with_declaration place = with_declaration || not place.declares

-- where the name of a place stands
abbrev pub references_data : (uri text : List ℕ) → List Place → Bool → Option Place → Data
references_data uri text places with_declaration None = null
references_data uri text places with_declaration (Some one) =
    array (items_of (map (location_data uri text)
    (filter (is_wanted with_declaration) (filter (is_same_name one) places))))

-- the changes of one document
abbrev pub changes_data : (uri : List ℕ) → List Data → Data
changes_data uri edits = object (member (codes "changes") (object (member uri (array (items_of edits)) no_members)) no_members)

-- a new name at all places of a name, if it is a name and not taken
abbrev pub rename_data : (uri text new_name : List ℕ) → List Place → Option Place → Data
rename_data uri text new_name places None = null
rename_data uri text new_name places (Some one) =
    cond (is_name new_name && not (is_taken one new_name places))
    (changes_data uri (map (edit_data text new_name) (filter (is_same_name one) places))) null
