-- No value that is answered has a number that is no integer.
use Rattle.std.proofs.Common.{◌≡◌, ℕ, Bool, true, false, not, ◌&&◌, ◌||◌, List, [], map, Option, Some, None, cond, filter, refl}
use Rattle.std.proofs.lemmas.Bool.{or_from}
use Rattle.std.specs.List.{find}
use Rattle.serde_json.specs.Data.{Data, null}
use Rattle.serde_json.specs.View.{items_of}
use Rattle.serde_json.specs.Written.{has_float, items_have_float}
use Rattle.pb_adapter_requests.proofs.FreeItems.{AreFree, append_free, cond_free, flat_free, map_free, one_free}
use Rattle.pb_code.specs.Names.{is_name, reserved_words}
use Rattle.pb_lexer.specs.Tokens.{Token}
use Rattle.pb_outline.specs.Extents.{extent_of}
use Rattle.pb_outline.specs.Places.{Place, declares_name, is_same_name}
use Rattle.pb_outline.specs.Scopes.{is_in_scope, is_taken, process_at}
use Rattle.pb_outline.specs.declared.extent.Extent.{Extent}
use Rattle.pb_outline.specs.declared.place.Kind.{Kind}
use Rattle.pb_outline.specs.declared.place.Kind.TheVariants.{Resource, Process, Integer}
use Rattle.pb_server_names.specs.Answers.{changes_data, definition_data, is_wanted, location_if, references_data, rename_data}
use Rattle.pb_server_names.specs.Completions.{completions_data, items_data, name_item, word_item}
use Rattle.pb_server_names.specs.Symbols.{integer_data, integers_at, is_integer_of, symbol_data, symbols_by, symbols_data, symbols_of}
use Rattle.pb_server_names.specs.Values.{edit_data, location_data}

-- ---- where names are

location_free : (uri text : List ℕ) (found : Option Place) → has_float (location_if uri text found) ≡ false
location_free uri text None = refl
location_free uri text (Some place) = refl

pub definition_free : (uri text : List ℕ) (places : List Place) (one : Option Place)
    → has_float (definition_data uri text places one) ≡ false
definition_free uri text places None = refl
definition_free uri text places (Some one) = location_free uri text (find (declares_name one) places)

pub references_free : (uri text : List ℕ) (places : List Place) (with_declaration : Bool) (one : Option Place)
    → has_float (references_data uri text places with_declaration one) ≡ false
references_free uri text places with_declaration None = refl
references_free uri text places with_declaration (Some one) =
    map_free (location_data uri text) (λ place. refl) (filter (is_wanted with_declaration) (filter (is_same_name one) places))

changes_free : (uri : List ℕ) (edits : List Data) → AreFree edits → has_float (changes_data uri edits) ≡ false
changes_free uri edits free =
    or_from (items_have_float (items_of edits) || false) false
    (or_from (items_have_float (items_of edits)) false free refl) refl

or_null_free : (b : Bool) (d : Data) → has_float d ≡ false → has_float (cond b d null) ≡ false
or_null_free true d free = free
or_null_free false d free = refl

pub rename_free : (uri text name : List ℕ) (places : List Place) (one : Option Place)
    → has_float (rename_data uri text name places one) ≡ false
rename_free uri text name places None = refl
rename_free uri text name places (Some one) =
    let edits = map (edit_data text name) (filter (is_same_name one) places) in
    or_null_free (is_name name && not (is_taken one name places)) (changes_data uri edits)
    (changes_free uri edits (map_free (edit_data text name) (λ place. refl) (filter (is_same_name one) places)))

-- ---- symbols

symbol_free : (text : List ℕ) (place : Place) (extent : Extent) (inside : List Data) → AreFree inside
    → has_float (symbol_data text place extent inside) ≡ false
symbol_free text place extent inside free = or_from (items_have_float (items_of inside)) false free refl

integers_free : (text : List ℕ) (places : List Place) (at : ℕ) → AreFree (integers_at text places at)
integers_free text places at =
    map_free (integer_data text) (λ place. refl) (filter (is_integer_of (process_at at places)) places)

by_kind_free : (kind : Kind) (text : List ℕ) (tokens : List Token) (places : List Place) (place : Place)
    → AreFree (symbols_by kind text tokens places place)
by_kind_free Resource text tokens places place =
    one_free (symbol_data text place (extent_of tokens place.at) [])
    (symbol_free text place (extent_of tokens place.at) [] refl)
by_kind_free Process text tokens places place =
    let inside = integers_at text places place.at in
    one_free (symbol_data text place (extent_of tokens place.at) inside)
    (symbol_free text place (extent_of tokens place.at) inside (integers_free text places place.at))
by_kind_free (Integer p) text tokens places place = refl

pub symbols_free : (text : List ℕ) (tokens : List Token) (places : List Place)
    → has_float (symbols_data text tokens places) ≡ false
symbols_free text tokens places =
    flat_free (symbols_of text tokens places)
    (λ place. cond_free place.declares (symbols_by place.kind text tokens places place) []
    (by_kind_free place.kind text tokens places place) refl) places

-- ---- completions

pub items_free : (names : List Place) → has_float (items_data names) ≡ false
items_free names =
    append_free (map name_item names) (map word_item reserved_words) (map_free name_item (λ place. refl) names)
    (map_free word_item (λ word. refl) reserved_words)

pub completions_free : (places : List Place) (at : ℕ) → has_float (completions_data places at) ≡ false
completions_free places at = items_free (filter (is_in_scope (process_at at places)) places)
