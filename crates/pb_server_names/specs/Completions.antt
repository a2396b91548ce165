-- What may be written at an offset: the names that may stand there, and the reserved words. Numbers of kinds are those
-- of the protocol.
use Rattle.std.specs.Prelude.{ℕ, List, ◌++◌, codes, filter, map}
use Rattle.std.specs.Str.Lossy.{utf8_lossy}
use Rattle.serde_json.specs.Data.{Data, array, number, string, object, unsigned, no_members, member}
use Rattle.serde_json.specs.View.{items_of}
use Rattle.pb_code.specs.Names.{reserved_words}
use Rattle.pb_outline.specs.Places.{Place}
use Rattle.pb_outline.specs.Scopes.{is_in_scope, process_at}
use Rattle.pb_outline.specs.declared.place.Kind.{Kind}
use Rattle.pb_outline.specs.declared.place.Kind.TheVariants.{Resource, Process, Integer}

-- a resource is a constant, an integer a variable
abbrev pub item_kind : Kind → ℕ
item_kind Resource = 21
item_kind Process = 3
item_kind (Integer p) = 6

-- something that may be written, with its kind
abbrev pub item_data : (kind : ℕ) → (label : List ℕ) → Data
item_data kind label = object (member (codes "kind") (number (unsigned kind))
    (member (codes "label") (string label) no_members))

-- a name
abbrev pub name_item : Place → Data
name_item place = item_data (item_kind place.kind) (utf8_lossy place.text)

-- a reserved word
abbrev pub word_item : List ℕ → Data
word_item word = item_data 14 word

-- some names, and then all reserved words
abbrev pub items_data : List Place → Data
items_data names = array (items_of (map name_item names ++ map word_item reserved_words))

-- what may be written at an offset
abbrev pub completions_data : List Place → (at : ℕ) → Data
completions_data places at = items_data (filter (is_in_scope (process_at at places)) places)
