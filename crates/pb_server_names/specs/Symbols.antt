-- The symbols of a text: each resource, and each process with its integers. Numbers of kinds are those of the protocol.
use Rattle.std.specs.Prelude.{ℕ, ◌+◌, ◌&&◌, Bool, false, List, [], ◌∷◌, Option, Some, None, codes, cond, filter, length, map}
use Rattle.std.specs.List.{flat_map}
use Rattle.std.specs.Str.Lossy.{utf8_lossy}
use Rattle.serde_json.specs.Data.{Data, array, number, string, object, unsigned, no_members, member}
use Rattle.serde_json.specs.View.{items_of}
use Rattle.pb_lexer.specs.Tokens.{Token}
use Rattle.pb_outline.specs.Extents.{extent_of}
use Rattle.pb_outline.specs.Places.{Place, same_kind}
use Rattle.pb_outline.specs.Scopes.{process_at}
use Rattle.pb_outline.specs.declared.extent.Extent.{Extent}
use Rattle.pb_outline.specs.declared.place.Kind.{Kind}
use Rattle.pb_outline.specs.declared.place.Kind.TheVariants.{Resource, Process, Integer}
use Rattle.pb_server_names.specs.Values.{name_range, range_data}

-- a resource is a constant, a process a function, an integer a variable
abbrev pub symbol_kind : Kind → ℕ
symbol_kind Resource = 14
symbol_kind Process = 12
symbol_kind (Integer p) = 13

-- a symbol, with where it is declared, where its name is, and what is declared inside
abbrev pub symbol_with : (name : List ℕ) → (kind : ℕ) → (range own : Data) → (inside : List Data) → Data
symbol_with name kind range own inside = object (member (codes "children") (array (items_of inside))
    (member (codes "kind") (number (unsigned kind))
    (member (codes "name") (string name)
    (member (codes "range") range
    (member (codes "selectionRange") own no_members)))))

-- a name that is declared in this part of the text, with what is declared inside
abbrev pub symbol_data : (text : List ℕ) → Place → Extent → List Data → Data
symbol_data text place extent inside =
    symbol_with (utf8_lossy place.text) (symbol_kind place.kind) (range_data text extent.start extent.end)
    (name_range text place) inside

-- an integer: its declaration is its name
abbrev pub own_extent : Place → Extent
own_extent place = record { start = place.at; end = place.at + length place.text }

-- the symbol of an integer
abbrev pub integer_data : (text : List ℕ) → Place → Data
integer_data text place = symbol_data text place (own_extent place) []

-- the place declares an integer of this process
abbrev pub is_integer_of : Option ℕ → Place → Bool
is_integer_of None place = false
is_integer_of (Some p) place = place.declares && same_kind place.kind (Integer p)

-- the integers of the process whose name is at an offset
abbrev pub integers_at : (text : List ℕ) → List Place → ℕ → List Data
integers_at text places at = map (integer_data text) (filter (is_integer_of (process_at at places)) places)

-- the symbol of a place: of a resource and of a process where it is declared, none elsewhere
abbrev pub symbols_by : Kind → (text : List ℕ) → List Token → List Place → Place → List Data
symbols_by Resource text tokens places place = symbol_data text place (extent_of tokens place.at) [] ∷ []
symbols_by Process text tokens places place =
    symbol_data text place (extent_of tokens place.at) (integers_at text places place.at) ∷ []
symbols_by (Integer p) text tokens places place = []

-- the symbols that a place makes: it makes none if it declares nothing
abbrev pub symbols_of : (text : List ℕ) → List Token → List Place → Place → List Data
symbols_of text tokens places place = cond place.declares (symbols_by place.kind text tokens places place) []

-- all symbols, in the order of the text
abbrev pub symbols_data : (text : List ℕ) → List Token → List Place → Data
symbols_data text tokens places = array (items_of (flat_map (symbols_of text tokens places) places))
