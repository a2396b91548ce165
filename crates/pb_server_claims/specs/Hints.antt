-- What is shown after the name of a process where it is declared: each of its claims that is not 0.
use Rattle.std.specs.Prelude.{ℕ, ◌==◌, true, List, [], ◌∷◌, ◌++◌, Option, Some, None, codes, cond, length}
use Rattle.std.specs.Fmt.{decimal}
use Rattle.std.specs.List.{flat_map}
use Rattle.std.specs.Str.Lossy.{utf8_lossy}
use Rattle.serde_json.specs.Data.{Data, array, boolean, string, object, no_members, member}
use Rattle.serde_json.specs.View.{items_of}
use Rattle.pb_names.specs.Program.{Name}
use Rattle.pb_names.specs.Resolves.{process_names}
use Rattle.pb_outline.specs.Places.{Place, program_places, same_kind}
use Rattle.pb_outline.specs.declared.place.Kind.TheVariants.{Process}
use Rattle.pb_server_claims.specs.Below.{each_below, made_of}
use Rattle.pb_server_claims.specs.Known.{Known}
use Rattle.pb_server_claims.specs.Numbered.{Numbered, claim, resource_name}
use Rattle.pb_server_names.specs.Values.{end_of_name}

-- a label at a position
abbrev pub label_data : (position : Data) → (label : List ℕ) → Data
label_data position label = object (member (codes "label") (string label)
    (member (codes "paddingLeft") (boolean true)
    (member (codes "position") position no_members)))

-- how much of which resource
abbrev pub amount_words : (amount : ℕ) → (resource : Name) → List ℕ
amount_words amount resource = decimal amount ++ (codes " of " ++ resource)

-- a claim after a name; nothing if it is 0
abbrev pub hint_if : (text : List ℕ) → Place → (amount : ℕ) → (resource : Name) → List Data
hint_if text place amount resource =
    cond (amount == 0) [] (label_data (end_of_name text place) (utf8_lossy (amount_words amount resource)) ∷ [])

-- the claims of process p after a name
abbrev pub hints_of : (text : List ℕ) → Numbered → Place → (p : ℕ) → List Data
hints_of text n place p =
    each_below (λ r. hint_if text place (claim n p r) (resource_name n r)) (length n.program.resources)

-- those at a place, if a process is declared there
abbrev pub hints_at : (text : List ℕ) → Numbered → Place → List Data
hints_at text n place =
    cond (same_kind place.kind Process) (made_of (process_names n.program) place.text (hints_of text n place)) []

-- all of them, in the order of the text, by the numbered program, if there is one
abbrev pub hints_by : (text : List ℕ) → Option Numbered → List Place → List Data
hints_by text None places = []
hints_by text (Some n) places = flat_map (hints_at text n) places

-- all of them, if something is known of the text
abbrev pub hints_data : (text : List ℕ) → Option Known → Data
hints_data text None = array (items_of [])
hints_data text (Some known) = array (items_of (hints_by text known.found (program_places known.tree)))
