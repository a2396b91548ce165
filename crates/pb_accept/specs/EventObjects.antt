-- What a run shows, as objects of JSON.
use Rattle.std.specs.Prelude.{ℕ, List, [], ◌∷◌, codes, length, slice_index_or}
use Rattle.std.specs.Fmt.{decimal}
use Rattle.std.specs.List.{concat}
use Rattle.pb_base.specs.Lines.{NameTable, fault_text, name_of}
use Rattle.pb_base.specs.declared.event.Event.{Event}
use Rattle.pb_base.specs.declared.event.Event.TheVariants.{Granted, Returned, Printed, Faulted, Finished}
use Rattle.pb_base.specs.declared.pair.Pair.{Pair}
use Rattle.pb_base.specs.declared.pick.Pick.{Pick}
use Rattle.pb_json.specs.Strings.{string_text}
use Rattle.pb_json.specs.Values.{integer_text, list_text}

-- an amount of a resource
abbrev pub pair_json : NameTable → Pair → List ℕ
pair_json names pair = concat (
    codes "{\"amount\":" ∷ decimal pair.amount ∷ codes ",\"resource\":" ∷ string_text (name_of names.resources pair.resource) ∷ codes "}" ∷ [])

-- the amount with this number
abbrev pub pair_at : NameTable → List Pair → ℕ → List ℕ
pair_at names pairs k = pair_json names (slice_index_or pairs k (record { resource = 0; amount = 0 }))

-- a list of amounts
abbrev pub pairs_json : NameTable → List Pair → List ℕ
pairs_json names pairs = list_text (pair_at names pairs) (length pairs)

-- an arm of a process lends or gives back amounts
abbrev pub bundle_json : (kind : List ℕ) → NameTable → Pick → List Pair → List ℕ
bundle_json kind names pick pairs = concat (
    codes "{\"kind\":\"" ∷ kind ∷ codes "\",\"process\":" ∷ string_text (name_of names.processes pick.process) ∷ codes ",\"arm\":"
    ∷ decimal pick.arm ∷ codes ",\"amounts\":" ∷ pairs_json names pairs ∷ codes "}\n" ∷ [])

-- an operator of an arm had no result
abbrev pub fault_json : (word : List ℕ) → NameTable → Pick → List ℕ
fault_json word names pick = concat (
    codes "{\"kind\":\"fault\",\"process\":" ∷ string_text (name_of names.processes pick.process) ∷ codes ",\"arm\":"
    ∷ decimal pick.arm ∷ codes ",\"fault\":\"" ∷ word ∷ codes "\"}\n" ∷ [])

-- an event
abbrev pub event_json : NameTable → Event → List ℕ
event_json names (Granted pick bundle) = bundle_json (codes "grant") names pick bundle
event_json names (Returned pick bundle) = bundle_json (codes "return") names pick bundle
event_json names (Printed pick value) = concat (
    codes "{\"kind\":\"print\",\"process\":" ∷ string_text (name_of names.processes pick.process) ∷ codes ",\"arm\":"
    ∷ decimal pick.arm ∷ codes ",\"value\":" ∷ integer_text value ∷ codes "}\n" ∷ [])
event_json names (Faulted pick kind) = fault_json (fault_text kind) names pick
event_json names (Finished process) = concat (
    codes "{\"kind\":\"end\",\"process\":" ∷ string_text (name_of names.processes process) ∷ codes "}\n" ∷ [])
