-- What a new name changes, by whether it is a name.
use Rattle.std.proofs.Common.{◌≡◌, ◌∙◌, ℕ, Bool, true, false, not, ◌&&◌, List, Some, map, filter, cond, ap, sym, refl}
use Rattle.serde_json.specs.Data.{Data, null}
use Rattle.pb_code.proofs.NameTests.{name_decides}
use Rattle.pb_code.specs.Limits.{IsName}
use Rattle.pb_code.specs.Names.{is_name}
use Rattle.pb_outline.specs.Places.{Place, is_same_name}
use Rattle.pb_outline.specs.Scopes.{is_taken}
use Rattle.pb_server_names.specs.Answers.{changes_data, rename_data}
use Rattle.pb_server_names.specs.Values.{edit_data}

not_named : (b : Bool) → (b ≡ true → ⊥) → b ≡ false
not_named true other = absurd (other refl)
not_named false other = refl

and_false : (b : Bool) (d : Data) → cond (b && not true) d null ≡ null
and_false true d = refl
and_false false d = refl

-- a place that gets one
pub renamed : (uri text name : List ℕ) (places : List Place) (one : Place) (edits : List Data)
    → IsName name → is_taken one name places ≡ false
    → edits ≡ map (edit_data text name) (filter (is_same_name one) places)
    → changes_data uri edits ≡ rename_data uri text name places (Some one)
renamed uri text name places one edits named free same =
    let all = map (edit_data text name) (filter (is_same_name one) places) in
    ap (changes_data uri) same
    ∙ sym (ap (λ (b : Bool). cond (b && not (is_taken one name places)) (changes_data uri all) null) ((name_decides name).1 named)
    ∙ ap (λ (b : Bool). cond (not b) (changes_data uri all) null) free)

-- a place that gets none, since it is no name, or taken

pub not_renamed : (uri text name : List ℕ) (places : List Place) (one : Place) → ¬ IsName name
    → null ≡ rename_data uri text name places (Some one)
not_renamed uri text name places one other =
    let all = map (edit_data text name) (filter (is_same_name one) places) in
    sym (ap (λ (b : Bool). cond (b && not (is_taken one name places)) (changes_data uri all) null)
    (not_named (is_name name) (λ is. other ((name_decides name).0 is))))

pub not_free : (uri text name : List ℕ) (places : List Place) (one : Place) → is_taken one name places ≡ true
    → null ≡ rename_data uri text name places (Some one)
not_free uri text name places one taken =
    let all = map (edit_data text name) (filter (is_same_name one) places) in
    sym (ap (λ (b : Bool). cond (is_name name && not b) (changes_data uri all) null) taken
    ∙ and_false (is_name name) (changes_data uri all))

-- what a new name changes
pub ruleset renames = (renamed, not_free)
