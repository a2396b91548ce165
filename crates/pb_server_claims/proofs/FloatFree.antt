-- No claim that is shown after a name has a number that is no integer.
use Rattle.std.proofs.Common.{◌≡◌, ℕ, zero, suc, false, List, [], ◌∷◌, ◌==◌, Option, Some, None, cond, length, refl}
use Rattle.std.specs.Prelude.{slice_index_or}
use Rattle.std.specs.Str.{bytes_eq}
use Rattle.std.specs.Str.Lossy.{utf8_lossy}
use Rattle.serde_json.specs.Data.{Data}
use Rattle.serde_json.specs.Written.{has_float}
use Rattle.pb_adapter_requests.proofs.FreeItems.{AreFree, append_free, cond_free, flat_free}
use Rattle.pb_names.specs.Resolves.{process_names}
use Rattle.pb_outline.specs.Places.{Place, program_places, same_kind}
use Rattle.pb_outline.specs.declared.place.Kind.TheVariants.{Process}
use Rattle.pb_server_claims.specs.Below.{each_below, made_of}
use Rattle.pb_server_claims.specs.Hints.{amount_words, hint_if, hints_at, hints_by, hints_data, hints_of, label_data}
use Rattle.pb_server_claims.specs.Known.{Known}
use Rattle.pb_server_claims.specs.Numbered.{Numbered, claim, resource_name}
use Rattle.pb_server_names.specs.Values.{end_of_name}

each_free : (f : ℕ → List Data) → ((n : ℕ) → AreFree (f n)) → (n : ℕ) → AreFree (each_below f n)
each_free f free zero = refl
each_free f free (suc n) = append_free (each_below f n) (f n) (each_free f free n) (free n)

hint_free : (text : List ℕ) (place : Place) (amount : ℕ) (resource : List ℕ) → AreFree (hint_if text place amount resource)
hint_free text place amount resource =
    cond_free (amount == 0) [] (label_data (end_of_name text place) (utf8_lossy (amount_words amount resource)) ∷ []) refl refl

of_free : (text : List ℕ) (n : Numbered) (place : Place) (p : ℕ) → AreFree (hints_of text n place p)
of_free text n place p =
    each_free (λ r. hint_if text place (claim n p r) (resource_name n r))
    (λ r. hint_free text place (claim n p r) (resource_name n r)) (length n.program.resources)

named_free : (text : List ℕ) (n : Numbered) (place : Place) (names : List (List ℕ))
    → AreFree (made_of names place.text (hints_of text n place))
named_free text n place names =
    each_free (λ p. cond (bytes_eq (slice_index_or names p []) place.text) (hints_of text n place p) [])
    (λ p. cond_free (bytes_eq (slice_index_or names p []) place.text) (hints_of text n place p) [] (of_free text n place p) refl)
    (length names)

place_free : (text : List ℕ) (n : Numbered) (place : Place) → AreFree (hints_at text n place)
place_free text n place =
    cond_free (same_kind place.kind Process) (made_of (process_names n.program) place.text (hints_of text n place)) []
    (named_free text n place (process_names n.program)) refl

by_free : (text : List ℕ) (found : Option Numbered) (places : List Place) → AreFree (hints_by text found places)
by_free text None places = refl
by_free text (Some n) places = flat_free (hints_at text n) (place_free text n) places

pub hints_free : (text : List ℕ) (known : Option Known) → has_float (hints_data text known) ≡ false
hints_free text None = refl
hints_free text (Some known) = by_free text known.found (program_places known.tree)
