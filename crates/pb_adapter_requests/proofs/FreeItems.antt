-- Lists of which no item has a number that is no integer.
use Rattle.std.proofs.Common.{◌≡◌, Bool, true, false, List, [], ◌∷◌, ◌++◌, map, cond, refl}
use Rattle.std.proofs.lemmas.Bool.{or_from, or_parts}
use Rattle.std.specs.List.{flat_map}
use Rattle.serde_json.specs.Data.{Data}
use Rattle.serde_json.specs.View.{items_of}
use Rattle.serde_json.specs.Written.{has_float, items_have_float}

-- no item of a list has one
abbrev pub AreFree : List Data → Type 0
AreFree items = items_have_float (items_of items) ≡ false

pub one_free : (d : Data) → has_float d ≡ false → AreFree (d ∷ [])
one_free d free = or_from (has_float d) false free refl

pub append_free : (first more : List Data) → AreFree first → AreFree more → AreFree (first ++ more)
append_free [] more one two = two
append_free (d ∷ first) more one two =
    let parts = or_parts (has_float d) (items_have_float (items_of first)) one in
    or_from (has_float d) (items_have_float (items_of (first ++ more))) parts.0 (append_free first more parts.1 two)

pub map_free : {X : Type 0} (f : X → Data) → ((x : X) → has_float (f x) ≡ false) → (xs : List X) → AreFree (map f xs)
map_free f free [] = refl
map_free f free (x ∷ xs) = or_from (has_float (f x)) (items_have_float (items_of (map f xs))) (free x) (map_free f free xs)

pub flat_free : {X : Type 0} (f : X → List Data) → ((x : X) → AreFree (f x)) → (xs : List X) → AreFree (flat_map f xs)
flat_free f free [] = refl
flat_free f free (x ∷ xs) = append_free (f x) (flat_map f xs) (free x) (flat_free f free xs)

-- one of two lists
pub cond_free : (b : Bool) (first other : List Data) → AreFree first → AreFree other → AreFree (cond b first other)
cond_free true first other one two = one
cond_free false first other one two = two
