-- The texts of names, as they are held.
use Rattle.std.proofs.Common.{◌≡◌, ◌∙◌, ◌++◌, ◌-◌, ◌≤◌, ℕ, List, [], ◌∷◌, Vec, Global, length, map, take, drop, get_or, refl, sym, ap, arith}
use Rattle.std.specs.List.{flat_map}
use Rattle.std.proofs.lemmas.List.{take_all}
use Rattle.pb_json.specs.Strings.{escaped}
use Rattle.pb_plan_engine.specs.Objects.{later_name, names_json}

-- what is said of each name is said of what contracts see of it
pub names_seen : (f : List ℕ → List ℕ) (names : List (Vec ℕ Global))
    → flat_map (λ (name : Vec ℕ Global). f name.items) names ≡ flat_map f (map (λ (name : Vec ℕ Global). name.items) names)
names_seen f [] = refl
names_seen f (name ∷ names) = ap (λ (l : List ℕ). f name.items ++ l) (names_seen f names)

-- what is said of names, of which there is a first one
pub names_of_some : (names : List (Vec ℕ Global)) (d : Vec ℕ Global) → 1 ≤ length names
    → names_json (map (λ (name : Vec ℕ Global). name.items) names)
    ≡ flat_map escaped (get_or names 0 d).items ++ flat_map (λ (name : Vec ℕ Global). later_name name.items) (take (length names - 1) (drop 1 names))
names_of_some [] d some = absurd (omega (arith, some))
names_of_some (first ∷ later) d some =
    ap (λ (l : List ℕ). flat_map escaped first.items ++ l) (sym (names_seen later_name later))
    ∙ ap (λ (l : List (Vec ℕ Global)). flat_map escaped first.items ++ flat_map (λ (name : Vec ℕ Global). later_name name.items) l)
    (sym (take_all (length (first ∷ later) - 1) later (omega arith)))
