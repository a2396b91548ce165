-- Resources that are changed one after another.
use Rattle.std.proofs.Common.{◌≡◌, ◌∙◌, ℕ, zero, suc, ◌+◌, ◌<◌, ◌≤◌, Bool, ◌||◌, List, [], ◌∷◌, ◌++◌, length, get_or, set, map, take, drop, refl, ap, subst, sym, arith}
use Rattle.std.specs.List.{list_any}
use Rattle.pb_capitals.specs.Changes.{capital_under}
use Rattle.pb_capitals.specs.declared.change.Change.{Change}
use Rattle.pb_names.specs.View.{resource_view}
use Rattle.pb_names.specs.Program.{Resource as PlainResource}
use Rattle.pb_names.specs.declared.resolved.Resource.{Resource}
use Rattle.pb_plan_engine.specs.Changed.{changed_resource}

-- one is the first of those that are left
pub one_changed : {X : Type 0} (f : X → X) (xs : List X) (i : ℕ) (d : X) → i < length xs
    → set (map f (take i xs) ++ drop i xs) i (f (get_or (map f (take i xs) ++ drop i xs) i d)) ≡ map f (take (suc i) xs) ++ drop (suc i) xs
one_changed f [] i d lt = absurd (omega (arith, lt))
one_changed f (x ∷ xs) zero d lt = refl
one_changed f (x ∷ xs) (suc i) d lt = ap (λ ys. f x ∷ ys) (one_changed f xs i d (omega (arith, lt)))

-- a resource in memory with the capital that a change gives it
abbrev pub changed_in : {A : Type 0} → List Change → Resource A → Resource A
changed_in changes resource = record resource { capital = capital_under changes resource.name.items resource.capital }

-- what is seen of it
pub changed_seen : {A : Type 0} (changes : List Change) (resources : List (Resource A))
    → map resource_view (map (changed_in changes) resources) ≡ map (changed_resource changes) (map resource_view resources)
changed_seen changes [] = refl
changed_seen changes (r ∷ resources) = ap (λ (rs : List PlainResource). changed_resource changes (resource_view r) ∷ rs) (changed_seen changes resources)

pub any_seen : {A : Type 0} (p : PlainResource → Bool) (resources : List (Resource A))
    → list_any (λ (r : Resource A). p (resource_view r)) resources ≡ list_any p (map resource_view resources)
any_seen p [] = refl
any_seen p (r ∷ resources) = ap (λ (b : Bool). p (resource_view r) || b) (any_seen p resources)

-- one more resource is changed
pub more_changed : {A : Type 0} (changes : List Change) (first now : List (Resource A)) (i : ℕ) (resource : Resource A) (name : List ℕ) (capital : ℕ)
    → i < length first → now ≡ map (changed_in changes) (take i first) ++ drop i first
    → name ≡ (get_or now i resource).name.items → capital ≡ capital_under changes name (get_or now i resource).capital
    → set now i (record { name = (get_or now i resource).name; capital = capital })
    ≡ map (changed_in changes) (take (i + 1) first) ++ drop (i + 1) first
more_changed {A} changes first now i resource name capital lt is called made =
    let whole : record { name = (get_or now i resource).name; capital = capital } ≡ changed_in changes (get_or now i resource) =
    ap (λ (c : ℕ). record { name = (get_or now i resource).name; capital = c })
    (made ∙ ap (λ (n : List ℕ). capital_under changes n (get_or now i resource).capital) called) in
    let next : suc i ≡ i + 1 = omega arith in
    ap (set now i) whole
    ∙ subst (λ (xs : List (Resource A)). set xs i (changed_in changes (get_or xs i resource)) ≡ map (changed_in changes) (take (i + 1) first) ++ drop (i + 1) first)
    (sym is)
    (subst (λ (n : ℕ). set (map (changed_in changes) (take i first) ++ drop i first) i (changed_in changes (get_or (map (changed_in changes) (take i first) ++ drop i first) i resource))
    ≡ map (changed_in changes) (take n first) ++ drop n first) next (one_changed (changed_in changes) first i resource lt))

past_all : {X : Type 0} (f : X → X) (xs : List X) (i : ℕ) → length xs ≤ i → map f (take i xs) ++ drop i xs ≡ map f xs
past_all f [] zero le = refl
past_all f [] (suc i) le = refl
past_all f (x ∷ xs) zero le = absurd (omega (arith, le))
past_all f (x ∷ xs) (suc i) le = ap (λ ys. f x ∷ ys) (past_all f xs i (omega (arith, le)))

-- all resources are changed
pub all_changed : {A : Type 0} (changes : List Change) (first now : List (Resource A)) (i : ℕ) → length first ≤ i
    → now ≡ map (changed_in changes) (take i first) ++ drop i first
    → map resource_view now ≡ map (changed_resource changes) (map resource_view first)
all_changed changes first now i le is =
    ap (map resource_view) (is ∙ past_all (changed_in changes) first i le) ∙ changed_seen changes first
