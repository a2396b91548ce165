-- What is told of pairs, one more at a time.
use Rattle.std.proofs.Common.{◌≡◌, ◌+◌, ◌<◌, ◌≤◌, ◌++◌, ℕ, List, [], ◌∷◌, length, take, drop, get_or, map, refl, sym, ap, ◌∙◌, subst, arith}
use Rattle.std.specs.List.{flat_map, zip}
use Rattle.std.proofs.lemmas.List.{flat_map_more, get_or-map, take_all, take_more, take-append-drop, length-map}
use Rattle.std.proofs.lemmas.List.Concat.{flat_map-append}
use Rattle.std.proofs.lemmas.Slice.Zip.{get_or-zip, length-zip}
use Rattle.pb_base.specs.Banker.{row_of}
use Rattle.pb_base.specs.Steppers.{Table}
use Rattle.pb_names.specs.Meaning.{AreClaims}
use Rattle.pb_names.specs.Program.{Name}
use Rattle.pb_names.specs.Resolves.{process_names, resource_names}
use Rattle.pb_names.specs.View.{process_view, resolved_view, resource_view}
use Rattle.pb_names.specs.declared.resolved.Process.{Process}
use Rattle.pb_names.specs.declared.resolved.Resource.{Resource}
use Rattle.pb_names.specs.declared.resolved.Resolved.{Resolved}
use Rattle.pb_voice.specs.Tellings.{Telling, Breaking}
use Rattle.pb_voice.proofs.TellingLemmas.{telling_more, breaking_later, breaking_sooner}

module _ {T S A B : Type 0} (tells breaks : T → S → T → Type 0) (f : A × B → List S) (xs : List A) (ys : List B) (i : ℕ) (x : A) (y : B)
    (in_xs : i < length xs) (in_ys : i < length ys) (x_is : get_or xs i x ≡ x) (y_is : get_or ys i y ≡ y) where
  within : i < length (zip xs ys)
  within = let n = length-zip xs ys in omega (arith, n, in_xs, in_ys)

  at : get_or (zip xs ys) i (x, y) ≡ (x, y)
  at = let z = get_or-zip xs ys i (x, y) in_xs in_ys in cc

  next : flat_map f (take i (zip xs ys)) ++ f (x, y) ≡ flat_map f (take (i + 1) (zip xs ys))
  next =
      flat_map_more f [] (take i (zip xs ys)) (x, y)
      ∙ ap (flat_map f) (sym (take_more (zip xs ys) i (x, y) within ∙ ap (λ p. take i (zip xs ys) ++ p ∷ []) at))

  -- those of one pair more are told
  pub pair_told : (s m u : T) → Telling tells s (flat_map f (take i (zip xs ys))) m → Telling tells m (f (x, y)) u
      → Telling tells s (flat_map f (take (i + 1) (zip xs ys))) u
  pair_told s m u first later =
      subst (λ (l : List S). Telling tells s l u) next
      (telling_more tells s m u (flat_map f (take i (zip xs ys))) (f (x, y)) first later)

  -- a write failed in those of a pair
  pub pair_broken : (s m u : T) → Telling tells s (flat_map f (take i (zip xs ys))) m → Breaking tells breaks m (f (x, y)) u
      → Breaking tells breaks s (flat_map f (zip xs ys)) u
  pair_broken s m u first later =
      let zs = zip xs ys in
      let far = breaking_later tells breaks s m u (flat_map f (take i zs)) (f (x, y)) first later in
      let so : Breaking tells breaks s (flat_map f (take (i + 1) zs)) u = subst (λ (l : List S). Breaking tells breaks s l u) next far in
      subst (λ (l : List S). Breaking tells breaks s l u)
      (sym (flat_map-append f (take (i + 1) zs) (drop (i + 1) zs)) ∙ ap (flat_map f) (take-append-drop (i + 1) zs))
      (breaking_sooner tells breaks s u (flat_map f (take (i + 1) zs)) (flat_map f (drop (i + 1) zs)) so)

-- all are told
pub pairs_told : {T S A B : Type 0} (tells : T → S → T → Type 0) (f : A × B → List S) (xs : List A) (ys : List B) (i : ℕ) (s m : T)
    → length ys ≤ i → Telling tells s (flat_map f (take i (zip xs ys))) m → Telling tells s (flat_map f (zip xs ys)) m
pairs_told {T} {S} tells f xs ys i s m end told =
    let all : length (zip xs ys) ≤ i = (let n = length-zip xs ys in omega (arith, n, end)) in
    subst (λ (l : List S). Telling tells s l m) (ap (flat_map f) (take_all i (zip xs ys) all)) told

-- what is seen of an element that was read
pub view_at : {A B : Type 0} (f : A → B) (xs : List A) (i : ℕ) (x : A) → i < length xs → x ≡ get_or xs i x
    → get_or (map f xs) i (f x) ≡ f x
view_at f xs i x within at = get_or-map f xs i x (f x) within ∙ ap f (sym at)

-- the names of a program in memory are those of the program
pub names_of_resources : {A : Type 0} (program : Resolved A)
    → map (λ (r : Resource A). r.name.items) program.resources.items ≡ resource_names (resolved_view program)
names_of_resources {A} program = go program.resources.items
  where
    go : (rs : List (Resource A))
        → map (λ (r : Resource A). r.name.items) rs ≡ map (λ r. r.name) (map resource_view rs)
    go [] = refl
    go (r ∷ rs) = ap (λ (names : List Name). r.name.items ∷ names) (go rs)

pub names_of_processes : {A : Type 0} (program : Resolved A)
    → map (λ (p : Process A). p.name.items) program.processes.items ≡ process_names (resolved_view program)
names_of_processes {A} program = go program.processes.items
  where
    go : (ps : List (Process A))
        → map (λ (p : Process A). p.name.items) ps ≡ map (λ p. p.name) (map process_view ps)
    go [] = refl
    go (p ∷ ps) = ap (λ (names : List Name). p.name.items ∷ names) (go ps)

-- the claims of a program have a row for each process, in it an amount for each resource
pub as_many : {A : Type 0} (program : Resolved A) (claims : Table) → AreClaims (resolved_view program) claims
    → (length claims ≡ length program.processes.items)
    × ((q : ℕ) → q < length claims → length (row_of claims q) ≡ length program.resources.items)
as_many program claims are = (
  are.height ∙ length-map program.processes.items process_view,
  λ q within. are.width q within ∙ length-map program.resources.items resource_view,
)
