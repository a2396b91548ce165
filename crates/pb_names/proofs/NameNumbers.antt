-- Names, their numbers, and names that have none.
use Rattle.std.proofs.Common.{◌≡◌, ◌≢◌, ℕ, zero, suc, ◌+◌, ◌<◌, List, [], ◌∷◌, ◌++◌, map, take, length, get_or}
use Rattle.std.proofs.Common.{Option, Some, None, true, false, inl, inr, arith, ap, sym, ◌∙◌, refl, option_map}
use Rattle.std.proofs.Math.Dec.{eqb}
use Rattle.std.specs.Option.{option_eq}
use Rattle.std.specs.Prelude.{slice_get}
use Rattle.std.proofs.lemmas.Bool.{cases_lt, eqb-true}
use Rattle.std.proofs.lemmas.Bool.Decides.{eqb_tells}
use Rattle.std.proofs.lemmas.List.{take-map, map_more, map-append}
use Rattle.std.proofs.lemmas.Simd.{map-map}
use Rattle.std.proofs.lemmas.Option.{slice_get_within, slice_get-map}
use Rattle.pb_tree.specs.Syntax.{NameSyntax}
use Rattle.pb_tree.specs.View.{demand_view}
use Rattle.pb_tree.specs.declared.stmt.Demand.{Demand}
use Rattle.pb_names.specs.Causes.{IsAgain}
use Rattle.pb_names.specs.Index.{IsFirstNumber}
use Rattle.pb_names.specs.Program.{Name}
use Rattle.pb_names.specs.Resolves.{texts}
use Rattle.pb_names.specs.Search.{IsFirst}
use Rattle.pb_names.specs.declared.causes.Wrong.{Wrong}
use Rattle.pb_names.proofs.FirstCauses.{first_none, first_one}

-- ---- the first elements of a list

pub take_read : {X : Type 0} (xs : List X) (i k : ℕ) (x : X) → slice_get (take i xs) k ≡ Some x
    → (k < i) × (slice_get xs k ≡ Some x)
take_read xs zero k x here = absurd (omega (arith, slice_get_within (take zero xs) k x here))
take_read [] (suc i) k x here = absurd (omega (arith, slice_get_within [] k x here))
take_read (y ∷ xs) (suc i) zero x here = (omega arith, here)
take_read (y ∷ xs) (suc i) (suc k) x here = let h = take_read xs i k x here in (omega (arith, h.0), h.1)

pub read_take : {X : Type 0} (xs : List X) (i k : ℕ) (x : X) → k < i → slice_get xs k ≡ Some x
    → slice_get (take i xs) k ≡ Some x
read_take xs zero k x below here = absurd (omega arith)
read_take [] (suc i) k x below here = absurd (omega (arith, slice_get_within [] k x here))
read_take (y ∷ xs) (suc i) zero x below here = here
read_take (y ∷ xs) (suc i) (suc k) x below here = read_take xs i k x (omega arith) here

-- ---- the texts of names

pub text_read : (names : List NameSyntax) (i : ℕ) (x : NameSyntax) → slice_get names i ≡ Some x
    → slice_get (texts names) i ≡ Some x.text
text_read names i x here =
    slice_get-map (λ name. name.text) names i ∙ ap (option_map (λ name. name.text)) here

pub taken_texts : (names : List NameSyntax) (i : ℕ) → take i (texts names) ≡ texts (take i names)
taken_texts names i = take-map (λ name. name.text) i names

-- the names of declarations
pub name_read : {T : Type 0} (name : T → NameSyntax) (xs : List T) (i : ℕ) (x : T) → slice_get xs i ≡ Some x
    → slice_get (texts (map name xs)) i ≡ Some (name x).text
name_read name xs i x here =
    text_read (map name xs) i (name x) (slice_get-map name xs i ∙ ap (option_map name) here)

pub taken_names : {T : Type 0} (name : T → NameSyntax) (xs : List T) (i : ℕ)
    → take i (texts (map name xs)) ≡ texts (map name (take i xs))
taken_names name xs i = taken_texts (map name xs) i ∙ ap texts (take-map name i xs)

-- the texts of what declares names
pub declared_texts : {S T : Type 0} (name : T → NameSyntax) (view : S → T) (xs : List S)
    → texts (map name (map view xs)) ≡ map (λ x. (name (view x)).text) xs
declared_texts name view xs =
    map-map (λ name. name.text) name (map view xs) ∙ map-map (λ t. (name t).text) view xs

-- one more text, as a loop adds it to a list
pub texts_more : {S X : Type 0} (of : X → Name) (text : S → Name) (made after : List X) (x : X) (xs : List S) (i : ℕ) (s : S)
    → after ≡ made ++ x ∷ [] → of x ≡ text s → i < length xs → s ≡ get_or xs i s
    → map of made ≡ map text (take i xs) → map of after ≡ map text (take (i + 1) xs)
texts_more of text made after x xs i s pushed same below here before =
    ap (map of) pushed
    ∙ map-append of made (x ∷ [])
    ∙ ap (λ l. l ++ of x ∷ []) before
    ∙ ap (λ y. map text (take i xs) ++ y ∷ []) (same ∙ ap text here)
    ∙ sym (map_more text xs i s below)

-- ---- names that are not declared, and names that are declared before

-- a name that is among the first n, with this number
pub again_here : (wrong : Wrong) (names : List Name) (n k : ℕ) (x : NameSyntax) → k < n
    → slice_get names k ≡ Some x.text
    → IsFirst (IsAgain wrong (take n names) x) (Some (record { at = x.at; wrong = wrong }))
again_here wrong names n k x below here =
    first_one _ _ (record { first = k; again = read_take names n k x.text below here; is = refl })
    (λ c h. let e = ap (λ d. d.at) h.is in omega arith)

-- a name that is not among the first n
pub again_nowhere : (wrong : Wrong) (names : List Name) (n : ℕ) (x : NameSyntax)
    → ((k : ℕ) → k < n → slice_get names k ≢ Some x.text) → IsFirst (IsAgain wrong (take n names) x) None
again_nowhere wrong names n x other =
    first_none _ (λ c h. let r = take_read names n h.first x.text h.again in other h.first r.0 r.1)

-- a name whose first number is its own
pub first_own : (wrong : Wrong) (names : List Name) (i : ℕ) (x : NameSyntax) (first : Option ℕ)
    → option_eq eqb first (Some i) ≡ true → IsFirstNumber names x.text first
    → IsFirst (IsAgain wrong (take i names) x) None
first_own wrong names i x None own is = absurd (cc)
first_own wrong names i x (Some k) own is =
    rw (sym (eqb-true k i own)) (again_nowhere wrong names k x is.1)

-- a name whose first number is another
pub first_other : (wrong : Wrong) (names : List Name) (i : ℕ) (x : NameSyntax) (first : Option ℕ)
    → slice_get names i ≡ Some x.text → option_eq eqb first (Some i) ≡ false → IsFirstNumber names x.text first
    → IsFirst (IsAgain wrong (take i names) x) (Some (record { at = x.at; wrong = wrong }))
first_other wrong names i x None here other is = absurd (is i here)
first_other wrong names i x (Some k) here other is = elim (cases_lt k i) [
  | inl below ↦ again_here wrong names i k x below is.0
  | inr above ↦ elim (eqb_tells k i) [
    | inl same ↦ (let e : true ≡ false = sym same.0 ∙ other in absurd (cc))
    | inr differs ↦ (let n = differs.1 in absurd (is.1 i (omega arith) here))
  ]
]

-- the names in the first pairs of a hold
pub demand_texts : {A : Type 0} (ds : List (Demand A)) (n : ℕ)
    → texts (map (λ d. d.resource) (take n (map demand_view ds)))
    ≡ take n (map (λ d. d.resource.text.items) ds)
demand_texts [] zero = refl
demand_texts [] (suc n) = refl
demand_texts (d ∷ ds) zero = refl
demand_texts (d ∷ ds) (suc n) = ap (λ rest. d.resource.text.items ∷ rest) (demand_texts ds n)
