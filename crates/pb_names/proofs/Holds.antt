-- The pairs of a hold get the numbers of their resources, one pair more at a time.
use Rattle.std.proofs.Common.{◌≡◌, ◌≢◌, ℕ, zero, suc, ◌+◌, ◌<◌, List, [], ◌∷◌, ◌++◌, map, length, take, get_or}
use Rattle.std.proofs.Common.{Some, arith, ap, sym, ◌∙◌, refl, true, subst}
use Rattle.std.specs.Prelude.{slice_get, All, AllPairs}
use Rattle.std.specs.List.{AllZip, list_any}
use Rattle.std.proofs.Math.Dec.{eqb}
use Rattle.std.proofs.lemmas.Bool.{eqb-true}
use Rattle.std.proofs.lemmas.Bool.Decides.{Decides-eqb}
use Rattle.std.proofs.lemmas.List.{get_or-map, length-map}
use Rattle.std.proofs.lemmas.List.Folds.{Any-from_list_any}
use Rattle.std.proofs.lemmas.List.Kept.{AllPairs-cons}
use Rattle.std.proofs.lemmas.List.Quantifiers.{all_pairs_push}
use Rattle.std.proofs.lemmas.Map.Made.{IsDistinct-from_AllPairs}
use Rattle.std.proofs.lemmas.Map.Steps.{length-le_from_distinct_below}
use Rattle.std.proofs.lemmas.Option.{slice_get_within, slice_get-get_or}
use Rattle.pb_base.specs.Bundle.{IsDistinct}
use Rattle.pb_base.specs.Steppers.{Bundle}
use Rattle.pb_base.specs.declared.pair.Pair.{Pair}
use Rattle.pb_tree.specs.Syntax.{DemandSyntax}
use Rattle.pb_names.specs.Causes.{InDemand, IsUnknown, IsAgain, IsOutside, Among}
use Rattle.pb_names.specs.Program.{Name}
use Rattle.pb_names.specs.Resolves.{texts, IsNumber, ResolvesDemand}
use Rattle.pb_names.specs.Search.{IsFree}
use Rattle.pb_names.specs.declared.causes.Wrong.TheVariants.{Repeated}
use Rattle.pb_names.proofs.FirstCauses.{free_left, free_right, free_at}
use Rattle.pb_names.proofs.NameNumbers.{name_read}
use Rattle.pb_base.proofs.Lists.{some_same, take_next}

-- ---- nothing is wrong with a pair

pub amount_free : (names : List Name) (ds : List DemandSyntax) (i : ℕ) (d : DemandSyntax)
    → slice_get ds i ≡ Some d → IsFree (Among (InDemand names) ds) → IsFree (IsOutside 1 d.amount)
amount_free names ds i d here free = free_left (free_at (InDemand names) ds i d here free)

pub resource_free : (names : List Name) (ds : List DemandSyntax) (i : ℕ) (d : DemandSyntax)
    → slice_get ds i ≡ Some d → IsFree (Among (InDemand names) ds) → IsFree (IsUnknown names d.resource)
resource_free names ds i d here free = free_left (free_right (free_at (InDemand names) ds i d here free))

again_free : (names : List Name) (ds : List DemandSyntax) (i : ℕ) (d : DemandSyntax)
    → slice_get ds i ≡ Some d → IsFree (Among (InDemand names) ds)
    → IsFree (IsAgain Repeated (texts (map (λ d. d.resource) (take i ds))) d.resource)
again_free names ds i d here free = free_right (free_right (free_at (InDemand names) ds i d here free))

-- ---- numbered pairs

-- what a pair was numbered from
pub zip_at : {A B : Type 0} (R : A → B → Type 0) (xs : List A) (ys : List B) (k : ℕ) (y : B) → AllZip R xs ys
    → slice_get ys k ≡ Some y → (x : A) × (slice_get xs k ≡ Some x) × R x y
zip_at R [] [] k y zip here = absurd (omega (arith, slice_get_within [] k y here))
zip_at R [] (b ∷ ys) k y zip here = absurd zip
zip_at R (a ∷ xs) [] k y zip here = absurd zip
zip_at R (a ∷ xs) (b ∷ ys) zero y zip here = let e : b ≡ y = some_same here in (a, refl, subst (R a) e zip.0)
zip_at R (a ∷ xs) (b ∷ ys) (suc k) y zip here = zip_at R xs ys k y zip.1 here

-- the number of one more pair is new
pub number_new : (names : List Name) (ds : List DemandSyntax) (pairs : Bundle) (i : ℕ) (d : DemandSyntax) (r : ℕ)
    → slice_get ds i ≡ Some d → IsFree (Among (InDemand names) ds)
    → AllZip (ResolvesDemand names) (take i ds) pairs → IsNumber names d.resource r
    → All (λ p. p.resource ≢ r) pairs
number_new names ds pairs i d r here free zip number k e below same =
    (again_free names ds i d here free).free _
    (record { first = k; again = name_read (λ d. d.resource) (take i ds) k from.0 from.1 ∙ ap Some text; is = refl })
  where
    from : (x : DemandSyntax) × (slice_get (take i ds) k ≡ Some x) × ResolvesDemand names x (get_or pairs k e)
    from = zip_at (ResolvesDemand names) (take i ds) pairs k (get_or pairs k e) zip (slice_get-get_or pairs k e below)

    text : from.0.resource.text ≡ d.resource.text
    text = some_same (sym from.2.resource ∙ ap (slice_get names) same ∙ number)

-- each number is that of a name
pub numbers_below : (names : List Name) (ds : List DemandSyntax) (pairs : Bundle) → AllZip (ResolvesDemand names) ds pairs
    → All (λ p. p.resource < length names) pairs
numbers_below names ds pairs zip k e below =
    let from : (x : DemandSyntax) × (slice_get ds k ≡ Some x) × ResolvesDemand names x (get_or pairs k e) =
    zip_at (ResolvesDemand names) ds pairs k (get_or pairs k e) zip (slice_get-get_or pairs k e below) in
    slice_get_within names _ from.0.resource.text from.2.resource

-- ---- there are no more pairs than names

abbrev numbers : ℕ → Bundle → List ℕ
numbers r pairs = r ∷ map (λ p. p.resource) pairs

no_pair : Pair
no_pair = record { resource = 0; amount = 0 }

all_below : (n r : ℕ) (pairs : Bundle) → r < n → All (λ p. p.resource < n) pairs → All (λ x. x < n) (numbers r pairs)
all_below n r pairs first rest zero e below = first
all_below n r pairs first rest (suc k) e below =
    let within : k < length pairs = omega (arith, length-map pairs (λ p. p.resource)) in
    omega (arith, get_or-map (λ p. p.resource) pairs k no_pair e within, rest k no_pair within)

all_other : (r : ℕ) (pairs : Bundle) → All (λ p. p.resource ≢ r) pairs → All (λ x. r ≢ x) (map (λ p. p.resource) pairs)
all_other r pairs other k e below same =
    let within : k < length pairs = omega (arith, length-map pairs (λ p. p.resource)) in
    other k no_pair within (sym (get_or-map (λ p. p.resource) pairs k no_pair e within) ∙ sym same)

all_distinct : (pairs : Bundle) → IsDistinct pairs → AllPairs (λ x y. x ≢ y) (map (λ p. p.resource) pairs)
all_distinct pairs distinct i j e less below same =
    let within : j < length pairs = omega (arith, length-map pairs (λ p. p.resource)) in
    distinct i j no_pair less within
    (sym (get_or-map (λ p. p.resource) pairs i no_pair e (omega arith)) ∙ same
    ∙ get_or-map (λ p. p.resource) pairs j no_pair e within)

below_from_any : (n r q : ℕ) (pairs : Bundle) → r < n → All (λ p. p.resource < n) pairs
    → list_any (eqb q) (numbers r pairs) ≡ true → q < n
below_from_any n r q pairs first rest some =
    let any = Any-from_list_any (eqb q) (numbers r pairs) some in
    let e : q ≡ any.1 = eqb-true q any.1 any.4 in
    let below = all_below n r pairs first rest any.0 any.1 any.2 in
    let same = any.3 in
    omega arith

pub room_for_one : (names : List Name) (ds : List DemandSyntax) (pairs : Bundle) (d : DemandSyntax) (r : ℕ)
    → AllZip (ResolvesDemand names) ds pairs → IsDistinct pairs → All (λ p. p.resource ≢ r) pairs
    → IsNumber names d.resource r → length pairs < length names
room_for_one names ds pairs d r zip distinct other number =
    let first = slice_get_within names r d.resource.text number in
    let rest = numbers_below names ds pairs zip in
    let differ =
    IsDistinct-from_AllPairs {eq = eqb} Decides-eqb (numbers r pairs)
    (AllPairs-cons (λ x y. x ≢ y) r (map (λ p. p.resource) pairs) (all_other r pairs other) (all_distinct pairs distinct)) in
    let most =
    length-le_from_distinct_below (numbers r pairs) (length names) differ
    (λ q. below_from_any (length names) r q pairs first rest) in
    omega (arith, most, length-map pairs (λ p. p.resource))

-- ---- one more pair

zip_push : {A B : Type 0} (R : A → B → Type 0) (xs : List A) (ys : List B) (x : A) (y : B)
    → AllZip R xs ys → R x y → AllZip R (xs ++ x ∷ []) (ys ++ y ∷ [])
zip_push R [] [] x y zip next = (next, tt)
zip_push R [] (b ∷ ys) x y zip next = absurd zip
zip_push R (a ∷ xs) [] x y zip next = absurd zip
zip_push R (a ∷ xs) (b ∷ ys) x y zip next = (zip.0, zip_push R xs ys x y zip.1 next)

pub zip_more : {A B : Type 0} (R : A → B → Type 0) (xs : List A) (ys ys' : List B) (i : ℕ) (x : A) (y : B)
    → slice_get xs i ≡ Some x → ys' ≡ ys ++ y ∷ [] → AllZip R (take i xs) ys → R x y
    → AllZip R (take (i + 1) xs) ys'
zip_more R xs ys ys' i x y here pushed zip next = rw (pushed, take_next xs i x here) (zip_push R (take i xs) ys x y zip next)

pub distinct_more : (pairs pairs' : Bundle) (p : Pair) → pairs' ≡ pairs ++ p ∷ [] → IsDistinct pairs
    → All (λ q. q.resource ≢ p.resource) pairs → IsDistinct pairs'
distinct_more pairs pairs' p pushed distinct other =
    rw pushed (all_pairs_push (λ a b. a.resource ≢ b.resource) pairs p distinct other)
