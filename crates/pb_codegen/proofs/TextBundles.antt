-- A hold of a resolved program has 1 to 16 pairs.
use Rattle.std.proofs.Common.{◌≡◌, ◌≢◌, ℕ, ◌<◌, ◌≤◌, Bool, true, false, ◌||◌, eqb, eqb-true, List, [], ◌∷◌}
use Rattle.std.proofs.Common.{length, map, refl, sym, ◌∙◌, arith}
use Rattle.std.specs.Prelude.{All}
use Rattle.std.specs.List.{AllZip, AllPairs, list_any}
use Rattle.std.proofs.lemmas.Bool.Decides.{Decides-eqb}
use Rattle.std.proofs.lemmas.List.{get_or-map, length-map}
use Rattle.std.proofs.lemmas.List.Elements.{All-nil, All-cons, All-head, All-tail}
use Rattle.std.proofs.lemmas.Map.Made.{IsDistinct-from_AllPairs}
use Rattle.std.proofs.lemmas.Map.Steps.{length-le_from_distinct_below}
use Rattle.std.proofs.lemmas.Option.{slice_get_within}
use Rattle.pb_base.specs.declared.pair.Pair.{Pair}
use Rattle.pb_base.specs.Bundle.{IsDistinct}
use Rattle.pb_base.specs.Steppers.{Bundle}
use Rattle.pb_tree.specs.Syntax.{DemandSyntax}
use Rattle.pb_names.specs.Program.{Name}
use Rattle.pb_names.specs.Resolves.{ResolvesDemand, ResolvesDemands}
use Rattle.pb_verifier.specs.Limits.{IsUpTo, IsSmallBundle}
use Rattle.pb_names.proofs.Holds.{numbers_below}

abbrev numbers : Bundle → List ℕ
numbers bundle = map (λ pair. pair.resource) bundle

-- a resource that a pair names is one of the first n, if all are
below_named : (n q : ℕ) (bundle : Bundle) → All (λ pair. pair.resource < n) bundle
    → list_any (eqb q) (numbers bundle) ≡ true → q < n
below_named n q [] all h = cc
below_named n q (pair ∷ bundle) all h =
    go (eqb q pair.resource) refl h (below_named n q bundle (All-tail (λ p. p.resource < n) pair bundle all))
  where
    go : (b : Bool) → eqb q pair.resource ≡ b → b || list_any (eqb q) (numbers bundle) ≡ true
        → (list_any (eqb q) (numbers bundle) ≡ true → q < n) → q < n
    go true e h' rest =
        let same = eqb-true q pair.resource e in
        let here : pair.resource < n = All-head (λ p. p.resource < n) pair bundle all in
        omega (arith, same, here)
    go false e h' rest = rest h'

distinct_numbers : (bundle : Bundle) → IsDistinct bundle → AllPairs (λ a b. a ≢ b) (numbers bundle)
distinct_numbers bundle h i j d less within =
    let none : Pair = record { resource = 0; amount = 0 } in
    let len = length-map bundle (λ (pair : Pair). pair.resource) in
    let a = get_or-map (λ (pair : Pair). pair.resource) bundle i none d (omega (arith, less, within, len)) in
    let b = get_or-map (λ (pair : Pair). pair.resource) bundle j none d (omega (arith, within, len)) in
    λ same. h i j none less (omega (arith, within, len)) (sym a ∙ (same ∙ b))

-- no resource twice, of n resources
few_pairs : (n : ℕ) (bundle : Bundle) → IsDistinct bundle → All (λ pair. pair.resource < n) bundle
    → length bundle ≤ n
few_pairs n bundle distinct below =
    let len = length-map bundle (λ (pair : Pair). pair.resource) in
    let few =
    length-le_from_distinct_below (numbers bundle) n
    (IsDistinct-from_AllPairs {eq = eqb} Decides-eqb (numbers bundle) (distinct_numbers bundle distinct))
    (λ q h. below_named n q bundle below h)
    in
    omega (arith, len, few)

small_amounts : (resources : List Name) (demands : List DemandSyntax) (bundle : Bundle)
    → length resources ≤ 16
    → AllZip (ResolvesDemand resources) demands bundle
    → All (λ pair. (pair.resource < 16) × IsUpTo 1000000 pair.amount) bundle
small_amounts resources [] [] few h =
    All-nil (λ (pair : Pair). (pair.resource < 16) × IsUpTo 1000000 pair.amount)
small_amounts resources [] (pair ∷ bundle) few h = elim h [ ]
small_amounts resources (demand ∷ demands) [] few h = elim h [ ]
small_amounts resources (demand ∷ demands) (pair ∷ bundle) few h =
    let u = slice_get_within resources pair.resource demand.resource.text h.0.resource in
    All-cons (λ (pair : Pair). (pair.resource < 16) × IsUpTo 1000000 pair.amount) pair bundle
    (omega (arith, u, few), (h.0.some, h.0.small)) (small_amounts resources demands bundle few h.1)

-- the pairs of a hold
pub small_bundle : (resources : List Name) (demands : List DemandSyntax) (bundle : Bundle)
    → length resources ≤ 16 → ResolvesDemands resources demands bundle
    → IsSmallBundle bundle × All (λ pair. pair.resource < length resources) bundle
small_bundle resources demands bundle few h =
    let there = numbers_below resources demands bundle h.each in
    let most = few_pairs (length resources) bundle h.distinct there in (
      record {
        size = (h.some, omega (arith, most, few));
        amounts = small_amounts resources demands bundle few h.each;
        distinct = h.distinct;
      },
      there,
    )
