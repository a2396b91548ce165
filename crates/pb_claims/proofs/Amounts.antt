-- How much of a resource is in a bundle.
use Rattle.std.proofs.Common.{◌≡◌, ◌≢◌, ℕ, zero, suc, ◌<◌, ◌≤◌, List, [], ◌∷◌, length, get_or, arith}
use Rattle.std.proofs.Common.{sym, refl, inl, inr}
use Rattle.std.specs.Prelude.{All}
use Rattle.std.specs.List.{AllZip}
use Rattle.std.proofs.lemmas.Bool.Decides.{eqb_tells}
use Rattle.std.proofs.lemmas.List.Elements.{All-head, All-tail}
use Rattle.pb_base.specs.declared.pair.Pair.{Pair}
use Rattle.pb_base.specs.Bundle.{IsDistinct, amount_in}
use Rattle.pb_base.proofs.LoanRows.{amount_of_pair, amount_in-cons, IsDistinct-tail}
use Rattle.pb_tree.specs.Syntax.{DemandSyntax}
use Rattle.pb_names.specs.Program.{Name}
use Rattle.pb_names.specs.Resolves.{ResolvesDemand, ResolvesDemands}

pub amount_of_pair-same : (r : ℕ) (pair : Pair) → pair.resource ≡ r → amount_of_pair r pair ≡ pair.amount
amount_of_pair-same r pair same =
    elim (eqb_tells pair.resource r) [ inl e ↦ rw e.0 refl | inr e ↦ absurd (e.1 same) ]

pub amount_of_pair-other : (r : ℕ) (pair : Pair) → pair.resource ≢ r → amount_of_pair r pair ≡ 0
amount_of_pair-other r pair other =
    elim (eqb_tells pair.resource r) [ inl e ↦ absurd (other e.1) | inr e ↦ rw e.0 refl ]

-- nothing of a resource that no pair names
amount_in-none : (pairs : List Pair) (r : ℕ) → All (λ pair. r ≢ pair.resource) pairs → amount_in pairs r ≡ 0
amount_in-none [] r h = refl
amount_in-none (pair ∷ pairs) r h =
    let cons = amount_in-cons pair pairs r in
    let rest = amount_in-none pairs r (All-tail (λ p. r ≢ p.resource) pair pairs h) in
    elim (eqb_tells pair.resource r) [
      | inl e ↦ absurd (All-head (λ p. r ≢ p.resource) pair pairs h (sym e.1))
      | inr e ↦ (let none : amount_of_pair r pair ≡ 0 = rw e.0 refl in omega arith)
    ]

first_distinct : (pair : Pair) (pairs : List Pair) → IsDistinct (pair ∷ pairs)
    → All (λ p. pair.resource ≢ p.resource) pairs
first_distinct pair pairs h = λ k d within. h zero (suc k) d (omega arith) (omega arith)

-- no more than the greatest amount, since no resource is there twice
amount_in-le : (pairs : List Pair) (most r : ℕ) → IsDistinct pairs → All (λ pair. pair.amount ≤ most) pairs
    → amount_in pairs r ≤ most
amount_in-le [] most r distinct small = omega arith
amount_in-le (pair ∷ pairs) most r distinct small =
    let cons = amount_in-cons pair pairs r in
    let here : pair.amount ≤ most = All-head (λ p. p.amount ≤ most) pair pairs small in
    elim (eqb_tells pair.resource r) [
      | inl e ↦
          (let one : amount_of_pair r pair ≡ pair.amount = rw e.0 refl in
          let rest = amount_in-none pairs r (rw (← e.1) (first_distinct pair pairs distinct)) in
          omega arith)
      | inr e ↦
          (let none : amount_of_pair r pair ≡ 0 = rw e.0 refl in
          let rest = amount_in-le pairs most r (IsDistinct-tail pair pairs distinct)
          (All-tail (λ p. p.amount ≤ most) pair pairs small) in
          omega arith)
    ]

all_small : (resources : List Name) (demands : List DemandSyntax) (pairs : List Pair)
    → AllZip (ResolvesDemand resources) demands pairs → (k : ℕ) (d : Pair) → k < length pairs
    → (get_or pairs k d).amount ≤ 1000000
all_small resources demands [] h k d within = absurd (omega arith)
all_small resources [] (pair ∷ pairs) h k d within = elim h [ ]
all_small resources (demand ∷ demands) (pair ∷ pairs) h zero d within = h.0.small
all_small resources (demand ∷ demands) (pair ∷ pairs) h (suc k) d within =
    all_small resources demands pairs h.1 k d (omega arith)

-- a hold of a resolved program asks for at most 1,000,000 of a resource
pub demand-le : (resources : List Name) (demands : List DemandSyntax) (pairs : List Pair) (r : ℕ)
    → ResolvesDemands resources demands pairs → amount_in pairs r ≤ 1000000
demand-le resources demands pairs r h =
    amount_in-le pairs 1000000 r h.distinct (all_small resources demands pairs h.each)
