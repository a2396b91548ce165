-- The greatest of a column of claims, its sum, and the resource of which most is lacking.
use Rattle.std.proofs.Common.{◌≡◌, ◌⊎◌, inl, inr, ℕ, zero, suc, ◌+◌, ◌<◌, ◌≤◌, max, List, [], ◌∷◌, length}
use Rattle.std.proofs.Common.{take, get_or, arith, ap, refl, subst, add-one, Option, Some, None}
use Rattle.std.specs.Prelude.{MatchOption, sum_by}
use Rattle.std.specs.List.{range_with_len}
use Rattle.std.proofs.lemmas.Bool.{cases_eq, cases_lt}
use Rattle.std.proofs.lemmas.List.Sums.{sum_by-cons}
use Rattle.pb_base.specs.Banker.{cell}
use Rattle.pb_base.specs.Steppers.{Table}
use Rattle.pb_plan.specs.Needs.{AllFree, IsBottleneck, LeastCapitalDecides, lack, least_capital}

-- ---- the greatest

least_suc : (claims : Table) (i r : ℕ) → i < length claims
    → least_capital (take (suc i) claims) r ≡ max (least_capital (take i claims) r) (cell claims i r)
least_suc [] i r h = absurd (omega arith)
least_suc (row ∷ claims) zero r h = omega arith
least_suc (row ∷ claims) (suc i) r h =
    let rest = least_suc claims i r (omega arith) in omega (arith, rest)

pub least_more : (claims : Table) (i r : ℕ) → i < length claims
    → least_capital (take (i + 1) claims) r ≡ max (least_capital (take i claims) r) (cell claims i r)
least_more claims i r h = rw add-one (least_suc claims i r h)

cell_le : (claims : Table) (p r : ℕ) → p < length claims → cell claims p r ≤ least_capital claims r
cell_le [] p r h = absurd (omega arith)
cell_le (row ∷ claims) zero r h = omega arith
cell_le (row ∷ claims) (suc p) r h = let rest = cell_le claims p r (omega arith) in omega (arith, rest)

least_le : (claims : Table) (r bound : ℕ) → ((p : ℕ) → p < length claims → cell claims p r ≤ bound)
    → least_capital claims r ≤ bound
least_le [] r bound h = omega arith
least_le (row ∷ claims) r bound h =
    let here : get_or row r 0 ≤ bound = h 0 (omega arith) in
    let rest = least_le claims r bound (λ p within. h (suc p) (omega arith)) in
    omega (arith, here, rest)

pub least_decides : LeastCapitalDecides
least_decides claims capital = (
  λ fit r within. least_le claims r (get_or capital r 0) (λ p lp. fit p lp r within),
  λ enough p lp r within. (let a = cell_le claims p r lp in let b = enough r within in omega (arith, a, b)),
)

-- ---- the sum

sum_suc : (f : ℕ → ℕ) (a n : ℕ) → sum_by f (range_with_len a (suc n)) ≡ sum_by f (range_with_len a n) + f (a + n)
sum_suc f a zero =
    let one : sum_by f (range_with_len a 1) ≡ f a + sum_by f [] = sum_by-cons f a [] in
    let here : f (a + 0) ≡ f a = ap f (omega arith) in
    omega (arith, one, here)
sum_suc f a (suc n) =
    let big : sum_by f (range_with_len a (suc (suc n))) ≡ f a + sum_by f (range_with_len (a + 1) (suc n)) =
    sum_by-cons f a (range_with_len (a + 1) (suc n)) in
    let small : sum_by f (range_with_len a (suc n)) ≡ f a + sum_by f (range_with_len (a + 1) n) =
    sum_by-cons f a (range_with_len (a + 1) n) in
    let rest : sum_by f (range_with_len (a + 1) (suc n)) ≡ sum_by f (range_with_len (a + 1) n) + f (a + 1 + n) =
    sum_suc f (a + 1) n in
    let here : f (a + 1 + n) ≡ f (a + suc n) = ap f (omega arith) in
    omega (arith, big, small, rest, here)

-- the sum over one process more
pub sum_more : (f : ℕ → ℕ) (n : ℕ) → sum_by f (range_with_len 0 (n + 1)) ≡ sum_by f (range_with_len 0 n) + f n
sum_more f n =
    let more = sum_suc f 0 n in
    let here : f (0 + n) ≡ f n = ap f (omega arith) in
    rw add-one (omega (arith, more, here))

-- ---- the bottleneck

-- b is the first of the first n resources of which most is lacking, and that is this much
pub record IsFoundAt (claims : Table) (capital : List ℕ) (n most b : ℕ) : Type 0 where
  pub below : b < n
  pub here : most ≡ lack claims capital b
  pub some : 0 < most
  pub greatest : (k : ℕ) → k < n → lack claims capital k ≤ most
  pub first : (k : ℕ) → k < b → lack claims capital k < most

-- what is found among the first n resources
abbrev pub IsFound : Table → List ℕ → ℕ → ℕ → Option ℕ → Type 0
IsFound claims capital n most None = (most ≡ 0) × ((k : ℕ) → k < n → lack claims capital k ≡ 0)
IsFound claims capital n most (Some b) = IsFoundAt claims capital n most b

pub at_most : (claims : Table) (capital : List ℕ) (n most : ℕ) (found : Option ℕ) → IsFound claims capital n most found
    → (k : ℕ) → k < n → lack claims capital k ≤ most
at_most claims capital n most None h k within = (let z = h.1 k within in omega (arith, z))
at_most claims capital n most (Some b) h k within = h.greatest k within

pub found_here : (claims : Table) (capital : List ℕ) (n most : ℕ) (found : Option ℕ) → IsFound claims capital n most found
    → most < lack claims capital n → IsFound claims capital (n + 1) (lack claims capital n) (Some n)
found_here claims capital n most found h more = record {
  below = omega arith;
  here = refl;
  some = omega (arith, more);
  greatest = λ k within.
      elim (cases_eq k n) [
        | inl e ↦ (let same = ap (lack claims capital) e in omega (arith, same))
        | inr ne ↦ (let low = at_most claims capital n most found h k (omega (arith, ne, within)) in omega (arith, low, more))
      ];
  first = λ k within. (let low = at_most claims capital n most found h k within in omega (arith, low, more));
}

pub found_before : (claims : Table) (capital : List ℕ) (n most : ℕ) (found : Option ℕ) → IsFound claims capital n most found
    → lack claims capital n ≤ most → IsFound claims capital (n + 1) most found
found_before claims capital n most None h less = (
  h.0,
  λ k within.
      elim (cases_eq k n) [
        | inl e ↦ (let same = ap (lack claims capital) e in let none = h.0 in omega (arith, same, less, none))
        | inr ne ↦ h.1 k (omega (arith, ne, within))
      ],
)
found_before claims capital n most (Some b) h less = record {
  below = (let x = h.below in omega (arith, x));
  here = h.here;
  some = h.some;
  greatest = λ k within.
      elim (cases_eq k n) [
        | inl e ↦ (let same = ap (lack claims capital) e in omega (arith, same, less))
        | inr ne ↦ h.greatest k (omega (arith, ne, within))
      ];
  first = h.first;
}

pub found_all : (claims : Table) (capital : List ℕ) (n most : ℕ) (found : Option ℕ) → IsFound claims capital n most found
    → length capital ≤ n → n ≤ length capital
    → MatchOption found (AllFree claims capital) (IsBottleneck claims capital)
found_all claims capital n most None h end all = λ r within. (let z = h.1 r (omega (arith, within, end)) in omega (arith, z))
found_all claims capital n most (Some b) h end all = record {
  resource = (let x = h.below in omega (arith, x, all));
  lacking = (let x = h.here in let y = h.some in omega (arith, x, y));
  most = λ other within. (let x = h.greatest other (omega (arith, within, end)) in let y = h.here in omega (arith, x, y));
  first = λ earlier within. (let x = h.first earlier within in let y = h.here in omega (arith, x, y));
}

-- ---- there is enough of each, or a bottleneck

-- what is found among the first n resources, with how much is lacking of it
record Found (claims : Table) (capital : List ℕ) (n : ℕ) : Type 0 where
  most : ℕ
  found : Option ℕ
  is : IsFound claims capital n most found

look : (claims : Table) (capital : List ℕ) (n : ℕ) → Found claims capital n
look claims capital zero = record { most = 0; found = None; is = (refl, λ k within. absurd (omega (arith, within))) }
look claims capital (suc n) =
    let old = look claims capital n in
    elim (cases_lt old.most (lack claims capital n)) [
      | inl more ↦
          record { most = lack claims capital n; found = Some n; is = subst (λ k. IsFound claims capital k (lack claims capital n) (Some n)) (omega arith) (found_here claims capital n old.most old.found old.is more) }
      | inr less ↦
          record { most = old.most; found = old.found; is = subst (λ k. IsFound claims capital k old.most old.found) (omega arith) (found_before claims capital n old.most old.found old.is less) }
    ]

pub free_or_bottleneck : (claims : Table) (capital : List ℕ)
    → AllFree claims capital ⊎ ((r : ℕ) × IsBottleneck claims capital r)
free_or_bottleneck claims capital =
    let it = look claims capital (length capital) in
    which it.found (found_all claims capital (length capital) it.most it.found it.is (omega arith) (omega arith))
  where
    which : (found : Option ℕ) → MatchOption found (AllFree claims capital) (IsBottleneck claims capital)
        → AllFree claims capital ⊎ ((r : ℕ) × IsBottleneck claims capital r)
    which None free = inl free
    which (Some r) most = inr (r, most)
