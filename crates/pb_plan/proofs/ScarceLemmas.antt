-- Each resource is scarce, or there is enough of it for all claims at once.
use Rattle.std.proofs.Common.{◌≡◌, ◌∙◌, ◌⊎◌, inl, inr, ⊎_elim, ℕ, zero, suc, ◌+◌, ◌<◌, ◌≤◌, cond, List, [], ◌∷◌, ◌++◌, length}
use Rattle.std.proofs.Common.{Some, refl, sym, ap, subst, arith, add-one, append-nil}
use Rattle.std.specs.Prelude.{All, nat_lt, slice_get}
use Rattle.std.proofs.lemmas.Bool.{cases_eq, cases_lt, le-ltb, lt-ltb}
use Rattle.std.proofs.lemmas.List.Elements.{All-append, All-cons, All-nil, All-weaker}
use Rattle.pb_base.proofs.Lists.{all_at, get_left}
use Rattle.pb_base.specs.Steppers.{Table}
use Rattle.pb_plan.specs.Needs.{AllFree, IsFree, lack, scarce, scarce_below}
use Rattle.pb_plan.specs.Nests.{IsAmong}

-- one resource more
pub scarce_more : (claims : Table) (capital : List ℕ) (n : ℕ) → 0 < lack claims capital n
    → scarce_below claims capital (n + 1) ≡ scarce_below claims capital n ++ n ∷ []
scarce_more claims capital n some =
    rw add-one (ap (λ b. scarce_below claims capital n ++ cond b (n ∷ []) []) (lt-ltb 0 (lack claims capital n) some))

pub scarce_same : (claims : Table) (capital : List ℕ) (n : ℕ) → lack claims capital n ≤ 0
    → scarce_below claims capital (n + 1) ≡ scarce_below claims capital n
scarce_same claims capital n none =
    rw add-one (ap (λ b. scarce_below claims capital n ++ cond b (n ∷ []) []) (le-ltb 0 (lack claims capital n) none)
    ∙ append-nil (scarce_below claims capital n))

-- the last of a list
at_end : (xs : List ℕ) (x : ℕ) → slice_get (xs ++ x ∷ []) (length xs) ≡ Some x
at_end [] x = refl
at_end (y ∷ xs) x = at_end xs x

there : (claims : Table) (capital : List ℕ) (n r : ℕ) → r < n → 0 < lack claims capital r
    → IsAmong (scarce_below claims capital n) r
there claims capital zero r u some = absurd (omega (arith, u))
there claims capital (suc n) r u some =
    let before = scarce_below claims capital n in
    let now = cond (nat_lt 0 (lack claims capital n)) (n ∷ []) [] in
    ⊎_elim
    (λ same.
    let here : before ++ now ≡ before ++ n ∷ [] =
    ap (λ b. before ++ cond b (n ∷ []) []) (lt-ltb 0 (lack claims capital n) (subst (λ k. 0 < lack claims capital k) same some)) in (
      length before,
      subst (λ k. slice_get (before ++ now) (length before) ≡ Some k) (sym same)
          (ap (λ xs. slice_get xs (length before)) here ∙ at_end before n),
    ))
    (λ other.
    let old = there claims capital n r (omega (arith, u, other)) some in
    (old.0, get_left before now old.0 r old.1))
    (cases_eq r n)

pub free_or_scarce : (claims : Table) (capital : List ℕ) (r : ℕ) → r < length capital
    → IsFree claims capital r ⊎ IsAmong (scarce claims capital) r
free_or_scarce claims capital r u = ⊎_elim
    (λ some. inr (there claims capital (length capital) r u some)) (λ none. inl (omega (arith, none)))
    (cases_lt 0 (lack claims capital r))

-- ---- what is scarce is there, and lacking

abbrev IsSo : Table → List ℕ → ℕ → ℕ → Type 0
IsSo claims capital n r = (r < n) × (0 < lack claims capital r)

are_so : (claims : Table) (capital : List ℕ) (n : ℕ) → All (IsSo claims capital n) (scarce_below claims capital n)
are_so claims capital zero = All-nil (IsSo claims capital 0)
are_so claims capital (suc n) =
    let Is = IsSo claims capital (suc n) in
    All-append Is (scarce_below claims capital n) (cond (nat_lt 0 (lack claims capital n)) (n ∷ []) [])
    (All-weaker (IsSo claims capital n) Is (λ r both. (let u = both.0 in omega (arith, u), both.1)) (scarce_below claims capital n)
    (are_so claims capital n))
    (⊎_elim
    (λ some.
    subst (All Is) (sym (ap (λ b. cond b (n ∷ []) []) (lt-ltb 0 (lack claims capital n) some)))
    (All-cons Is n [] (omega arith, some) (All-nil Is)))
    (λ none. subst (All Is) (sym (ap (λ b. cond b (n ∷ []) []) (le-ltb 0 (lack claims capital n) none))) (All-nil Is))
    (cases_lt 0 (lack claims capital n)))

pub scarce_there : (claims : Table) (capital : List ℕ) → All (λ r. r < length capital) (scarce claims capital)
scarce_there claims capital =
    All-weaker (IsSo claims capital (length capital)) (λ r. r < length capital) (λ r both. both.0) (scarce claims capital)
    (are_so claims capital (length capital))

pub none_scarce : (claims : Table) (capital : List ℕ) → AllFree claims capital → (r : ℕ) → IsAmong (scarce claims capital) r → ⊥
none_scarce claims capital free r among =
    let so = all_at (IsSo claims capital (length capital)) (scarce claims capital) among.0 r (are_so claims capital (length capital)) among.1 in
    let enough = free r so.0 in
    let some = so.1 in
    omega (arith, enough, some)
