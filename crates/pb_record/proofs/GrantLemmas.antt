-- Each request is allowed or is not, and each pick is enabled or is not.
use Rattle.std.proofs.Common.{◌≡◌, ℕ, zero, suc, ◌+◌, ◌<◌, ◌≤◌, ◌⊎◌, inl, inr, Bool, true, false, List, [], ◌∷◌, ◌++◌}
use Rattle.std.proofs.Common.{length, length-append, get_or, set, replicate, All, Option, Some, None, refl, sym, ◌∙◌}
use Rattle.std.proofs.Common.{subst, arith}
use Rattle.std.proofs.lemmas.Bool.{cases_lt, false≢true}
use Rattle.std.proofs.lemmas.List.{get_or-replicate, length-replicate, length-set}
use Rattle.std.proofs.lemmas.List.Elements.{All-cons, All-head, All-nil, All-tail}
use Rattle.pb_banker.proofs.Search.{Progress, Progress-all, Progress-more, Progress-start, Progress-unsafe}
use Rattle.pb_base.specs.Banker.{BankerState, FitsAfter, IsAllowed, IsSafe, IsWithinCash, IsWithinClaim, cash, claim}
use Rattle.pb_base.specs.Banker.{held_by, loan, processes, remaining_claim, resources, with_loan}
use Rattle.pb_base.specs.declared.pair.Pair.{Pair}
use Rattle.pb_base.specs.declared.pick.Pick.{Pick}
use Rattle.pb_base.specs.Steppers.{Bank, Bundle, Effect, Faults, Finishes, IsGranted, IsLent, Move, Prints, Returns, Silent}
use Rattle.pb_base.specs.Steppers.{State, Table, Takes, banker_state, move_of}
use Rattle.pb_base.proofs.Cases.{bool_cases}
use Rattle.pb_code.specs.Code.{CodeProcess, code_step}
use Rattle.pb_code.specs.Reached.{CodeStaysBy}
use Rattle.pb_code.specs.Whole.{Code, bank_by}
use Rattle.pb_base.specs.declared.lending.Lending.{Lending}
use Rattle.pb_base.specs.declared.lending.Lending.TheVariants.{ByBanker, ByCash}

-- ---- numbers, and elements of lists

at_most_or_not : (m n : ℕ) → (m ≤ n) ⊎ ¬ (m ≤ n)
at_most_or_not m n = elim (cases_lt n m) [
  | inl less ↦ inr (λ le. omega (arith, less, le))
  | inr le ↦ inl le
]

module _ (P : ℕ → Type 0) (tell : (i : ℕ) → P i ⊎ ¬ P i) where
  -- the least number below n of which this holds, if there is one
  least_below : (n : ℕ) → ((i : ℕ) × (i < n) × P i × ((j : ℕ) → j < i → ¬ P j)) ⊎ ((i : ℕ) → i < n → ¬ P i)
  least_below zero = inr (λ i less. absurd (omega (arith, less)))
  least_below (suc n) = elim (least_below n) [
    | inl (i, less, is, least) ↦ inl (i, omega (arith, less), is, least)
    | inr none ↦ elim (tell n) [
      | inl is ↦ inl (n, omega arith, is, none)
      | inr is_not ↦ inr (λ i less. elim (cases_lt i n) [
        | inl before ↦ none i before
        | inr past ↦ let same : n ≡ i = omega (arith, less, past) in subst (λ (k : ℕ). ¬ P k) same is_not
      ])
    ]
  ]

  -- it holds of all numbers below n, or does not
  all_below_or_not : (n : ℕ) → ((i : ℕ) → i < n → P i) ⊎ ¬ ((i : ℕ) → i < n → P i)
  all_below_or_not zero = inl (λ i less. absurd (omega (arith, less)))
  all_below_or_not (suc n) = elim (all_below_or_not n) [
    | inr some_not ↦ inr (λ all. some_not (λ i less. all i (omega (arith, less))))
    | inl all ↦ elim (tell n) [
      | inr is_not ↦ inr (λ each. is_not (each n (omega arith)))
      | inl is ↦ inl (λ i less. elim (cases_lt i n) [
        | inl before ↦ all i before
        | inr past ↦ let same : n ≡ i = omega (arith, less, past) in subst P same is
      ])
    ]
  ]

each_or_not : {X : Type 0} (P : X → Type 0) → ((x : X) → P x ⊎ ¬ P x) → (xs : List X) → All P xs ⊎ ¬ All P xs
each_or_not P tell [] = inl (All-nil P)
each_or_not P tell (x ∷ xs) = elim (tell x) [
  | inr is_not ↦ inr (λ all. is_not (All-head P x xs all))
  | inl is ↦ elim (each_or_not P tell xs) [
    | inr some_not ↦ inr (λ all. some_not (All-tail P x xs all))
    | inl all ↦ inl (All-cons P x xs is all)
  ]
]

-- ---- safe states and requests

module _ (s : BankerState) where
  fits_or_not : (before : List ℕ) (p : ℕ) → FitsAfter s before p ⊎ ¬ FitsAfter s before p
  fits_or_not before p =
      elim (all_below_or_not (λ r. remaining_claim s p r ≤ cash s r + held_by s before r) (λ r. at_most_or_not
      (remaining_claim s p r) (cash s r + held_by s before r)) (resources s)) [
        | inl all ↦ inl (record { each = all })
        | inr some_not ↦ inr (λ fits. some_not fits.each)
      ]

  abbrev CanBeNext : List ℕ → List Bool → ℕ → Type 0
  CanBeNext order waiting p = (get_or waiting p false ≡ true) × FitsAfter s order p

  next_or_not : (order : List ℕ) (waiting : List Bool) (p : ℕ) → CanBeNext order waiting p ⊎ ¬ CanBeNext order waiting p
  next_or_not order waiting p = elim (bool_cases (get_or waiting p false)) [
    | inr ended ↦ inr (λ can. false≢true (sym ended ∙ can.0))
    | inl waits ↦ elim (fits_or_not order p) [
      | inl fits ↦ inl (waits, fits)
      | inr fits_not ↦ inr (λ can. fits_not can.1)
    ]
  ]

  -- a search for an order goes on to its end
  searched : (left : ℕ) (order : List ℕ) (waiting : List Bool) → Progress s order waiting → length waiting ≡ processes s
      → length order + left ≡ processes s → IsSafe s ⊎ ¬ IsSafe s
  searched zero order waiting so_far all many = inl (order, (Progress-all s order waiting so_far (omega (arith, many))).finishes)
  searched (suc left) order waiting so_far all many =
      elim (least_below (CanBeNext order waiting) (next_or_not order waiting) (processes s)) [
        | inr none ↦ inr (Progress-unsafe s order waiting so_far (λ p less waits fits. none p less (waits, fits)) (omega (arith, many)))
        | inl (p, less, (waits, fits), least) ↦
            let long = length-append order (p ∷ []) in
            searched left (order ++ p ∷ []) (set waiting p false)
            (Progress-more s order waiting p so_far less (omega (arith, less, all)) waits fits
            (λ q before still too. least q before (still, too)))
            (length-set waiting p false ∙ all) (omega (arith, long, many))
      ]

  safe_or_not : IsSafe s ⊎ ¬ IsSafe s
  safe_or_not =
      let all = replicate (processes s) true in
      searched (processes s) [] all (Progress-start s all (λ p less. get_or-replicate (processes s) p true false less))
      (length-replicate (processes s) true) (omega arith)

within_claim_or_not : (s : BankerState) (p : ℕ) (bundle : Bundle) → IsWithinClaim s p bundle ⊎ ¬ IsWithinClaim s p bundle
within_claim_or_not s p bundle =
    each_or_not (λ (pair : Pair). loan s p pair.resource + pair.amount ≤ claim s p pair.resource)
    (λ pair. at_most_or_not (loan s p pair.resource + pair.amount) (claim s p pair.resource)) bundle

within_cash_or_not : (s : BankerState) (bundle : Bundle) → IsWithinCash s bundle ⊎ ¬ IsWithinCash s bundle
within_cash_or_not s bundle =
    each_or_not (λ (pair : Pair). pair.amount ≤ cash s pair.resource) (λ pair. at_most_or_not pair.amount (cash s pair.resource)) bundle

allowed_or_not : (s : BankerState) (p : ℕ) (bundle : Bundle) → IsAllowed s p bundle ⊎ ¬ IsAllowed s p bundle
allowed_or_not s p bundle = elim (within_claim_or_not s p bundle) [
  | inr over ↦ inr (λ allowed. over allowed.within_claim)
  | inl claim ↦ elim (within_cash_or_not s bundle) [
    | inr over ↦ inr (λ allowed. over allowed.within_cash)
    | inl cash ↦ elim (safe_or_not (with_loan s p bundle)) [
      | inr unsafe ↦ inr (λ allowed. unsafe allowed.safe)
      | inl safe ↦ inl (record { within_claim = claim; within_cash = cash; safe = safe })
    ]
  ]
]

lent_or_not : (lending : Lending) (s : BankerState) (p : ℕ) (bundle : Bundle)
    → IsLent lending s p bundle ⊎ ¬ IsLent lending s p bundle
lent_or_not ByBanker s p bundle = allowed_or_not s p bundle
lent_or_not ByCash s p bundle = within_cash_or_not s bundle

-- ---- picks

granted_or_not : (bank : Bank) (loans : Table) (p : ℕ) (effect : Effect) → IsGranted bank loans p effect ⊎ ¬ IsGranted bank loans p effect
granted_or_not bank loans p Silent = inl tt
granted_or_not bank loans p (Prints v) = inl tt
granted_or_not bank loans p (Takes bundle) = lent_or_not bank.lends (banker_state bank loans) p bundle
granted_or_not bank loans p (Returns bundle) = inl tt
granted_or_not bank loans p (Faults kind) = inl tt
granted_or_not bank loans p Finishes = inl tt

-- the pick is enabled under this lending
abbrev pub IsEnabled : Lending → Code → State CodeProcess → Pick → Type 0
IsEnabled lending code s pick =
    (move : Move CodeProcess) × (move_of (code_step code.processes) s pick ≡ Some move)
    × IsGranted (bank_by lending code) s.loans pick.process move.effect

pub enabled_or_not : (lending : Lending) (code : Code) (s : State CodeProcess) (pick : Pick)
    → IsEnabled lending code s pick ⊎ CodeStaysBy lending code s pick
enabled_or_not lending code s pick = go (move_of (code_step code.processes) s pick) refl
  where
    go : (made : Option (Move CodeProcess)) → move_of (code_step code.processes) s pick ≡ made
        → IsEnabled lending code s pick ⊎ CodeStaysBy lending code s pick
    go None none = inr (λ move there granted. let both : Some move ≡ None = sym there ∙ none in cc)
    go (Some move) is = elim (granted_or_not (bank_by lending code) s.loans pick.process move.effect) [
      | inl granted ↦ inl (move, is, granted)
      | inr refused ↦ inr (λ other there granted. let both : Some other ≡ Some move = sym there ∙ is in
          let same : other ≡ move = cc in
          refused (subst (λ (m : Move CodeProcess). IsGranted (bank_by lending code) s.loans pick.process m.effect) same granted))
    ]
