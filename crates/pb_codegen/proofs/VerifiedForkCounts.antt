-- How many forks of a list of instructions name an arm.
use Rattle.std.proofs.Common.{◌≡◌, ◌⊎◌, inl, inr, ℕ, zero, suc, ◌+◌, ◌<◌, ◌≤◌, List, [], ◌∷◌, ◌++◌, cond, eqb}
use Rattle.std.proofs.Common.{Some, refl, ap, arith, ne_eqb, eq-eqb}
use Rattle.std.specs.Prelude.{slice_get}
use Rattle.std.proofs.lemmas.Bool.{cases_lt}
use Rattle.pb_code.specs.Code.{Instr, Push, Load, Store, Compute1, Compute2, Jump, JumpIfZero, PrintTop, Take}
use Rattle.pb_code.specs.Code.{Give, Fork, Join, End}
use Rattle.pb_verifier.specs.Places.{IsAmong}

-- ---- one number among others

-- 1 if the numbers are the same
abbrev same : ℕ → ℕ → ℕ
same b first = cond (eqb b first) 1 0

-- 1 if b is one of n numbers from the first on
abbrev pub among : (b first n : ℕ) → ℕ
among b first zero = 0
among b first (suc n) = same b first + among b (first + 1) n

pub among-add : (b first m n : ℕ) → among b first (m + n) ≡ among b first m + among b (first + m) n
among-add b first zero n =
    let e : 0 + n ≡ n = omega arith in
    let f : first ≡ first + 0 = omega arith in
    let g = ap (among b first) e in
    let h = ap (λ k. among b k n) f in
    omega (arith, g, h)
among-add b first (suc m) n =
    let e : suc m + n ≡ suc (m + n) = omega arith in
    let f : first + 1 + m ≡ first + suc m = omega arith in
    let g = ap (among b first) e in
    let h = ap (λ k. among b k n) f in
    let rest = among-add b (first + 1) m n in
    omega (arith, g, h, rest)

none_before : (b first n : ℕ) → b < first → among b first n ≡ 0
none_before b first zero u = refl
none_before b first (suc n) u =
    let e : same b first ≡ 0 = ap (λ t. cond t 1 0) (ne_eqb b first (λ z. omega (arith, z, u))) in
    let rest = none_before b (first + 1) n (omega (arith, u)) in
    omega (arith, e, rest)

none_past : (b first n : ℕ) → first + n ≤ b → among b first n ≡ 0
none_past b first zero u = refl
none_past b first (suc n) u =
    let e : same b first ≡ 0 = ap (λ t. cond t 1 0) (ne_eqb b first (λ z. omega (arith, z, u))) in
    let rest = none_past b (first + 1) n (omega (arith, u)) in
    omega (arith, e, rest)

one_inside : (b first n : ℕ) → first ≤ b → b < first + n → among b first n ≡ 1
one_inside b first zero l u = absurd (omega (arith, l, u))
one_inside b first (suc n) l u =
    go (λ v. one_inside b (first + 1) n (omega (arith, v)) (omega (arith, u))) (cases_lt first b)
  where
    go : (first < b → among b (first + 1) n ≡ 1) → (first < b) ⊎ (b ≤ first) → among b first (suc n) ≡ 1
    go later (inl v) =
        let e : same b first ≡ 0 = ap (λ t. cond t 1 0) (ne_eqb b first (λ z. omega (arith, z, v))) in
        let rest = later v in
        omega (arith, e, rest)
    go later (inr v) =
        let e : same b first ≡ 1 = ap (λ t. cond t 1 0) (eq-eqb b first (omega (arith, l, v))) in
        let rest = none_before b (first + 1) n (omega (arith, v)) in
        omega (arith, e, rest)

pub one_among : (b first n : ℕ) → IsAmong first n b → among b first n ≡ 1
one_among b first n h = one_inside b first n h.0 h.1

-- it is one of them, or there is none
pub among_or_none : (b first n : ℕ) → IsAmong first n b ⊎ (among b first n ≡ 0)
among_or_none b first n = go (cases_lt b first) (cases_lt b (first + n))
  where
    go : (b < first) ⊎ (first ≤ b) → (b < first + n) ⊎ (first + n ≤ b)
        → IsAmong first n b ⊎ (among b first n ≡ 0)
    go (inl u) w = inr (none_before b first n u)
    go (inr u) (inl v) = inl (u, v)
    go (inr u) (inr v) = inr (none_past b first n v)

-- ---- instructions that name it

-- how many times an instruction names an arm
abbrev pub times_named : ℕ → Instr → ℕ
times_named b (Fork first n) = among b first n
times_named b i = 0

abbrev pub times_in : ℕ → List Instr → ℕ
times_in b [] = 0
times_in b (i ∷ is) = times_named b i + times_in b is

pub times_in-append : (b : ℕ) (xs ys : List Instr) → times_in b (xs ++ ys) ≡ times_in b xs + times_in b ys
times_in-append b [] ys = omega arith
times_in-append b (i ∷ xs) ys = let rest = times_in-append b xs ys in omega (arith, rest)

-- a place that names it
pub named_once_at_least : (b : ℕ) (is : List Instr) (place first n : ℕ)
    → slice_get is place ≡ Some (Fork first n)
    → IsAmong first n b → 1 ≤ times_in b is
named_once_at_least b [] place first n at h = cc
named_once_at_least b (i ∷ is) zero first n at h =
    let e : Some i ≡ Some (Fork first n) = at in
    let e' : i ≡ Fork first n = cc in
    let here = ap (times_named b) e' in
    let one = one_among b first n h in
    omega (arith, here, one)
named_once_at_least b (i ∷ is) (suc place) first n at h =
    let rest = named_once_at_least b is place first n at h in omega (arith, rest)

-- an instruction that is not a fork names none
fork_or_none : (b : ℕ) (i : Instr) → ((first : ℕ) × (n : ℕ) × (i ≡ Fork first n)) ⊎ (times_named b i ≡ 0)
fork_or_none b (Push v) = inr refl
fork_or_none b (Load x) = inr refl
fork_or_none b (Store x) = inr refl
fork_or_none b (Compute1 op) = inr refl
fork_or_none b (Compute2 op) = inr refl
fork_or_none b (Jump target) = inr refl
fork_or_none b (JumpIfZero target) = inr refl
fork_or_none b PrintTop = inr refl
fork_or_none b (Take bundle) = inr refl
fork_or_none b (Give bundle) = inr refl
fork_or_none b (Fork first n) = inl (first, n, refl)
fork_or_none b (Join first n) = inr refl
fork_or_none b End = inr refl

-- a place of these instructions has a fork that names it
abbrev pub IsNamedIn : ℕ → List Instr → Type 0
IsNamedIn b is =
    (place : ℕ) × (first : ℕ) × (n : ℕ) × (slice_get is place ≡ Some (Fork first n)) × IsAmong first n b

pub place_naming : (b : ℕ) (is : List Instr) → 1 ≤ times_in b is → IsNamedIn b is
place_naming b [] h = absurd (omega (arith, h))
place_naming b (i ∷ is) h = go (fork_or_none b i) (place_naming b is)
  where
    later : IsNamedIn b is → IsNamedIn b (i ∷ is)
    later w = (suc w.0, w.1, w.2, w.3, w.4)

    here : (first n : ℕ) → i ≡ Fork first n → IsAmong first n b ⊎ (among b first n ≡ 0)
        → (1 ≤ times_in b is → IsNamedIn b is) → IsNamedIn b (i ∷ is)
    here first n e (inl w) rest = (0, first, n, ap Some e, w)
    here first n e (inr z) rest = let c = ap (times_named b) e in later (rest (omega (arith, h, c, z)))

    go : ((first : ℕ) × (n : ℕ) × (i ≡ Fork first n)) ⊎ (times_named b i ≡ 0)
        → (1 ≤ times_in b is → IsNamedIn b is) → IsNamedIn b (i ∷ is)
    go (inl w) rest = here w.0 w.1 w.2 (among_or_none b w.0 w.1) rest
    go (inr z) rest = later (rest (omega (arith, h, z)))

-- if it is named once at most, two places that name it are one
pub one_place : (b : ℕ) (is : List Instr) (p f n q g m : ℕ) → times_in b is ≤ 1
    → slice_get is p ≡ Some (Fork f n) → IsAmong f n b → slice_get is q ≡ Some (Fork g m) → IsAmong g m b → p ≡ q
one_place b [] p f n q g m few at h at' h' = cc
one_place b (i ∷ is) zero f n zero g m few at h at' h' = refl
one_place b (i ∷ is) zero f n (suc q) g m few at h at' h' =
    let here = named_once_at_least b (i ∷ []) 0 f n at h in
    let later = named_once_at_least b is q g m at' h' in
    absurd (omega (arith, here, later, few))
one_place b (i ∷ is) (suc p) f n zero g m few at h at' h' =
    let here = named_once_at_least b (i ∷ []) 0 g m at' h' in
    let later = named_once_at_least b is p f n at h in
    absurd (omega (arith, here, later, few))
one_place b (i ∷ is) (suc p) f n (suc q) g m few at h at' h' =
    ap suc (one_place b is p f n q g m (omega (arith, few)) at h at' h')
