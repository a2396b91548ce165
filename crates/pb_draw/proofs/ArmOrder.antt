-- No arm of a code is there twice, and there are few.
use Rattle.std.proofs.Common.{◌≡◌, ◌⊎◌, ℕ, zero, suc, ◌+◌, ◌*◌, ◌<◌, ◌≤◌, List, [], ◌∷◌, ◌++◌, length, Some, refl, sym, ap, ◌∙◌, inl, inr, arith}
use Rattle.std.specs.Prelude.{slice_get}
use Rattle.std.proofs.lemmas.List.{length-append}
use Rattle.pb_base.specs.declared.pick.Pick.{Pick}
use Rattle.pb_code.specs.Code.{ProcessCode}
use Rattle.pb_draw.specs.Arms.{AreDifferent, arms_before, arms_from}
use Rattle.pb_machine.proofs.BuiltLists.{at_push}

-- what is found stands before the end
within : (arms : List Pick) (i : ℕ) (a : Pick) → slice_get arms i ≡ Some a → i < length arms
within [] i a h = cc
within (x ∷ arms) zero a h = omega arith
within (x ∷ arms) (suc i) a h = let rest : i < length arms = within arms i a h in omega (arith, rest)

-- a number that counts from the end of another list
record IsBehind (len i : ℕ) (ys : List Pick) (a : Pick) : Type 0 where
  k : ℕ
  is : i ≡ len + k
  there : slice_get ys k ≡ Some a

-- what is found in two lists is found in one of them
split : (xs ys : List Pick) (i : ℕ) (a : Pick) → slice_get (xs ++ ys) i ≡ Some a
    → (slice_get xs i ≡ Some a) ⊎ IsBehind (length xs) i ys a
split [] ys i a h = inr (record { k = i; is = omega arith; there = h })
split (x ∷ xs) ys zero a h = inl h
split (x ∷ xs) ys (suc i) a h = elim (split xs ys i a h) [
  | inl first ↦ inl first
  | inr second ↦ inr (record { k = second.k; is = (let e : i ≡ length xs + second.k = second.is in omega (arith, e)); there = second.there })
]

long : (p n : ℕ) → length (arms_before p n) ≡ n
long p zero = refl
long p (suc n) = length-append (arms_before p n) (record { process = p; arm = n } ∷ []) ∙ (let e = long p n in omega (arith, e))

-- an arm of a process, by its number
of_process : (p n i : ℕ) (a : Pick) → slice_get (arms_before p n) i ≡ Some a → (a.process ≡ p) × (a.arm ≡ i)
of_process p zero i a h = cc
of_process p (suc n) i a h = elim (at_push (arms_before p n) (record { process = p; arm = n }) a i h) [
  | inl earlier ↦ of_process p n i a earlier
  | inr last ↦
      (ap (λ (x : Pick). x.process) (sym last.1), ap (λ (x : Pick). x.arm) (sym last.1) ∙ sym (last.0 ∙ long p n))
]

-- the arms of later processes
of_later : (p : ℕ) (processes : List ProcessCode) (i : ℕ) (a : Pick) → slice_get (arms_from p processes) i ≡ Some a → p ≤ a.process
of_later p [] i a h = cc
of_later p (code ∷ processes) i a h =
    elim (split (arms_before p (length code.entries)) (arms_from (p + 1) processes) i a h) [
      | inl first ↦ (let e : a.process ≡ p = (of_process p (length code.entries) i a first).0 in omega (arith, e))
      | inr second ↦
          (let later : p + 1 ≤ a.process = of_later (p + 1) processes second.k a second.there in
          omega (arith, later))
    ]

pub arms_apart : (p : ℕ) (processes : List ProcessCode) → AreDifferent (arms_from p processes)
arms_apart p [] = λ i j a b lt one two. cc
arms_apart p (code ∷ processes) = λ i j a b lt one two.
    let n = length code.entries in
    let len : length (arms_before p n) ≡ n = long p n in
    elim (split (arms_before p n) (arms_from (p + 1) processes) j b two) [
      | inl two_first ↦ elim (split (arms_before p n) (arms_from (p + 1) processes) i a one) [
        | inl one_first ↦ λ same.
            (let x : a.arm ≡ i = (of_process p n i a one_first).1 in
            let y : b.arm ≡ j = (of_process p n j b two_first).1 in
            let z : a.arm ≡ b.arm = ap (λ (q : Pick). q.arm) same in
            omega (arith, x, y, z, lt))
        | inr one_second ↦ λ same.
            (let below : j < length (arms_before p n) = within (arms_before p n) j b two_first in
            let above : i ≡ length (arms_before p n) + one_second.k = one_second.is in
            omega (arith, below, above, lt))
      ]
      | inr two_second ↦ elim (split (arms_before p n) (arms_from (p + 1) processes) i a one) [
        | inl one_first ↦ λ same.
            (let x : a.process ≡ p = (of_process p n i a one_first).0 in
            let y : p + 1 ≤ b.process = of_later (p + 1) processes two_second.k b two_second.there in
            let z : a.process ≡ b.process = ap (λ (q : Pick). q.process) same in
            omega (arith, x, y, z))
        | inr one_second ↦
            (let first : i ≡ length (arms_before p n) + one_second.k = one_second.is in
            let second : j ≡ length (arms_before p n) + two_second.k = two_second.is in
            arms_apart (p + 1) processes one_second.k two_second.k a b (omega (arith, first, second, lt)) one_second.there
            two_second.there)
      ]
    ]

pub arms_few : (most p : ℕ) (processes : List ProcessCode)
    → ((k : ℕ) (code : ProcessCode) → slice_get processes k ≡ Some code → length code.entries ≤ most)
    → length (arms_from p processes) ≤ most * length processes
arms_few most p [] few = omega arith
arms_few most p (code ∷ processes) few =
    let first : length code.entries ≤ most = few 0 code refl in
    let rest : length (arms_from (p + 1) processes) ≤ most * length processes =
    arms_few most (p + 1) processes (λ k x there. few (suc k) x there) in
    let len = length-append (arms_before p (length code.entries)) (arms_from (p + 1) processes) in
    let here : length (arms_before p (length code.entries)) ≡ length code.entries = long p (length code.entries) in
    omega (arith, first, rest, len, here)
