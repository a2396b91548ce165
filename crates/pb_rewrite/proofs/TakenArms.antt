-- An arm is taken out of a run and put back.
use Rattle.std.proofs.Common.{◌≡◌, inl, inr, ℕ, ◌+◌, List, Bool, true, false, cond, nat_eq, Option, Some, None, ap}
use Rattle.std.proofs.Common.{ap₂, subst, refl, sym, ◌∙◌}
use Rattle.std.specs.Prelude.{IsSome}
use Rattle.pb_names.specs.Source.{Item, Arm, Doing, Waiting, Ended, Running, Nothing, Beside, find, find_among}
use Rattle.pb_names.specs.Source.{first_some, put, put_among}
use Rattle.pb_rewrite.specs.Sound.{IsSingle, AreSingle}
use Rattle.pb_rewrite.specs.Steps.{IsSwap}
use Rattle.pb_rewrite.proofs.SwappedArms.{first_cases, none_put, none_put_among, none_some}

-- ---- what is put in the place of an arm that was taken out

over_doing : (a n : ℕ) (y : Arm) (items : List Item) (b : Bool) → nat_eq a n ≡ b
    → put a y n (cond b Ended (Doing items)) ≡ cond b y (Doing items)
over_doing a n y items true h = ap (λ b. cond b y Ended) h
over_doing a n y items false h = ap (λ b. cond b y (Doing items)) h

over_ended : (a n : ℕ) (y : Arm) (b : Bool) → nat_eq a n ≡ b → put a y n (cond b Ended Ended) ≡ cond b y Ended
over_ended a n y true h = ap (λ b. cond b y Ended) h
over_ended a n y false h = ap (λ b. cond b y Ended) h

over_waiting : (a n : ℕ) (y : Arm) (line first : ℕ) (arms more : Running) (rest : List Item) (b : Bool) → nat_eq a n ≡ b
    → put_among a y first arms ≡ more
    → put a y n (cond b Ended (Waiting line first arms rest)) ≡ cond b y (Waiting line first more rest)
over_waiting a n y line first arms more rest true h same = ap (λ b. cond b y Ended) h
over_waiting a n y line first arms more rest false h same =
    ap (λ b. cond b y (Waiting line first (put_among a y first arms) rest)) h ∙ ap (λ r. Waiting line first r rest) same

mutual
  pub put_over : (a n : ℕ) (y arm : Arm) → put a y n (put a Ended n arm) ≡ put a y n arm
  put_over a n y (Doing items) = over_doing a n y items (nat_eq a n) refl
  put_over a n y (Waiting line first arms rest) =
      over_waiting a n y line first (put_among a Ended first arms) (put_among a y first arms) rest (nat_eq a n) refl
      (put_over_among a first y arms)
  put_over a n y Ended = over_ended a n y (nat_eq a n) refl

  pub put_over_among : (a n : ℕ) (y : Arm) (arms : Running) → put_among a y n (put_among a Ended n arms) ≡ put_among a y n arms
  put_over_among a n y Nothing = refl
  put_over_among a n y (Beside arm arms) = ap₂ Beside (put_over a n y arm) (put_over_among a (n + 1) y arms)

-- ---- an arm that was taken out is found ended

there_ended : (a n : ℕ) (x : Arm) (other : Arm) (inner : Option Arm) (t : Arm) (b : Bool) → nat_eq a n ≡ b
    → cond b (Some t) inner ≡ Some x → (inner ≡ Some x → (b ≡ false) → find a n other ≡ Some Ended)
    → find a n (cond b Ended other) ≡ Some Ended
there_ended a n x other inner t true h found rest = ap (λ b. cond b (Some Ended) None) h
there_ended a n x other inner t false h found rest = rest found refl

mutual
  pub find_ended : (a n : ℕ) (x arm : Arm) → find a n arm ≡ Some x → find a n (put a Ended n arm) ≡ Some Ended
  find_ended a n x (Doing items) h =
      there_ended a n x (Doing items) None (Doing items) (nat_eq a n) refl h (λ e not. absurd (none_some None x e refl))
  find_ended a n x (Waiting line first arms rest) h =
      there_ended a n x (Waiting line first (put_among a Ended first arms) rest) (find_among a first arms) (Waiting line first arms rest) (nat_eq a n) refl h
      (λ e not. ap (λ b. cond b (Some (Waiting line first (put_among a Ended first arms) rest)) (find_among a first (put_among a Ended first arms))) not
      ∙ find_ended_among a first x arms e)
  find_ended a n x Ended h =
      there_ended a n x Ended None Ended (nat_eq a n) refl h (λ e not. absurd (none_some None x e refl))

  pub find_ended_among : (a n : ℕ) (x : Arm) (arms : Running) → find_among a n arms ≡ Some x
      → find_among a n (put_among a Ended n arms) ≡ Some Ended
  find_ended_among a n x Nothing h = absurd (none_some None x h refl)
  find_ended_among a n x (Beside arm arms) h =
      elim (first_cases (find a n arm) (find_among a (n + 1) arms) x h) [
        | inl here ↦ ap (λ o. first_some o (find_among a (n + 1) (put_among a Ended (n + 1) arms))) (find_ended a n x arm here)
        | inr later ↦
            ap (λ o. first_some o (find_among a (n + 1) (put_among a Ended (n + 1) arms)))
            (ap (find a n) (none_put a n Ended arm later.0) ∙ later.0)
            ∙ find_ended_among a (n + 1) x arms later.1
      ]

-- ---- no two running arms lead to its number, then as before

single_cond : (a : ℕ) (b : Bool) (x y : Arm) → IsSingle a x → IsSingle a y → IsSingle a (cond b x y)
single_cond a true x y hx hy = hx
single_cond a false x y hx hy = hy

mutual
  pub single_put : (a n : ℕ) (arm : Arm) → IsSingle a arm → IsSingle a (put a Ended n arm)
  single_put a n (Doing items) h = single_cond a (nat_eq a n) Ended (Doing items) tt tt
  single_put a n (Waiting line first arms rest) h =
      single_cond a (nat_eq a n) Ended (Waiting line first (put_among a Ended first arms) rest) tt (single_put_among a first arms h)
  single_put a n Ended h = single_cond a (nat_eq a n) Ended Ended tt tt

  single_put_among : (a n : ℕ) (arms : Running) → AreSingle a n arms → AreSingle a n (put_among a Ended n arms)
  single_put_among a n Nothing h = tt
  single_put_among a n (Beside arm arms) h = (
    single_put a n arm h.0,
    elim h.1 [
      | inl none ↦ inl (ap (find a n) (none_put a n Ended arm none) ∙ none)
      | inr none ↦ inr (ap (find_among a (n + 1)) (none_put_among a (n + 1) Ended arms none) ∙ none)
    ],
    single_put_among a (n + 1) arms h.2,
  )

-- ---- what is found, put where it was found, changes nothing

same_at : (b : Bool) (x t z : Arm) (inner : Option Arm) → cond b (Some t) inner ≡ Some x → (inner ≡ Some x → z ≡ t) → cond b x z ≡ t
same_at true x t z inner h same = cc
same_at false x t z inner h same = same h

mutual
  pub put_found : (a n : ℕ) (x arm : Arm) → IsSingle a arm → find a n arm ≡ Some x → put a x n arm ≡ arm
  put_found a n x (Doing items) single h =
      same_at (nat_eq a n) x (Doing items) (Doing items) None h (λ e. absurd (none_some None x e refl))
  put_found a n x (Waiting line first arms rest) single h =
      same_at (nat_eq a n) x (Waiting line first arms rest) (Waiting line first (put_among a x first arms) rest) (find_among a first arms) h
      (λ e. ap (λ r. Waiting line first r rest) (put_found_among a first x arms single e))
  put_found a n x Ended single h =
      same_at (nat_eq a n) x Ended Ended None h (λ e. absurd (none_some None x e refl))

  put_found_among : (a n : ℕ) (x : Arm) (arms : Running) → AreSingle a n arms → find_among a n arms ≡ Some x
      → put_among a x n arms ≡ arms
  put_found_among a n x Nothing single h = refl
  put_found_among a n x (Beside arm arms) single h =
      elim (first_cases (find a n arm) (find_among a (n + 1) arms) x h) [
        | inl here ↦ ap₂ Beside (put_found a n x arm single.0 here)
            (elim single.1 [
              | inl none ↦ absurd (none_some (find a n arm) x here none)
              | inr none ↦ none_put_among a (n + 1) x arms none
            ])
        | inr later ↦ ap₂ Beside (none_put a n x arm later.0) (put_found_among a (n + 1) x arms single.2 later.1)
      ]

-- ---- an arm that changes places with one that is there

pub swapped_in : (a : ℕ) (run y : Arm) (b : Bool) (run' other' : Arm) → IsSwap a 0 run y b run' other'
    → IsSome (find a 0 run) → run' ≡ put a y 0 run
swapped_in a run y true run' other' h there = h.1
swapped_in a run y false run' other' h there = let gone : false ≡ true = subst IsSome h.0 there in absurd (cc)

pub is_there : (o : Option Arm) (x : Arm) → o ≡ Some x → IsSome o
is_there o x h = subst IsSome (sym h) refl
