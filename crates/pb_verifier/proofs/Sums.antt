-- Sums over the numbers below a bound.
use Rattle.std.proofs.Common.{◌≡◌, ◌≢◌, ⊎_elim, ℕ, zero, suc, ◌+◌, ◌<◌, ◌≤◌, Bool, true, false, cond, nat_eq, refl}
use Rattle.std.proofs.Common.{sym, ap, ◌∙◌, subst, arith, eqb-true, eq-eqb, ne_eqb}
use Rattle.std.proofs.lemmas.Bool.{cases_lt}
use Rattle.pb_verifier.specs.Places.{IsAmong}
use Rattle.pb_verifier.specs.Faults.{sum_of_arms}

abbrev pub total : ℕ → (ℕ → ℕ) → ℕ
total zero f = 0
total (suc n) f = total n f + f n

pub total_same : (n : ℕ) (f g : ℕ → ℕ) → ((b : ℕ) → b < n → f b ≡ g b) → total n f ≡ total n g
total_same zero f g h = refl
total_same (suc n) f g h = let r = total_same n f g (λ b u. h b (omega arith)) in let x = h n (omega arith) in omega (arith, r, x)

pub total_le : (n : ℕ) (f g : ℕ → ℕ) → ((b : ℕ) → b < n → f b ≤ g b) → total n f ≤ total n g
total_le zero f g h = omega arith
total_le (suc n) f g h = let r = total_le n f g (λ b u. h b (omega arith)) in let x = h n (omega arith) in omega (arith, r, x)

pub total_add : (n : ℕ) (f g : ℕ → ℕ) → total n (λ b. f b + g b) ≡ total n f + total n g
total_add zero f g = refl
total_add (suc n) f g = let r = total_add n f g in omega (arith, r)

pub total_zero : (n : ℕ) → total n (λ b. 0) ≡ 0
total_zero zero = refl
total_zero (suc n) = let r = total_zero n in omega (arith, r)

pub total_swap : (n m : ℕ) (F : ℕ → ℕ → ℕ) → total n (λ a. total m (λ b. F a b)) ≡ total m (λ b. total n (λ a. F a b))
total_swap zero m F = sym (total_zero m)
total_swap (suc n) m F = let r = total_swap n m F in let s = total_add m (λ b. total n (λ a. F a b)) (λ b. F n b) in omega (arith, r, s)

pub part_le : (n a : ℕ) (f : ℕ → ℕ) → a < n → f a ≤ total n f
part_le zero a f u = elim (let w : ⊥ = omega arith in w) [ ]
part_le (suc n) a f u = ⊎_elim
    (λ l. let r = part_le n a f l in omega (arith, r))
    (λ l. let e : a ≡ n = omega (arith, u, l) in let s : f a ≡ f n = ap f e in omega (arith, s))
    (cases_lt a n)

-- if all but one are the same
pub total_change : (n a : ℕ) (f g : ℕ → ℕ) → a < n → ((b : ℕ) → b ≢ a → g b ≡ f b) → total n g + f a ≡ total n f + g a
total_change zero a f g u h = elim (let w : ⊥ = omega arith in w) [ ]
total_change (suc n) a f g u h = ⊎_elim
    (λ l. let r = total_change n a f g l h in let x = h n (λ e. omega (arith, e, l)) in omega (arith, r, x))
    (λ l.
    let e : a ≡ n = omega (arith, u, l) in
    let s : f a ≡ f n = ap f e in
    let t : g a ≡ g n = ap g e in
    let r = total_same n g f (λ b v. h b (λ z. omega (arith, z, e, v))) in
    omega (arith, r, s, t))
    (cases_lt a n)

-- ---- of one number, and of a range of numbers

abbrev pub at_one : (ℕ → ℕ) → ℕ → ℕ → ℕ
at_one f a c = cond (nat_eq a c) (f c) 0

pub one_le : (n a : ℕ) (f : ℕ → ℕ) → total n (at_one f a) ≤ f a
one_le zero a f = omega arith
one_le (suc n) a f = go (nat_eq a n) refl (one_le n a f)
  where
    none_below : (m : ℕ) → m ≤ a → total m (at_one f a) ≡ 0
    none_below m l = total_same m (at_one f a) (λ b. 0) (λ b u. let e : nat_eq a b ≡ false = ne_eqb a b (λ z. omega
        (arith, z, l, u)) in ap (λ z. cond z (f b) 0) e) ∙ total_zero m

    go : (z : Bool) → nat_eq a n ≡ z → total n (at_one f a) ≤ f a → total n (at_one f a) + cond z (f n) 0 ≤ f a
    go true e below = let same : a ≡ n = eqb-true a n e in let r = none_below n (omega (arith, same)) in let s : f a ≡ f n = ap f same in omega (arith, r, s)
    go false e below = omega (arith, below)

pub one_here : (a : ℕ) (f : ℕ → ℕ) → at_one f a a ≡ f a
one_here a f = ap (λ z. cond z (f a) 0) (eq-eqb a a refl)

abbrev pub at_range : (ℕ → ℕ) → (first count : ℕ) → ℕ → ℕ
at_range f first zero c = 0
at_range f first (suc n) c = at_one f first c + at_range f (first + 1) n c

pub range_le : (n : ℕ) (f : ℕ → ℕ) (first count : ℕ) → total n (at_range f first count) ≤ sum_of_arms f first count
range_le n f first zero = let r = total_zero n in omega (arith, r)
range_le n f first (suc count) =
    let s = total_add n (at_one f first) (at_range f (first + 1) count) in
    let r = range_le n f (first + 1) count in
    let o = one_le n first f in
    omega (arith, s, r, o)

pub in_range : (f : ℕ → ℕ) (first count c : ℕ) → IsAmong first count c → f c ≤ at_range f first count c
in_range f first zero c u = elim (let w : ⊥ = let x = u.0 in let y = u.1 in omega (arith, x, y) in w) [ ]
in_range f first (suc count) c u =
    let x = u.0 in
    let y = u.1 in
    ⊎_elim
    (λ l. let r = in_range f (first + 1) count c (omega (arith, l), omega (arith, y)) in omega (arith, r))
    (λ l. let e : first ≡ c = omega (arith, x, l) in let o = subst (λ k. at_one f k c ≡ f c) (sym e) (one_here c f) in omega (arith, o))
    (cases_lt first c)
