-- Several threads at once, and what an effect takes and gives.
use Rattle.std.proofs.Common.{◌≡◌, ◌⊎◌, inl, inr, ⊎_elim, ℕ, zero, suc, ◌+◌, ◌<◌, ◌≤◌, ℤ, List, [], ◌∷◌, length, get_or}
use Rattle.std.proofs.Common.{set, refl, ◌∙◌, subst, arith, length-set, get_or-set_same, get_or-set_other}
use Rattle.std.proofs.lemmas.Bool.{cases_lt}
use Rattle.pb_base.specs.Bundle.{amount_in}
use Rattle.pb_base.specs.Steppers.{Effect, Silent, Prints, Takes, Returns, Faults, Finishes}
use Rattle.pb_code.specs.Code.{Thread, Idle, Live, thread, launch, dismiss}

-- how much of a resource an effect takes, and how much it gives back
abbrev pub taken : ℕ → Effect → ℕ
taken r Silent = 0
taken r (Prints v) = 0
taken r (Takes bundle) = amount_in bundle r
taken r (Returns bundle) = 0
taken r (Faults kind) = 0
taken r Finishes = 0

abbrev pub given : ℕ → Effect → ℕ
given r Silent = 0
given r (Prints v) = 0
given r (Takes bundle) = 0
given r (Returns bundle) = amount_in bundle r
given r (Faults kind) = 0
given r Finishes = 0

-- ---- several threads at once

pub thread_past : (threads : List Thread) (a : ℕ) → length threads ≤ a → thread threads a ≡ Idle
thread_past [] a h = refl
thread_past (t ∷ threads) zero h = elim (let w : ⊥ = omega arith in w) [ ]
thread_past (t ∷ threads) (suc a) h = thread_past threads a (omega arith)

-- an arm that is live is one of the threads
pub live_within : (threads : List Thread) (a place : ℕ) (stack : List ℤ) → thread threads a ≡ Live place stack → a < length threads
live_within [] a place stack h = cc
live_within (t ∷ threads) zero place stack h = omega arith
live_within (t ∷ threads) (suc a) place stack h =
    let lt : a < length threads = live_within threads a place stack h in
    omega arith

pub length-launch : (entries : List ℕ) (threads : List Thread) (first n : ℕ) → length (launch entries threads first n) ≡ length threads
length-launch entries threads first zero = refl
length-launch entries threads first (suc n) = length-launch entries (set threads first (Live (get_or entries first 0)
    [])) (first + 1) n ∙ length-set threads first _

pub launch_out : (entries : List ℕ) (threads : List Thread) (first n b : ℕ) → (b < first) ⊎ (first + n ≤ b) → thread
    (launch entries threads first n) b ≡ thread threads b
launch_out entries threads first zero b h = refl
launch_out entries threads first (suc n) b h =
    launch_out entries (set threads first (Live (get_or entries first 0) [])) (first + 1) n b (⊎_elim (λ l. inl (omega arith)) (λ l. inr (omega arith)) h)
    ∙ get_or-set_other threads first b _ Idle (λ e. ⊎_elim (λ l. omega arith) (λ l. omega arith) h)

pub launch_in : (entries : List ℕ) (threads : List Thread) (first n b : ℕ) → first ≤ b → b < first + n → b < length
    threads → thread (launch entries threads first n) b ≡ Live (get_or entries b 0) []
launch_in entries threads first zero b l u within = elim (let w : ⊥ = omega arith in w) [ ]
launch_in entries threads first (suc n) b l u within = go (cases_lt first b)
    (λ q. launch_in entries (set threads first (Live (get_or entries first 0) [])) (first + 1) n b (omega arith)
    (omega arith) (omega (arith, length-set threads first (Live (get_or entries first 0) []))))
  where
    go : (first < b) ⊎ (b ≤ first) → (first < b → thread (launch entries threads first (suc n)) b ≡ Live (get_or
        entries b 0) []) → thread (launch entries threads first (suc n)) b ≡ Live (get_or entries b 0) []
    go (inl q) later = later q
    go (inr q) later =
        let e : first ≡ b = omega arith in
        launch_out entries (set threads first (Live (get_or entries first 0) [])) (first + 1) n b (inl (omega arith))
        ∙ subst (λ k. thread (set threads first (Live (get_or entries first 0) [])) k ≡ Live (get_or entries k 0) [])
        e (get_or-set_same threads first _ Idle (omega arith))

pub length-dismiss : (threads : List Thread) (first n : ℕ) → length (dismiss threads first n) ≡ length threads
length-dismiss threads first zero = refl
length-dismiss threads first (suc n) = length-dismiss (set threads first Idle) (first + 1) n ∙ length-set threads first _

pub dismiss_out : (threads : List Thread) (first n b : ℕ) → (b < first) ⊎ (first + n ≤ b) → thread (dismiss threads first n) b ≡ thread threads b
dismiss_out threads first zero b h = refl
dismiss_out threads first (suc n) b h =
    dismiss_out (set threads first Idle) (first + 1) n b (⊎_elim (λ l. inl (omega arith)) (λ l. inr (omega arith)) h)
    ∙ get_or-set_other threads first b _ Idle (λ e. ⊎_elim (λ l. omega arith) (λ l. omega arith) h)

pub dismiss_in : (threads : List Thread) (first n b : ℕ) → first ≤ b → b < first + n → b < length threads → thread (dismiss threads first n) b ≡ Idle
dismiss_in threads first zero b l u within = elim (let w : ⊥ = omega arith in w) [ ]
dismiss_in threads first (suc n) b l u within = go (cases_lt first b)
    (λ q. dismiss_in (set threads first Idle) (first + 1) n b (omega arith) (omega arith) (omega (arith, length-set threads first Idle)))
  where
    go : (first < b) ⊎ (b ≤ first) → (first < b → thread (dismiss threads first (suc n)) b ≡ Idle) → thread (dismiss threads first (suc n)) b ≡ Idle
    go (inl q) later = later q
    go (inr q) later =
        let e : first ≡ b = omega arith in
        dismiss_out (set threads first Idle) (first + 1) n b (inl (omega arith))
        ∙ subst (λ k. thread (set threads first Idle) k ≡ Idle) e (get_or-set_same threads first _ Idle (omega arith))
