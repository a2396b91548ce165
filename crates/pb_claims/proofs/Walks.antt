-- The most that the first statements of a list, or the first arms of a parbegin, hold: one more at a time.
use Rattle.std.proofs.Common.{◌≡◌, ℕ, zero, suc, ◌+◌, ◌<◌, max, List, [], ◌∷◌, Vec, length, take, get_or, arith}
use Rattle.std.proofs.Common.{ap, add-one}
use Rattle.pb_names.specs.Claims.{stmt_peak, peak, arms_peak}
use Rattle.pb_names.specs.View.{stmt_view, block_view, arm_view, arms_view}
use Rattle.pb_names.specs.declared.resolved.Stmt.{Stmt}

peak_suc : {A : Type 0} (r : ℕ) (ss : List (Stmt A)) (i : ℕ) (d : Stmt A) → i < length ss
    → peak r (block_view (take (suc i) ss))
    ≡ max (peak r (block_view (take i ss))) (stmt_peak r (stmt_view (get_or ss i d)))
peak_suc r [] i d h = absurd (omega arith)
peak_suc r (s ∷ ss) zero d h = omega arith
peak_suc r (s ∷ ss) (suc i) d h = omega (arith, peak_suc r ss i d (omega arith))

arms_peak_suc : {A : Type 0} (r : ℕ) (arms : List (Vec (Stmt A) A)) (i : ℕ) (d : Vec (Stmt A) A) → i < length arms
    → arms_peak r (arms_view (take (suc i) arms))
    ≡ arms_peak r (arms_view (take i arms)) + peak r (block_view (get_or arms i d).items)
unfolding arm_view
arms_peak_suc r [] i d h = absurd (omega arith)
arms_peak_suc r (a ∷ arms) zero d h = omega arith
arms_peak_suc r (a ∷ arms) (suc i) d h = omega (arith, arms_peak_suc r arms i d (omega arith))

-- the same at an element that a loop has read

pub peak_more : {A : Type 0} (r : ℕ) (ss : List (Stmt A)) (i : ℕ) (s : Stmt A) → s ≡ get_or ss i s → i < length ss
    → peak r (block_view (take (i + 1) ss)) ≡ max (peak r (block_view (take i ss))) (stmt_peak r (stmt_view s))
peak_more r ss i s here h =
    rw add-one (omega (arith, peak_suc r ss i s h, ap (λ y. stmt_peak r (stmt_view y)) here))

pub arms_peak_more : {A : Type 0} (r : ℕ) (arms : List (Vec (Stmt A) A)) (i : ℕ) (a : Vec (Stmt A) A)
    → a ≡ get_or arms i a → i < length arms
    → arms_peak r (arms_view (take (i + 1) arms))
    ≡ arms_peak r (arms_view (take i arms)) + peak r (block_view a.items)
unfolding arm_view
arms_peak_more r arms i a here h =
    rw add-one (omega (arith, arms_peak_suc r arms i a h, ap (λ y. peak r (block_view y.items)) here))
