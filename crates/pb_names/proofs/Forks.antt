-- Parbegins in lists of statements and arms, one more element at a time.
use Rattle.std.proofs.Common.{◌≡◌, ℕ, zero, suc, ◌+◌, ◌<◌, max, List, [], ◌∷◌, Vec, map, length, take, get_or}
use Rattle.std.proofs.Common.{arith, ap, add-one, refl}
use Rattle.pb_tree.specs.Syntax.{ProcessSyntax}
use Rattle.pb_tree.specs.View.{stmt_view, stmts_view, arm_view, arms_view, process_view}
use Rattle.pb_tree.specs.declared.program.Process.{Process}
use Rattle.pb_tree.specs.declared.stmt.Stmt.{Stmt}
use Rattle.pb_names.specs.Limits.{width, most, widest_in_stmt, widest_in, widest_in_arms}
use Rattle.pb_names.specs.Limits.{inner_arms_of_stmt, inner_arms, inner_arms_of_arms}

-- a parbegin has the arms of its list
pub width-view : {A : Type 0} (arms : List (Vec (Stmt A) A)) → width (arms_view arms) ≡ length arms
width-view [] = refl
width-view (arm ∷ arms) = ap suc (width-view arms)

widest_suc : {A : Type 0} (ss : List (Stmt A)) (i : ℕ) (d : Stmt A) → i < length ss
    → widest_in (stmts_view (take (suc i) ss))
    ≡ max (widest_in (stmts_view (take i ss))) (widest_in_stmt (stmt_view (get_or ss i d)))
widest_suc [] i d h = absurd (omega arith)
widest_suc (s ∷ ss) zero d h = omega arith
widest_suc (s ∷ ss) (suc i) d h = omega (arith, widest_suc ss i d (omega arith))

inner_suc : {A : Type 0} (ss : List (Stmt A)) (i : ℕ) (d : Stmt A) → i < length ss
    → inner_arms (stmts_view (take (suc i) ss))
    ≡ inner_arms (stmts_view (take i ss)) + inner_arms_of_stmt (stmt_view (get_or ss i d))
inner_suc [] i d h = absurd (omega arith)
inner_suc (s ∷ ss) zero d h = omega arith
inner_suc (s ∷ ss) (suc i) d h = omega (arith, inner_suc ss i d (omega arith))

arms_widest_suc : {A : Type 0} (arms : List (Vec (Stmt A) A)) (i : ℕ) (d : Vec (Stmt A) A) → i < length arms
    → widest_in_arms (arms_view (take (suc i) arms))
    ≡ max (widest_in_arms (arms_view (take i arms))) (widest_in (stmts_view (get_or arms i d).items))
unfolding arm_view
arms_widest_suc [] i d h = absurd (omega arith)
arms_widest_suc (a ∷ arms) zero d h = omega arith
arms_widest_suc (a ∷ arms) (suc i) d h = omega (arith, arms_widest_suc arms i d (omega arith))

arms_inner_suc : {A : Type 0} (arms : List (Vec (Stmt A) A)) (i : ℕ) (d : Vec (Stmt A) A) → i < length arms
    → inner_arms_of_arms (arms_view (take (suc i) arms))
    ≡ inner_arms_of_arms (arms_view (take i arms)) + inner_arms (stmts_view (get_or arms i d).items)
unfolding arm_view
arms_inner_suc [] i d h = absurd (omega arith)
arms_inner_suc (a ∷ arms) zero d h = omega arith
arms_inner_suc (a ∷ arms) (suc i) d h = omega (arith, arms_inner_suc arms i d (omega arith))

-- the same at an element that a loop has read

pub widest_more : {A : Type 0} (ss : List (Stmt A)) (i : ℕ) (s : Stmt A) → s ≡ get_or ss i s → i < length ss
    → widest_in (stmts_view (take (i + 1) ss))
    ≡ max (widest_in (stmts_view (take i ss))) (widest_in_stmt (stmt_view s))
widest_more ss i s here h =
    rw add-one (omega (arith, widest_suc ss i s h, ap (λ y. widest_in_stmt (stmt_view y)) here))

pub inner_more : {A : Type 0} (ss : List (Stmt A)) (i : ℕ) (s : Stmt A) → s ≡ get_or ss i s → i < length ss
    → inner_arms (stmts_view (take (i + 1) ss))
    ≡ inner_arms (stmts_view (take i ss)) + inner_arms_of_stmt (stmt_view s)
inner_more ss i s here h =
    rw add-one (omega (arith, inner_suc ss i s h, ap (λ y. inner_arms_of_stmt (stmt_view y)) here))

pub arms_widest_more : {A : Type 0} (arms : List (Vec (Stmt A) A)) (i : ℕ) (a : Vec (Stmt A) A)
    → a ≡ get_or arms i a → i < length arms
    → widest_in_arms (arms_view (take (i + 1) arms))
    ≡ max (widest_in_arms (arms_view (take i arms))) (widest_in (stmts_view a.items))
unfolding arm_view
arms_widest_more arms i a here h =
    rw add-one (omega (arith, arms_widest_suc arms i a h, ap (λ y. widest_in (stmts_view y.items)) here))

pub arms_inner_more : {A : Type 0} (arms : List (Vec (Stmt A) A)) (i : ℕ) (a : Vec (Stmt A) A)
    → a ≡ get_or arms i a → i < length arms
    → inner_arms_of_arms (arms_view (take (i + 1) arms))
    ≡ inner_arms_of_arms (arms_view (take i arms)) + inner_arms (stmts_view a.items)
unfolding arm_view
arms_inner_more arms i a here h =
    rw add-one (omega (arith, arms_inner_suc arms i a h, ap (λ y. inner_arms (stmts_view y.items)) here))

-- ---- processes

most_suc : {A : Type 0} (f : ProcessSyntax → ℕ) (ps : List (Process A)) (i : ℕ) (d : Process A) → i < length ps
    → most f (map process_view (take (suc i) ps))
    ≡ max (most f (map process_view (take i ps))) (f (process_view (get_or ps i d)))
most_suc f [] i d h = absurd (omega arith)
most_suc f (p ∷ ps) zero d h = omega arith
most_suc f (p ∷ ps) (suc i) d h = omega (arith, most_suc f ps i d (omega arith))

pub most_more : {A : Type 0} (f : ProcessSyntax → ℕ) (ps : List (Process A)) (i : ℕ) (p : Process A)
    → p ≡ get_or ps i p → i < length ps
    → most f (map process_view (take (i + 1) ps)) ≡ max (most f (map process_view (take i ps))) (f (process_view p))
most_more f ps i p here h = rw add-one (omega (arith, most_suc f ps i p h, ap (λ y. f (process_view y)) here))
