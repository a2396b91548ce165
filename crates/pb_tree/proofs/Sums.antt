-- Counts over the first elements of a list, one more at a time.
use Rattle.std.proofs.Common.{◌≡◌, ℕ, zero, suc, ◌+◌, ◌<◌, max, List, [], ◌∷◌, Vec, map, length, take, get_or}
use Rattle.std.proofs.Common.{arith, ap, add-one}
use Rattle.pb_tree.specs.Measure.{stmt_nodes, stmts_nodes, arms_nodes, processes_nodes, stmt_height}
use Rattle.pb_tree.specs.Measure.{stmts_height, arms_height, processes_height}
use Rattle.pb_tree.specs.View.{stmt_view, stmts_view, arm_view, arms_view, process_view}
use Rattle.pb_tree.specs.declared.program.Process.{Process}
use Rattle.pb_tree.specs.declared.stmt.Stmt.{Stmt}

nodes_suc : {A : Type 0} (ss : List (Stmt A)) (i : ℕ) (d : Stmt A) → i < length ss
    → stmts_nodes (stmts_view (take (suc i) ss))
    ≡ stmts_nodes (stmts_view (take i ss)) + stmt_nodes (stmt_view (get_or ss i d))
nodes_suc [] i d h = absurd (omega arith)
nodes_suc (s ∷ ss) zero d h = omega arith
nodes_suc (s ∷ ss) (suc i) d h = omega (arith, nodes_suc ss i d (omega arith))

arms_nodes_suc : {A : Type 0} (arms : List (Vec (Stmt A) A)) (i : ℕ) (d : Vec (Stmt A) A) → i < length arms
    → arms_nodes (arms_view (take (suc i) arms))
    ≡ arms_nodes (arms_view (take i arms)) + stmts_nodes (stmts_view (get_or arms i d).items)
unfolding arm_view
arms_nodes_suc [] i d h = absurd (omega arith)
arms_nodes_suc (a ∷ arms) zero d h = omega arith
arms_nodes_suc (a ∷ arms) (suc i) d h = omega (arith, arms_nodes_suc arms i d (omega arith))

height_suc : {A : Type 0} (ss : List (Stmt A)) (i : ℕ) (d : Stmt A) → i < length ss
    → stmts_height (stmts_view (take (suc i) ss))
    ≡ max (stmts_height (stmts_view (take i ss))) (stmt_height (stmt_view (get_or ss i d)))
height_suc [] i d h = absurd (omega arith)
height_suc (s ∷ ss) zero d h = omega arith
height_suc (s ∷ ss) (suc i) d h = omega (arith, height_suc ss i d (omega arith))

arms_height_suc : {A : Type 0} (arms : List (Vec (Stmt A) A)) (i : ℕ) (d : Vec (Stmt A) A)
    → i < length arms
    → arms_height (arms_view (take (suc i) arms))
    ≡ max (arms_height (arms_view (take i arms))) (stmts_height (stmts_view (get_or arms i d).items))
unfolding arm_view
arms_height_suc [] i d h = absurd (omega arith)
arms_height_suc (a ∷ arms) zero d h = omega arith
arms_height_suc (a ∷ arms) (suc i) d h = omega (arith, arms_height_suc arms i d (omega arith))

process_nodes_suc : {A : Type 0} (ps : List (Process A)) (i : ℕ) (d : Process A) → i < length ps
    → processes_nodes (map process_view (take (suc i) ps))
    ≡ processes_nodes (map process_view (take i ps))
    + (1 + stmts_nodes (stmts_view (get_or ps i d).body.items))
process_nodes_suc [] i d h = absurd (omega arith)
process_nodes_suc (p ∷ ps) zero d h = omega arith
process_nodes_suc (p ∷ ps) (suc i) d h = omega (arith, process_nodes_suc ps i d (omega arith))

process_height_suc : {A : Type 0} (ps : List (Process A)) (i : ℕ) (d : Process A) → i < length ps
    → processes_height (map process_view (take (suc i) ps))
    ≡ max (processes_height (map process_view (take i ps)))
    (stmts_height (stmts_view (get_or ps i d).body.items))
process_height_suc [] i d h = absurd (omega arith)
process_height_suc (p ∷ ps) zero d h = omega arith
process_height_suc (p ∷ ps) (suc i) d h = omega (arith, process_height_suc ps i d (omega arith))

-- the same at an element that a loop has read

pub nodes_more : {A : Type 0} (ss : List (Stmt A)) (i : ℕ) (s : Stmt A) → s ≡ get_or ss i s → i < length ss
    → stmts_nodes (stmts_view (take (i + 1) ss))
    ≡ stmts_nodes (stmts_view (take i ss)) + stmt_nodes (stmt_view s)
nodes_more ss i s here h =
    rw add-one (omega (arith, nodes_suc ss i s h, ap (λ y. stmt_nodes (stmt_view y)) here))

pub arms_nodes_more : {A : Type 0} (arms : List (Vec (Stmt A) A)) (i : ℕ) (a : Vec (Stmt A) A)
    → a ≡ get_or arms i a → i < length arms
    → arms_nodes (arms_view (take (i + 1) arms))
    ≡ arms_nodes (arms_view (take i arms)) + stmts_nodes (stmts_view a.items)
unfolding arm_view
arms_nodes_more arms i a here h =
    rw add-one (omega (arith, arms_nodes_suc arms i a h, ap (λ y. stmts_nodes (stmts_view y.items)) here))

pub height_more : {A : Type 0} (ss : List (Stmt A)) (i : ℕ) (s : Stmt A) → s ≡ get_or ss i s → i < length ss
    → stmts_height (stmts_view (take (i + 1) ss))
    ≡ max (stmts_height (stmts_view (take i ss))) (stmt_height (stmt_view s))
height_more ss i s here h =
    rw add-one (omega (arith, height_suc ss i s h, ap (λ y. stmt_height (stmt_view y)) here))

pub arms_height_more : {A : Type 0} (arms : List (Vec (Stmt A) A)) (i : ℕ) (a : Vec (Stmt A) A)
    → a ≡ get_or arms i a → i < length arms
    → arms_height (arms_view (take (i + 1) arms))
    ≡ max (arms_height (arms_view (take i arms))) (stmts_height (stmts_view a.items))
unfolding arm_view
arms_height_more arms i a here h =
    rw add-one (omega (arith, arms_height_suc arms i a h, ap (λ y. stmts_height (stmts_view y.items)) here))

pub process_nodes_more : {A : Type 0} (ps : List (Process A)) (i : ℕ) (p : Process A)
    → p ≡ get_or ps i p → i < length ps
    → processes_nodes (map process_view (take (i + 1) ps))
    ≡ processes_nodes (map process_view (take i ps)) + (1 + stmts_nodes (stmts_view p.body.items))
process_nodes_more ps i p here h =
    let nodes = ap (λ y. stmts_nodes (stmts_view y.body.items)) here in
    rw add-one (omega (arith, process_nodes_suc ps i p h, nodes))

pub process_height_more : {A : Type 0} (ps : List (Process A)) (i : ℕ) (p : Process A)
    → p ≡ get_or ps i p → i < length ps
    → processes_height (map process_view (take (i + 1) ps))
    ≡ max (processes_height (map process_view (take i ps))) (stmts_height (stmts_view p.body.items))
process_height_more ps i p here h =
    let height = ap (λ y. stmts_height (stmts_view y.body.items)) here in
    rw add-one (omega (arith, process_height_suc ps i p h, height))
