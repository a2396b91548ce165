-- The parts of the first statements of a list, or of the first arms of a parbegin: one more at a time.
use Rattle.std.proofs.Common.{◌≡◌, ◌∙◌, ℕ, zero, suc, ◌+◌, ◌<◌, List, [], ◌∷◌, ◌++◌, Vec, length, take, get_or, arith}
use Rattle.std.proofs.Common.{ap, sym, add-one, append-nil}
use Rattle.std.proofs.lemmas.List.{append_assoc}
use Rattle.pb_names.specs.View.{stmt_view, block_view, arm_view, arms_view}
use Rattle.pb_names.specs.declared.resolved.Stmt.{Stmt}
use Rattle.pb_plan.specs.Parts.{arms_parts, heavier, parts, stmt_parts}
use Rattle.pb_plan.specs.declared.part.Part.{Part}
use Rattle.pb_plan.proofs.Weights.{heavier-assoc, beside_none, stmt_none}

parts_suc : {A : Type 0} (r : ℕ) (ss : List (Stmt A)) (i : ℕ) (d : Stmt A) → i < length ss
    → parts r (block_view (take (suc i) ss))
    ≡ heavier (parts r (block_view (take i ss))) (stmt_parts r (stmt_view (get_or ss i d)))
parts_suc r [] i d h = absurd (omega arith)
parts_suc r (s ∷ ss) zero d h = beside_none (stmt_parts r (stmt_view s)) (stmt_none r (stmt_view s))
parts_suc r (s ∷ ss) (suc i) d h =
    ap (heavier (stmt_parts r (stmt_view s))) (parts_suc r ss i d (omega arith))
    ∙ sym (heavier-assoc (stmt_parts r (stmt_view s)) (parts r (block_view (take i ss)))
    (stmt_parts r (stmt_view (get_or ss i d))))

arms_parts_suc : {A : Type 0} (r : ℕ) (arms : List (Vec (Stmt A) A)) (i : ℕ) (d : Vec (Stmt A) A) → i < length arms
    → arms_parts r (arms_view (take (suc i) arms))
    ≡ arms_parts r (arms_view (take i arms)) ++ parts r (block_view (get_or arms i d).items)
unfolding arm_view
arms_parts_suc r [] i d h = absurd (omega arith)
arms_parts_suc r (a ∷ arms) zero d h = append-nil (parts r (block_view a.items))
arms_parts_suc r (a ∷ arms) (suc i) d h =
    ap (λ (l : List Part). parts r (block_view a.items) ++ l) (arms_parts_suc r arms i d (omega arith))
    ∙ sym (append_assoc (parts r (block_view a.items)) (arms_parts r (arms_view (take i arms)))
    (parts r (block_view (get_or arms i d).items)))

-- the same at an element that a loop has read

pub parts_more : {A : Type 0} (r : ℕ) (ss : List (Stmt A)) (i : ℕ) (s : Stmt A) → s ≡ get_or ss i s → i < length ss
    → parts r (block_view (take (i + 1) ss)) ≡ heavier (parts r (block_view (take i ss))) (stmt_parts r (stmt_view s))
parts_more r ss i s here h =
    rw add-one (parts_suc r ss i s h
    ∙ ap (λ y. heavier (parts r (block_view (take i ss))) (stmt_parts r (stmt_view y))) (sym here))

pub arms_parts_more : {A : Type 0} (r : ℕ) (arms : List (Vec (Stmt A) A)) (i : ℕ) (a : Vec (Stmt A) A)
    → a ≡ get_or arms i a → i < length arms
    → arms_parts r (arms_view (take (i + 1) arms))
    ≡ arms_parts r (arms_view (take i arms)) ++ parts r (block_view a.items)
unfolding arm_view
arms_parts_more r arms i a here h =
    rw add-one (arms_parts_suc r arms i a h
    ∙ ap (λ y. arms_parts r (arms_view (take i arms)) ++ parts r (block_view y.items)) (sym here))
