-- What is wrong in lists of statements and arms, one more element at a time.
use Rattle.std.proofs.Common.{◌≡◌, ℕ, zero, suc, ◌+◌, ◌<◌, List, [], ◌∷◌, Vec, length, take, get_or}
use Rattle.std.proofs.Common.{Option, ◌⊎◌, inl, inr, arith, add-one, subst}
use Rattle.pb_tree.specs.View.{stmt_view, stmts_view, arm_view, arms_view}
use Rattle.pb_tree.specs.declared.stmt.Stmt.{Stmt}
use Rattle.pb_names.specs.Causes.{InStmt, InStmts, InArms}
use Rattle.pb_names.specs.Program.{Name}
use Rattle.pb_names.specs.Search.{IsFirst, earlier_of}
use Rattle.pb_names.specs.declared.causes.Cause.{Cause}
use Rattle.pb_names.proofs.FirstCauses.{first_either, first_same}

-- ---- lists of statements

stmts_to : {A : Type 0} (is rs : List Name) (ss : List (Stmt A)) (i : ℕ) (d : Stmt A) (c : Cause) → i < length ss
    → InStmts is rs (stmts_view (take i ss)) c ⊎ InStmt is rs (stmt_view (get_or ss i d)) c
    → InStmts is rs (stmts_view (take (suc i) ss)) c
stmts_to is rs [] i d c h causes = absurd (omega arith)
stmts_to is rs (s ∷ ss) zero d c h (inl none) = absurd none
stmts_to is rs (s ∷ ss) zero d c h (inr here) = inl here
stmts_to is rs (s ∷ ss) (suc i) d c h (inl (inl first)) = inl first
stmts_to is rs (s ∷ ss) (suc i) d c h (inl (inr later)) = inr (stmts_to is rs ss i d c (omega arith) (inl later))
stmts_to is rs (s ∷ ss) (suc i) d c h (inr here) = inr (stmts_to is rs ss i d c (omega arith) (inr here))

stmts_from : {A : Type 0} (is rs : List Name) (ss : List (Stmt A)) (i : ℕ) (d : Stmt A) (c : Cause) → i < length ss
    → InStmts is rs (stmts_view (take (suc i) ss)) c
    → InStmts is rs (stmts_view (take i ss)) c ⊎ InStmt is rs (stmt_view (get_or ss i d)) c
stmts_from is rs [] i d c h causes = absurd (omega arith)
stmts_from is rs (s ∷ ss) zero d c h (inl here) = inr here
stmts_from is rs (s ∷ ss) zero d c h (inr none) = absurd none
stmts_from is rs (s ∷ ss) (suc i) d c h (inl first) = inl (inl first)
stmts_from is rs (s ∷ ss) (suc i) d c h (inr later) =
    elim (stmts_from is rs ss i d c (omega arith) later) [ inl before ↦ inl (inr before) | inr here ↦ inr here ]

-- one more statement, as a loop reads it
pub stmts_more : {A : Type 0} (is rs : List Name) (ss : List (Stmt A)) (i : ℕ) (s : Stmt A) (a b : Option Cause)
    → i < length ss → s ≡ get_or ss i s
    → IsFirst (InStmts is rs (stmts_view (take i ss))) a → IsFirst (InStmt is rs (stmt_view s)) b
    → IsFirst (InStmts is rs (stmts_view (take (i + 1) ss))) (earlier_of a b)
stmts_more {A} is rs ss i s a b h here before at_i =
    rw add-one (first_same (InStmts is rs (stmts_view (take (suc i) ss)))
    (λ c. stmts_to is rs ss i s c h) (λ c. stmts_from is rs ss i s c h)
    (first_either a b before (subst (λ y. IsFirst (InStmt is rs (stmt_view y)) b) here at_i)))

-- ---- arms

arms_to : {A : Type 0} (is rs : List Name) (arms : List (Vec (Stmt A) A)) (i : ℕ) (d : Vec (Stmt A) A) (c : Cause)
    → i < length arms
    → InArms is rs (arms_view (take i arms)) c ⊎ InStmts is rs (stmts_view (get_or arms i d).items) c
    → InArms is rs (arms_view (take (suc i) arms)) c
unfolding arm_view
arms_to is rs [] i d c h causes = absurd (omega arith)
arms_to is rs (a ∷ arms) zero d c h (inl none) = absurd none
arms_to is rs (a ∷ arms) zero d c h (inr here) = inl here
arms_to is rs (a ∷ arms) (suc i) d c h (inl (inl first)) = inl first
arms_to is rs (a ∷ arms) (suc i) d c h (inl (inr later)) = inr (arms_to is rs arms i d c (omega arith) (inl later))
arms_to is rs (a ∷ arms) (suc i) d c h (inr here) = inr (arms_to is rs arms i d c (omega arith) (inr here))

arms_from : {A : Type 0} (is rs : List Name) (arms : List (Vec (Stmt A) A)) (i : ℕ) (d : Vec (Stmt A) A) (c : Cause)
    → i < length arms → InArms is rs (arms_view (take (suc i) arms)) c
    → InArms is rs (arms_view (take i arms)) c ⊎ InStmts is rs (stmts_view (get_or arms i d).items) c
unfolding arm_view
arms_from is rs [] i d c h causes = absurd (omega arith)
arms_from is rs (a ∷ arms) zero d c h (inl here) = inr here
arms_from is rs (a ∷ arms) zero d c h (inr none) = absurd none
arms_from is rs (a ∷ arms) (suc i) d c h (inl first) = inl (inl first)
arms_from is rs (a ∷ arms) (suc i) d c h (inr later) =
    elim (arms_from is rs arms i d c (omega arith) later) [ inl before ↦ inl (inr before) | inr here ↦ inr here ]

-- one more arm, as a loop reads it
pub arms_more : {A : Type 0} (is rs : List Name) (arms : List (Vec (Stmt A) A)) (i : ℕ) (arm : Vec (Stmt A) A)
    (a b : Option Cause) → i < length arms → arm ≡ get_or arms i arm
    → IsFirst (InArms is rs (arms_view (take i arms))) a → IsFirst (InStmts is rs (stmts_view arm.items)) b
    → IsFirst (InArms is rs (arms_view (take (i + 1) arms))) (earlier_of a b)
arms_more is rs arms i arm a b h here before at_i =
    rw add-one (first_same (InArms is rs (arms_view (take (suc i) arms)))
    (λ c. arms_to is rs arms i arm c h) (λ c. arms_from is rs arms i arm c h)
    (first_either a b before (subst (λ y. IsFirst (InStmts is rs (stmts_view y.items)) b) here at_i)))
