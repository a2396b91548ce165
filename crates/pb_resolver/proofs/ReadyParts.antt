-- The parts of what is ready to be numbered are ready.
use Rattle.std.proofs.Common.{◌≡◌, ℕ, zero, suc, ◌+◌, ◌<◌, List, [], ◌∷◌, Vec, length, take, get_or, arith, ap, sym}
use Rattle.std.proofs.Common.{subst}
use Rattle.pb_tree.specs.Syntax.{ExprSyntax, StmtSyntax, StmtsSyntax, stmt_then, ArmsSyntax, arm_then}
use Rattle.pb_tree.specs.Syntax.{DemandSyntax, if_else, while_do, hold, parbegin}
use Rattle.pb_tree.specs.Measure.{stmt_nodes, stmts_nodes}
use Rattle.pb_tree.specs.View.{stmt_view, stmts_view, arm_view, arms_view}
use Rattle.pb_tree.specs.declared.stmt.Stmt.{Stmt}
use Rattle.pb_names.specs.Limits.{width, inner_arms_of_stmt, inner_arms, inner_arms_of_arms}
use Rattle.pb_names.specs.Program.{Name}
use Rattle.pb_names.specs.Ready.{IsReadyStmt, AreNumberable, AreReadyArms}
use Rattle.pb_names.proofs.FirstCauses.{free_left, free_right}

pub ready_true : (is rs : List Name) (n line : ℕ) (e : ExprSyntax) (a b : StmtsSyntax)
    → IsReadyStmt is rs n (if_else line e a b) → AreNumberable is rs n a
ready_true is rs n line e a b r = record {
  free = free_left (free_right r.free);
  complete = r.complete.0;
  narrow = let h = r.narrow in omega arith;
  room = let h = r.room in omega arith;
}

pub ready_false : (is rs : List Name) (n m line : ℕ) (e : ExprSyntax) (a b : StmtsSyntax)
    → m ≡ n + inner_arms a → IsReadyStmt is rs n (if_else line e a b) → AreNumberable is rs m b
ready_false is rs n m line e a b after r = record {
  free = free_right (free_right r.free);
  complete = r.complete.1;
  narrow = let h = r.narrow in omega arith;
  room = let h = r.room in omega arith;
}

pub ready_while : (is rs : List Name) (n line : ℕ) (e : ExprSyntax) (body : StmtsSyntax)
    → IsReadyStmt is rs n (while_do line e body) → AreNumberable is rs n body
ready_while is rs n line e body r = record {
  free = free_right r.free;
  complete = r.complete;
  narrow = r.narrow;
  room = r.room;
}

pub ready_hold : (is rs : List Name) (n line : ℕ) (demands : List DemandSyntax) (body : StmtsSyntax)
    → IsReadyStmt is rs n (hold line demands body) → AreNumberable is rs n body
ready_hold is rs n line demands body r = record {
  free = free_right r.free;
  complete = r.complete.1;
  narrow = r.narrow;
  room = r.room;
}

pub ready_arms : (is rs : List Name) (n m line : ℕ) (arms : ArmsSyntax)
    → m ≡ n + width arms → IsReadyStmt is rs n (parbegin line arms) → AreReadyArms is rs m arms
ready_arms is rs n m line arms after r = record {
  free = r.free;
  complete = r.complete.1;
  narrow = let h = r.narrow in omega arith;
  room = let h = r.room in omega arith;
}

-- ---- the statements of a list

ready_head : (is rs : List Name) (n m : ℕ) (s : StmtSyntax) (ss : StmtsSyntax) → m ≡ n
    → AreNumberable is rs n (stmt_then s ss) → IsReadyStmt is rs m s
ready_head is rs n m s ss same r = record {
  free = free_left r.free;
  complete = r.complete.0;
  narrow = let h = r.narrow in omega arith;
  room = let h = r.room in omega arith;
}

ready_tail : (is rs : List Name) (n : ℕ) (s : StmtSyntax) (ss : StmtsSyntax)
    → AreNumberable is rs n (stmt_then s ss) → AreNumberable is rs (n + inner_arms_of_stmt s) ss
ready_tail is rs n s ss r = record {
  free = free_right r.free;
  complete = r.complete.1;
  narrow = let h = r.narrow in omega arith;
  room = let h = r.room in omega arith;
}

ready_or : {A : Type 0} (is rs : List Name) (n m : ℕ) (ss : List (Stmt A)) (i : ℕ) (d : Stmt A) → i < length ss
    → m ≡ n + inner_arms (stmts_view (take i ss))
    → AreNumberable is rs n (stmts_view ss) → IsReadyStmt is rs m (stmt_view (get_or ss i d))
ready_or is rs n m [] i d h after r = absurd (omega arith)
ready_or is rs n m (s ∷ ss) zero d h after r =
    ready_head is rs n m (stmt_view s) (stmts_view ss) (omega arith) r
ready_or is rs n m (s ∷ ss) (suc i) d h after r =
    ready_or is rs (n + inner_arms_of_stmt (stmt_view s)) m ss i d (omega arith) (omega arith)
    (ready_tail is rs n (stmt_view s) (stmts_view ss) r)

-- as a loop reads them
pub ready_at : {A : Type 0} (is rs : List Name) (n m : ℕ) (all ss : List (Stmt A)) (i : ℕ) (s : Stmt A)
    → ss ≡ all → i < length ss → s ≡ get_or ss i s → m ≡ n + inner_arms (stmts_view (take i ss))
    → AreNumberable is rs n (stmts_view all) → IsReadyStmt is rs m (stmt_view s)
ready_at is rs n m all ss i s list h here after r =
    subst (λ y. IsReadyStmt is rs m (stmt_view y)) (sym here) (ready_or is rs n m ss i s h after (rw list r))

-- ---- the arms of a parbegin

arm_head : (is rs : List Name) (n m : ℕ) (arm : StmtsSyntax) (arms : ArmsSyntax) → m ≡ n
    → AreReadyArms is rs n (arm_then arm arms) → AreNumberable is rs m arm
arm_head is rs n m arm arms same r = record {
  free = free_left r.free;
  complete = r.complete.0;
  narrow = let h = r.narrow in omega arith;
  room = let h = r.room in omega arith;
}

arm_tail : (is rs : List Name) (n : ℕ) (arm : StmtsSyntax) (arms : ArmsSyntax)
    → AreReadyArms is rs n (arm_then arm arms) → AreReadyArms is rs (n + inner_arms arm) arms
arm_tail is rs n arm arms r = record {
  free = free_right r.free;
  complete = r.complete.1;
  narrow = let h = r.narrow in omega arith;
  room = let h = r.room in omega arith;
}

arm_or : {A : Type 0} (is rs : List Name) (n m : ℕ) (arms : List (Vec (Stmt A) A)) (i : ℕ) (d : Vec (Stmt A) A)
    → i < length arms → m ≡ n + inner_arms_of_arms (arms_view (take i arms))
    → AreReadyArms is rs n (arms_view arms) → AreNumberable is rs m (stmts_view (get_or arms i d).items)
unfolding arm_view
arm_or is rs n m [] i d h after r = absurd (omega arith)
arm_or is rs n m (a ∷ arms) zero d h after r =
    arm_head is rs n m (stmts_view a.items) (arms_view arms) (omega arith) r
arm_or is rs n m (a ∷ arms) (suc i) d h after r =
    arm_or is rs (n + inner_arms (stmts_view a.items)) m arms i d (omega arith) (omega arith)
    (arm_tail is rs n (stmts_view a.items) (arms_view arms) r)

-- as a loop reads them
pub arm_ready_at : {A : Type 0} (is rs : List Name) (n m : ℕ) (all arms : List (Vec (Stmt A) A)) (i : ℕ)
    (arm : Vec (Stmt A) A) → arms ≡ all → i < length arms → arm ≡ get_or arms i arm
    → m ≡ n + inner_arms_of_arms (arms_view (take i arms))
    → AreReadyArms is rs n (arms_view all) → AreNumberable is rs m (stmts_view arm.items)
arm_ready_at is rs n m all arms i arm list h here after r =
    subst (λ y. AreNumberable is rs m (stmts_view y.items)) (sym here) (arm_or is rs n m arms i arm h after (rw list r))

-- ---- the lists of a statement have fewer nodes than it has

pub true_within : (s : StmtSyntax) (line : ℕ) (e : ExprSyntax) (a b : StmtsSyntax)
    → s ≡ if_else line e a b → stmts_nodes a < stmt_nodes s
true_within s line e a b is = omega (arith, ap stmt_nodes is)

pub false_within : (s : StmtSyntax) (line : ℕ) (e : ExprSyntax) (a b : StmtsSyntax)
    → s ≡ if_else line e a b → stmts_nodes b < stmt_nodes s
false_within s line e a b is = omega (arith, ap stmt_nodes is)

pub loop_within : (s : StmtSyntax) (line : ℕ) (e : ExprSyntax) (body : StmtsSyntax)
    → s ≡ while_do line e body → stmts_nodes body < stmt_nodes s
loop_within s line e body is = omega (arith, ap stmt_nodes is)

pub hold_within : (s : StmtSyntax) (line : ℕ) (demands : List DemandSyntax) (body : StmtsSyntax)
    → s ≡ hold line demands body → stmts_nodes body < stmt_nodes s
hold_within s line demands body is = omega (arith, ap stmt_nodes is)
