-- Pairs of the holds in lists of statements and arms, one element at a time.
use Rattle.std.proofs.Common.{◌≡◌, ℕ, zero, suc, ◌+◌, ◌<◌, List, [], ◌∷◌, Vec, map, length, take, get_or, arith}
use Rattle.std.proofs.Common.{add-one}
use Rattle.std.proofs.Common.{subst, sym, ◌∙◌, Bool, true, false, not}
use Rattle.std.specs.Bool.{◌==◌}
use Rattle.std.specs.Prelude.{◌≤◌, All, IsTrue, slice_get, Some}
use Rattle.std.proofs.lemmas.Bool.{eqb-true}
use Rattle.std.proofs.lemmas.List.{map_more}
use Rattle.std.proofs.lemmas.List.Elements.{All-push}
use Rattle.std.proofs.lemmas.Option.{slice_get_within, get_or_from_slice_get}
use Rattle.pb_tree.specs.Syntax.{ProcessSyntax}
use Rattle.pb_tree.specs.View.{stmt_view, stmts_view, arm_view, arms_view, process_view}
use Rattle.pb_tree.specs.declared.program.Process.{Process}
use Rattle.pb_tree.specs.declared.stmt.Stmt.{Stmt}
use Rattle.pb_names.specs.Ready.{IsCompleteStmt, AreComplete, AreCompleteArms}

-- ---- whether there is a pair or an arm

some_there : (n : ℕ) (empty : Bool) → empty ≡ (n == 0) → empty ≡ false → 1 ≤ n
some_there zero empty is full = absurd (cc)
some_there (suc n) empty is full = omega arith

-- there is one, and what is inside is looked at
pub some_inside : {Inside : Type 0} (n count : ℕ) (empty inside : Bool) → empty ≡ (n == 0) → empty ≡ false → count ≡ n
    → (IsTrue inside → Inside) × (Inside → IsTrue inside)
    → (IsTrue inside → (1 ≤ count) × Inside) × ((1 ≤ count) × Inside → IsTrue inside)
some_inside n count empty inside is full same both =
    let there = some_there n empty is full in
    let some : 1 ≤ count = omega arith in
    (λ yes. (some, both.0 yes), λ whole. both.1 whole.1)

-- there is none
pub none_inside : {Inside : Type 0} (n count : ℕ) (empty : Bool) → empty ≡ (n == 0) → empty ≡ true → count ≡ n
    → (IsTrue (not empty) → (1 ≤ count) × Inside) × ((1 ≤ count) × Inside → IsTrue (not empty))
none_inside n count empty is none same =
    let zero = eqb-true n 0 (sym is ∙ none) in
    (λ yes. absurd (cc), λ whole. absurd (omega (arith, whole.0)))

-- ---- two lists of which the first is not complete

pub first_not : {First Second : Type 0} (first : Bool) → first ≡ false → (IsTrue first → First) × (First → IsTrue first)
    → (IsTrue first → First × Second) × (First × Second → IsTrue first)
first_not first is both = (λ yes. absurd (cc), λ whole. both.1 whole.0)

-- ---- statements

stmt_or : {A : Type 0} (ss : List (Stmt A)) (i : ℕ) (d : Stmt A) → i < length ss
    → AreComplete (stmts_view ss) → IsCompleteStmt (stmt_view (get_or ss i d))
stmt_or [] i d h all = absurd (omega arith)
stmt_or (s ∷ ss) zero d h all = all.0
stmt_or (s ∷ ss) (suc i) d h all = stmt_or ss i d (omega arith) all.1

pub pairs_at : {A : Type 0} (all ss : List (Stmt A)) (i : ℕ) (s : Stmt A) → ss ≡ all → i < length ss
    → s ≡ get_or ss i s → AreComplete (stmts_view all) → IsCompleteStmt (stmt_view s)
pairs_at all ss i s list h here whole =
    subst (λ t. IsCompleteStmt (stmt_view t)) (sym here) (stmt_or ss i s h (rw list whole))

pairs_suc : {A : Type 0} (ss : List (Stmt A)) (i : ℕ) (d : Stmt A) → i < length ss
    → AreComplete (stmts_view (take i ss)) → IsCompleteStmt (stmt_view (get_or ss i d))
    → AreComplete (stmts_view (take (suc i) ss))
pairs_suc [] i d h so_far next = absurd (omega arith)
pairs_suc (s ∷ ss) zero d h so_far next = (next, so_far)
pairs_suc (s ∷ ss) (suc i) d h so_far next = (so_far.0, pairs_suc ss i d (omega arith) so_far.1 next)

pub pairs_more : {A : Type 0} (ss : List (Stmt A)) (i : ℕ) (s : Stmt A) → i < length ss → s ≡ get_or ss i s
    → AreComplete (stmts_view (take i ss)) → IsCompleteStmt (stmt_view s) → AreComplete (stmts_view (take (i + 1) ss))
pairs_more ss i s h here so_far next =
    rw add-one (pairs_suc ss i s h so_far (subst (λ t. IsCompleteStmt (stmt_view t)) here next))

-- ---- arms

arm_or : {A : Type 0} (arms : List (Vec (Stmt A) A)) (i : ℕ) (d : Vec (Stmt A) A) → i < length arms
    → AreCompleteArms (arms_view arms) → AreComplete (stmts_view (get_or arms i d).items)
unfolding arm_view
arm_or [] i d h all = absurd (omega arith)
arm_or (a ∷ arms) zero d h all = all.0
arm_or (a ∷ arms) (suc i) d h all = arm_or arms i d (omega arith) all.1

pub arm_pairs_at : {A : Type 0} (all arms : List (Vec (Stmt A) A)) (i : ℕ) (a : Vec (Stmt A) A) → arms ≡ all
    → i < length arms → a ≡ get_or arms i a → AreCompleteArms (arms_view all) → AreComplete (stmts_view a.items)
arm_pairs_at all arms i a list h here whole =
    subst (λ t. AreComplete (stmts_view t.items)) (sym here) (arm_or arms i a h (rw list whole))

arm_suc : {A : Type 0} (arms : List (Vec (Stmt A) A)) (i : ℕ) (d : Vec (Stmt A) A) → i < length arms
    → AreCompleteArms (arms_view (take i arms)) → AreComplete (stmts_view (get_or arms i d).items)
    → AreCompleteArms (arms_view (take (suc i) arms))
unfolding arm_view
arm_suc [] i d h so_far next = absurd (omega arith)
arm_suc (a ∷ arms) zero d h so_far next = (next, so_far)
arm_suc (a ∷ arms) (suc i) d h so_far next = (so_far.0, arm_suc arms i d (omega arith) so_far.1 next)

pub arm_pairs_more : {A : Type 0} (arms : List (Vec (Stmt A) A)) (i : ℕ) (a : Vec (Stmt A) A) → i < length arms
    → a ≡ get_or arms i a → AreCompleteArms (arms_view (take i arms)) → AreComplete (stmts_view a.items)
    → AreCompleteArms (arms_view (take (i + 1) arms))
arm_pairs_more arms i a h here so_far next =
    rw add-one (arm_suc arms i a h so_far (subst (λ t. AreComplete (stmts_view t.items)) here next))

-- ---- processes

pub all_read : (ps : List ProcessSyntax) (i : ℕ) (p : ProcessSyntax) → slice_get ps i ≡ Some p
    → All (λ process. AreComplete process.body) ps → AreComplete p.body
all_read ps i p here all =
    subst (λ q. AreComplete q.body) (get_or_from_slice_get ps i p p here) (all i p (slice_get_within ps i p here))

pub all_more : {A : Type 0} (ps : List (Process A)) (i : ℕ) (p : Process A) → i < length ps → p ≡ get_or ps i p
    → All (λ process. AreComplete process.body) (map process_view (take i ps)) → AreComplete (stmts_view p.body.items)
    → All (λ process. AreComplete process.body) (map process_view (take (i + 1) ps))
all_more ps i p h here so_far next =
    rw (map_more process_view ps i p h, ← here)
    (All-push (λ process. AreComplete process.body) (map process_view (take i ps)) (process_view p) so_far next)
