-- Lists of statements and of arms, one after the other.
use Rattle.std.proofs.Common.{◌≡◌, List, [], ◌∷◌, ◌++◌, Vec, ap, refl}
use Rattle.pb_tree.specs.Syntax.{StmtSyntax, StmtsSyntax, no_stmt, stmt_then, stmts_append}
use Rattle.pb_tree.specs.Syntax.{ArmsSyntax, no_arm, arm_then, arms_append}
use Rattle.pb_tree.specs.View.{stmt_view, stmts_view, stmts_of, arm_view, arms_view, joined_arms}
use Rattle.pb_tree.specs.declared.stmt.Stmt.{Stmt}

-- ---- plain lists

pub stmts_of-append : (xs ys : List StmtSyntax)
    → stmts_of (xs ++ ys) ≡ stmts_append (stmts_of xs) (stmts_of ys)
stmts_of-append [] ys = refl
stmts_of-append (x ∷ xs) ys = ap (stmt_then x) (stmts_of-append xs ys)

pub arms_of-append : (xs ys : List StmtsSyntax) → joined_arms (xs ++ ys) ≡ arms_append (joined_arms xs) (joined_arms ys)
arms_of-append [] ys = refl
arms_of-append (x ∷ xs) ys = ap (arm_then x) (arms_of-append xs ys)

pub stmts_append-no_stmt : (xs : StmtsSyntax) → stmts_append xs no_stmt ≡ xs
stmts_append-no_stmt no_stmt = refl
stmts_append-no_stmt (stmt_then x xs) = ap (stmt_then x) (stmts_append-no_stmt xs)

pub stmts_append-assoc : (xs ys zs : StmtsSyntax)
    → stmts_append (stmts_append xs ys) zs ≡ stmts_append xs (stmts_append ys zs)
stmts_append-assoc no_stmt ys zs = refl
stmts_append-assoc (stmt_then x xs) ys zs = ap (stmt_then x) (stmts_append-assoc xs ys zs)

pub arms_append-no_arm : (xs : ArmsSyntax) → arms_append xs no_arm ≡ xs
arms_append-no_arm no_arm = refl
arms_append-no_arm (arm_then x xs) = ap (arm_then x) (arms_append-no_arm xs)

pub arms_append-assoc : (xs ys zs : ArmsSyntax)
    → arms_append (arms_append xs ys) zs ≡ arms_append xs (arms_append ys zs)
arms_append-assoc no_arm ys zs = refl
arms_append-assoc (arm_then x xs) ys zs = ap (arm_then x) (arms_append-assoc xs ys zs)

-- ---- the views of lists in memory

pub stmts_view-append : {A : Type 0} (xs ys : List (Stmt A))
    → stmts_view (xs ++ ys) ≡ stmts_append (stmts_view xs) (stmts_view ys)
stmts_view-append [] ys = refl
stmts_view-append (x ∷ xs) ys = ap (stmt_then (stmt_view x)) (stmts_view-append xs ys)

pub arms_view-append : {A : Type 0} (xs ys : List (Vec (Stmt A) A))
    → arms_view (xs ++ ys) ≡ arms_append (arms_view xs) (arms_view ys)
arms_view-append [] ys = refl
arms_view-append (x ∷ xs) ys = ap (arm_then (arm_view x)) (arms_view-append xs ys)

-- after a push, the pushed statement or arm is last
pub ruleset list_views = (stmts_view-append, arms_view-append)

-- what is between two lists, or after one, does not matter
pub ruleset plain_lists = (
  stmts_of-append,
  arms_of-append,
  stmts_append-no_stmt,
  stmts_append-assoc,
  arms_append-no_arm,
  arms_append-assoc,
)
