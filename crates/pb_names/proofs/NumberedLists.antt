-- Numbered lists of statements and arms, one more element at a time, and how many arms are inside.
use Rattle.std.proofs.Common.{◌≡◌, ℕ, suc, ◌+◌, ◌<◌, ◌≤◌, List, [], ◌∷◌, ◌++◌, Vec, map, length, take, get_or}
use Rattle.std.proofs.Common.{arith, ap, subst, refl, length-append}
use Rattle.std.proofs.lemmas.List.{map-append, map_more}
use Rattle.pb_tree.specs.Syntax.{StmtSyntax, StmtsSyntax, ArmsSyntax}
use Rattle.pb_tree.specs.View.{stmt_view, stmts_view, stmts_of, arm_view, arms_view, joined_arms}
use Rattle.pb_tree.specs.declared.stmt.Stmt.{Stmt}
use Rattle.pb_names.specs.Limits.{width, inner_arms_of_stmt, inner_arms, inner_arms_of_arms}
use Rattle.pb_names.specs.Program as plain
use Rattle.pb_names.specs.Program.{Name, Block, Arms, NoArm, AndArm, count, arms_list, arms_in_stmt, arms_in}
use Rattle.pb_names.specs.Program.{arms_in_arms, IsNumberedStmt, IsNumbered, AreNumbered}
use Rattle.pb_names.specs.Resolves.{ResolvesStmt, ResolvesStmts, ResolvesArms, assign, print, if_else, while_do}
use Rattle.pb_names.specs.Resolves.{hold, parbegin, no_stmt, stmt_then, no_arm, arm_then}
use Rattle.pb_names.specs.View.{block_of, block_view, stmt_view as numbered_view, arms_from}
use Rattle.pb_names.specs.View.{arm_view as numbered_arm, arms_view as numbered_arms}
use Rattle.pb_names.specs.declared.resolved.Stmt.{Stmt as Numbered}

-- ---- the arms inside are as many as were written

pub length-arms_list : (arms : Arms) → length (arms_list arms) ≡ count arms
length-arms_list NoArm = refl
length-arms_list (AndArm arm arms) = ap suc (length-arms_list arms)

pub count_resolved : (is rs : List Name) (arms : ArmsSyntax) (arms' : Arms)
    → ResolvesArms is rs arms arms' → count arms' ≡ width arms
count_resolved is rs _ _ no_arm = refl
count_resolved is rs _ _ (arm_then arm arm' arms arms' first rest) = ap suc (count_resolved is rs arms arms' rest)

mutual
  pub inner_of_stmt : (is rs : List Name) (s : StmtSyntax) (s' : plain.Stmt)
      → ResolvesStmt is rs s s' → length (arms_in_stmt s') ≡ inner_arms_of_stmt s
  inner_of_stmt is rs _ _ (assign line x i e e' number resolved) = refl
  inner_of_stmt is rs _ _ (print line e e' resolved) = refl
  inner_of_stmt is rs _ _ (if_else line e e' a b a' b' test on_true on_false) =
      omega (arith, length-append (arms_in a') (arms_in b'), inner_of is rs a a' on_true, inner_of is rs b b' on_false)
  inner_of_stmt is rs _ _ (while_do line e e' body body' test inside) = inner_of is rs body body' inside
  inner_of_stmt is rs _ _ (hold line demands bundle body body' pairs inside) = inner_of is rs body body' inside
  inner_of_stmt is rs _ _ (parbegin line first arms arms' few inside) =
      omega (
        arith,
        length-append (arms_list arms') (arms_in_arms arms'),
        length-arms_list arms',
        count_resolved is rs arms arms' inside,
        inner_of_arms is rs arms arms' inside,
      )

  pub inner_of : (is rs : List Name) (ss : StmtsSyntax) (block : Block)
      → ResolvesStmts is rs ss block → length (arms_in block) ≡ inner_arms ss
  inner_of is rs _ _ no_stmt = refl
  inner_of is rs _ _ (stmt_then s s' ss block first rest) =
      omega (
        arith,
        length-append (arms_in_stmt s') (arms_in block),
        inner_of_stmt is rs s s' first,
        inner_of is rs ss block rest,
      )

  pub inner_of_arms : (is rs : List Name) (arms : ArmsSyntax) (arms' : Arms)
      → ResolvesArms is rs arms arms' → length (arms_in_arms arms') ≡ inner_arms_of_arms arms
  inner_of_arms is rs _ _ no_arm = refl
  inner_of_arms is rs _ _ (arm_then arm arm' arms arms' first rest) =
      omega (
        arith,
        length-append (arms_in arm') (arms_in_arms arms'),
        inner_of is rs arm arm' first,
        inner_of_arms is rs arms arms' rest,
      )

-- ---- one more statement, at the end

resolves_push : (is rs : List Name) (ss : List StmtSyntax) (s : StmtSyntax) (bs : List plain.Stmt) (b : plain.Stmt)
    → ResolvesStmts is rs (stmts_of ss) (block_of bs) → ResolvesStmt is rs s b
    → ResolvesStmts is rs (stmts_of (ss ++ s ∷ [])) (block_of (bs ++ b ∷ []))
resolves_push is rs [] s [] b so_far next = stmt_then s b _ _ next so_far
resolves_push is rs [] s (c ∷ bs) b so_far next = elim so_far [ ]
resolves_push is rs (r ∷ ss) s [] b so_far next = elim so_far [ ]
resolves_push is rs (r ∷ ss) s (c ∷ bs) b (stmt_then _ _ _ _ first so_far) next =
    stmt_then r c _ _ first (resolves_push is rs ss s bs b so_far next)

numbered_push : (n m : ℕ) (bs : List plain.Stmt) (b : plain.Stmt) → m ≡ n + length (arms_in (block_of bs))
    → IsNumbered n (block_of bs) → IsNumberedStmt m b → IsNumbered n (block_of (bs ++ b ∷ []))
numbered_push n m [] b after so_far next =
    let same : m ≡ n = omega arith in (subst (λ k. IsNumberedStmt k b) same next, tt)
numbered_push n m (c ∷ bs) b after so_far next = (
  so_far.0,
  numbered_push (n + length (arms_in_stmt c)) m bs b
      (omega (arith, length-append (arms_in_stmt c) (arms_in (block_of bs)))) so_far.1 next,
)

-- as a loop reads the statements
pub resolves_more : {A : Type 0} (is rs : List Name) (ss : List (Stmt A)) (i : ℕ) (s : Stmt A)
    (bs bs' : List (Numbered A)) (b : Numbered A) → i < length ss → s ≡ get_or ss i s → bs' ≡ bs ++ b ∷ []
    → ResolvesStmts is rs (stmts_view (take i ss)) (block_view bs)
    → ResolvesStmt is rs (stmt_view s) (numbered_view b)
    → ResolvesStmts is rs (stmts_view (take (i + 1) ss)) (block_view bs')
resolves_more is rs ss i s bs bs' b h here pushed so_far next =
    rw (pushed, map-append numbered_view bs (b ∷ []), map_more stmt_view ss i s h, ← here)
    (resolves_push is rs
    (map stmt_view (take i ss)) (stmt_view s) (map numbered_view bs) (numbered_view b) so_far next)

pub numbered_more : {A : Type 0} (is rs : List Name) (ss : StmtsSyntax) (n m : ℕ) (bs bs' : List (Numbered A))
    (b : Numbered A) → bs' ≡ bs ++ b ∷ [] → m ≡ n + inner_arms ss → ResolvesStmts is rs ss (block_view bs)
    → IsNumbered n (block_view bs) → IsNumberedStmt m (numbered_view b) → IsNumbered n (block_view bs')
numbered_more is rs ss n m bs bs' b pushed after resolved so_far next =
    rw (pushed, map-append numbered_view bs (b ∷ []))
    (numbered_push n m (map numbered_view bs) (numbered_view b)
    (omega (arith, inner_of is rs ss (block_view bs) resolved)) so_far next)

-- ---- one more arm, at the end

resolves_push_arm : (is rs : List Name) (xs : List StmtsSyntax) (a : StmtsSyntax) (bs : List Block) (b : Block)
    → ResolvesArms is rs (joined_arms xs) (arms_from bs) → ResolvesStmts is rs a b
    → ResolvesArms is rs (joined_arms (xs ++ a ∷ [])) (arms_from (bs ++ b ∷ []))
resolves_push_arm is rs [] a [] b so_far next = arm_then a b _ _ next so_far
resolves_push_arm is rs [] a (c ∷ bs) b so_far next = elim so_far [ ]
resolves_push_arm is rs (r ∷ xs) a [] b so_far next = elim so_far [ ]
resolves_push_arm is rs (r ∷ xs) a (c ∷ bs) b (arm_then _ _ _ _ first so_far) next =
    arm_then r c _ _ first (resolves_push_arm is rs xs a bs b so_far next)

numbered_push_arm : (n m : ℕ) (bs : List Block) (b : Block) → m ≡ n + length (arms_in_arms (arms_from bs))
    → AreNumbered n (arms_from bs) → IsNumbered m b → AreNumbered n (arms_from (bs ++ b ∷ []))
numbered_push_arm n m [] b after so_far next =
    let same : m ≡ n = omega arith in (subst (λ k. IsNumbered k b) same next, tt)
numbered_push_arm n m (c ∷ bs) b after so_far next = (
  so_far.0,
  numbered_push_arm (n + length (arms_in c)) m bs b
      (omega (arith, length-append (arms_in c) (arms_in_arms (arms_from bs)))) so_far.1 next,
)

-- as a loop reads the arms
pub resolves_more_arm : {A : Type 0} (is rs : List Name) (arms : List (Vec (Stmt A) A)) (i : ℕ) (a : Vec (Stmt A) A)
    (bs bs' : List (Vec (Numbered A) A)) (b : Vec (Numbered A) A)
    → i < length arms → a ≡ get_or arms i a → bs' ≡ bs ++ b ∷ []
    → ResolvesArms is rs (arms_view (take i arms)) (numbered_arms bs)
    → ResolvesStmts is rs (stmts_view a.items) (block_view b.items)
    → ResolvesArms is rs (arms_view (take (i + 1) arms)) (numbered_arms bs')
unfolding arm_view numbered_arm
resolves_more_arm is rs arms i a bs bs' b h here pushed so_far next =
    rw (pushed, map-append numbered_arm bs (b ∷ []), map_more arm_view arms i a h, ← here)
    (resolves_push_arm is rs
    (map arm_view (take i arms)) (arm_view a) (map numbered_arm bs) (numbered_arm b) so_far next)

pub numbered_more_arm : {A : Type 0} (is rs : List Name) (arms : ArmsSyntax) (n m : ℕ)
    (bs bs' : List (Vec (Numbered A) A)) (b : Vec (Numbered A) A) → bs' ≡ bs ++ b ∷ []
    → m ≡ n + inner_arms_of_arms arms → ResolvesArms is rs arms (numbered_arms bs)
    → AreNumbered n (numbered_arms bs) → IsNumbered m (block_view b.items) → AreNumbered n (numbered_arms bs')
unfolding numbered_arm
numbered_more_arm is rs arms n m bs bs' b pushed after resolved so_far next =
    rw (pushed, map-append numbered_arm bs (b ∷ []))
    (numbered_push_arm n m (map numbered_arm bs) (numbered_arm b)
    (omega (arith, inner_of_arms is rs arms (numbered_arms bs) resolved)) so_far next)

-- ---- statements that have arms inside

pub numbered_if : (is rs : List Name) (a : StmtsSyntax) (a' b' : Block) (n m : ℕ) → m ≡ n + inner_arms a
    → ResolvesStmts is rs a a' → IsNumbered n a' → IsNumbered m b'
    → IsNumbered n a' × IsNumbered (n + length (arms_in a')) b'
numbered_if is rs a a' b' n m after resolved first second =
    let same : m ≡ n + length (arms_in a') = omega (arith, inner_of is rs a a' resolved) in
    (first, subst (λ k. IsNumbered k b') same second)

pub numbered_parbegin : (is rs : List Name) (arms : ArmsSyntax) (arms' : Arms) (first n m : ℕ) → first ≡ n
    → m ≡ n + width arms → ResolvesArms is rs arms arms' → AreNumbered m arms'
    → (first ≡ n) × AreNumbered (n + count arms') arms'
numbered_parbegin is rs arms arms' first n m own after resolved inside =
    let same : m ≡ n + count arms' = omega (arith, count_resolved is rs arms arms' resolved) in
    (own, subst (λ k. AreNumbered k arms') same inside)

-- a parbegin that is written with 1 to 16 arms has as many
pub arms_in_range : (is rs : List Name) (arms : ArmsSyntax) (arms' : Arms) → ResolvesArms is rs arms arms'
    → 1 ≤ width arms → width arms ≤ 16 → (1 ≤ count arms') × (count arms' ≤ 16)
arms_in_range is rs arms arms' resolved some few =
    let same = count_resolved is rs arms arms' resolved in
    (omega (arith, same, some), omega (arith, same, few))
