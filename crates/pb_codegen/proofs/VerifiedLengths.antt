-- How long the code of a resolved process is: at most two instructions for each node of its tree, and an end
-- for each arm.
use Rattle.std.proofs.Common.{◌≡◌, ℕ, ◌+◌, ◌*◌, ◌≤◌, List, [], ◌∷◌, ◌++◌, length, refl, arith, length-append}
use Rattle.pb_tree.specs.Syntax as tree
use Rattle.pb_tree.specs.Measure.{expr_nodes, stmt_nodes, stmts_nodes, arms_nodes}
use Rattle.pb_names.specs.Program.{Expr, Stmt, Block, Arms, Name, Process, arms_of, arms_in, arms_list}
use Rattle.pb_names.specs.Program.{arms_in_stmt, arms_in_arms}
use Rattle.pb_names.specs.Resolves.{ResolvesExpr, number, variable, unary, binary, ResolvesStmt, assign}
use Rattle.pb_names.specs.Resolves.{print}
use Rattle.pb_names.specs.Resolves.{if_else, while_do, hold, parbegin, ResolvesStmts, no_stmt, stmt_then}
use Rattle.pb_names.specs.Resolves.{ResolvesArms, no_arm, arm_then}
use Rattle.pb_code.specs.Code.{Store, Compute1, Compute2, Jump, JumpIfZero, PrintTop, Give}
use Rattle.pb_generator.specs.Generate.{expr_code, stmt_code, block_code, process_code}
use Rattle.pb_codegen.proofs.VerifiedNotes.{shape, block_shapes, arms_shapes, length-block_shapes}
use Rattle.pb_codegen.proofs.VerifiedNotes.{length-arms_shapes}

length-both : (a b : List Block)
    → length (arms_shapes (a ++ b)) ≡ length (arms_shapes a) + length (arms_shapes b)
length-both [] b = omega arith
length-both (arm ∷ a) b =
    let rest = length-both a b in
    let here = block_shapes [] arm ++ (shape 0 [] ∷ []) in
    omega (arith, rest, length-append here (arms_shapes (a ++ b)), length-append here (arms_shapes a))

module _ (integers resources : List Name) where
  length-expr : (e : tree.ExprSyntax) (e' : Expr) → ResolvesExpr integers e e'
      → length (expr_code e') ≡ expr_nodes e
  length-expr _ _ (number n) = refl
  length-expr _ _ (variable x i is) = refl
  length-expr _ _ (unary op e e' h) =
      let f = length-expr e e' h in omega (arith, f, length-append (expr_code e') (Compute1 op ∷ []))
  length-expr _ _ (binary op a b a' b' h k) =
      let f = length-expr a a' h in
      let g = length-expr b b' k in
      let n = length-append (expr_code a') (expr_code b' ++ (Compute2 op ∷ [])) in
      let m = length-append (expr_code b') (Compute2 op ∷ []) in
      omega (arith, f, g, n, m)

  -- with the code of the arms inside
  mutual
    stmt_length : (p : ℕ) (s : tree.StmtSyntax) (s' : Stmt) → ResolvesStmt integers resources s s'
        → length (stmt_code p s') + length (arms_shapes (arms_in_stmt s'))
        ≤ 2 * stmt_nodes s + length (arms_in_stmt s')
    stmt_length p _ _ (assign line x i e e' is h) =
        let f = length-expr e e' h in omega (arith, f, length-append (expr_code e') (Store i ∷ []))
    stmt_length p _ _ (print line e e' h) =
        let f = length-expr e e' h in omega (arith, f, length-append (expr_code e') (PrintTop ∷ []))
    stmt_length p _ _ (if_else line e e' a b a' b' h k l) =
        let then = p + length (expr_code e') + 1 in
        let other = then + length (block_code then a') + 1 in
        let after = other + length (block_code other b') in
        let tail = block_code then a' ++ (Jump after ∷ block_code other b') in
        let f = length-expr e e' h in
        let g = block_length then a a' k in
        let m = block_length other b b' l in
        let n = length-append (expr_code e') (JumpIfZero other ∷ tail) in
        let o = length-append (block_code then a') (Jump after ∷ block_code other b') in
        let arms = length-append (arms_in a') (arms_in b') in
        let inner = length-both (arms_in a') (arms_in b') in
        omega (arith, f, g, m, n, o, arms, inner)
    stmt_length p _ _ (while_do line e e' body body' h k) =
        let start = p + length (expr_code e') + 1 in
        let after = start + length (block_code start body') + 1 in
        let f = length-expr e e' h in
        let g = block_length start body body' k in
        let n = length-append (expr_code e') (JumpIfZero after ∷ (block_code start body' ++ (Jump p ∷ []))) in
        let o = length-append (block_code start body') (Jump p ∷ []) in
        omega (arith, f, g, n, o)
    stmt_length p _ _ (hold line demands bundle body body' h k) =
        let g = block_length (p + 1) body body' k in
        let o = length-append (block_code (p + 1) body') (Give bundle ∷ []) in
        omega (arith, g, o)
    stmt_length p _ _ (parbegin line first arms arms' few h) =
        let g = arms_length arms arms' h in
        let n = length-append (arms_list arms') (arms_in_arms arms') in
        let inner = length-both (arms_list arms') (arms_in_arms arms') in
        omega (arith, g, n, inner)

    block_length : (p : ℕ) (ss : tree.StmtsSyntax) (block : Block) → ResolvesStmts integers resources ss block
        → length (block_code p block) + length (arms_shapes (arms_in block))
        ≤ 2 * stmts_nodes ss + length (arms_in block)
    block_length p _ _ no_stmt = omega arith
    block_length p _ _ (stmt_then s s' ss block h k) =
        let next = p + length (stmt_code p s') in
        let f = stmt_length p s s' h in
        let g = block_length next ss block k in
        let n = length-append (stmt_code p s') (block_code next block) in
        let arms = length-append (arms_in_stmt s') (arms_in block) in
        let inner = length-both (arms_in_stmt s') (arms_in block) in
        omega (arith, f, g, n, arms, inner)

    arms_length : (arms : tree.ArmsSyntax) (arms' : Arms) → ResolvesArms integers resources arms arms'
        → length (arms_shapes (arms_list arms')) + length (arms_shapes (arms_in_arms arms'))
        ≤ 2 * arms_nodes arms + (length (arms_list arms') + length (arms_in_arms arms'))
    arms_length _ _ no_arm = omega arith
    arms_length _ _ (arm_then arm arm' arms arms' h k) =
        let f = block_length 0 arm arm' h in
        let g = arms_length arms arms' k in
        let here = block_shapes [] arm' ++ (shape 0 [] ∷ []) in
        let n = length-append here (arms_shapes (arms_list arms')) in
        let m = length-append (block_shapes [] arm') (shape 0 [] ∷ []) in
        let same = length-block_shapes 0 [] arm' in
        let all = length-append (arms_in arm') (arms_in_arms arms') in
        let inner = length-both (arms_in arm') (arms_in_arms arms') in
        omega (arith, f, g, n, m, same, all, inner)

pub code_length : (resources : List Name) (process : Process) (ss : tree.StmtsSyntax)
    → ResolvesStmts process.integers resources ss process.body
    → length (process_code process).instrs ≤ 2 * stmts_nodes ss + length (arms_of process)
code_length resources process ss h =
    let body = process.body in
    let f = block_length process.integers resources 0 ss body h in
    let here = block_shapes [] body ++ (shape 0 [] ∷ []) in
    let whole = length-arms_shapes 0 (arms_of process) in
    let n = length-append here (arms_shapes (arms_in body)) in
    let m = length-append (block_shapes [] body) (shape 0 [] ∷ []) in
    let same = length-block_shapes 0 [] body in
    omega (arith, f, whole, n, m, same)
