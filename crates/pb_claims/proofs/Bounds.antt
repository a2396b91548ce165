-- No claim of a resolved program is more than 1,000,000 for each node of its tree.
use Rattle.std.proofs.Common.{◌≡◌, ℕ, zero, suc, ◌*◌, ◌≤◌, List, [], ◌∷◌, arith, Some, None}
use Rattle.std.specs.Prelude.{slice_get}
use Rattle.std.specs.List.{AllZip}
use Rattle.pb_tree.specs.Syntax as tree
use Rattle.pb_tree.specs.Measure.{stmt_nodes, stmts_nodes, arms_nodes, processes_nodes, program_nodes}
use Rattle.pb_names.specs.Claims.{IsClaim, stmt_peak, peak, arms_peak}
use Rattle.pb_names.specs.Program.{Name, Stmt, Block, Arms, Process, Program}
use Rattle.pb_names.specs.Resolves.{ResolvesStmt, assign, print, if_else, while_do, hold, parbegin, ResolvesStmts}
use Rattle.pb_names.specs.Resolves.{no_stmt, stmt_then, ResolvesArms, no_arm, arm_then, ResolvesProcess, Resolves}
use Rattle.pb_names.specs.Resolves.{resource_names}
use Rattle.pb_claims.specs.Inferred.{HaveSmallClaims}
use Rattle.pb_claims.proofs.Amounts.{demand-le}
use Rattle.pb_claims.proofs.OnePass.{is_claim}

-- each hold adds at most 1,000,000, and is a node
mutual
  stmt_peak-le : (integers resources : List Name) (r : ℕ) (s : tree.StmtSyntax) (s' : Stmt)
      → ResolvesStmt integers resources s s' → stmt_peak r s' ≤ 1000000 * stmt_nodes s
  stmt_peak-le integers resources r _ _ (assign line x i e e' is h) = omega arith
  stmt_peak-le integers resources r _ _ (print line e e' h) = omega arith
  stmt_peak-le integers resources r _ _ (if_else line e e' a b a' b' h k l) =
      let f = peak-le integers resources r a a' k in
      let g = peak-le integers resources r b b' l in
      omega (arith, f, g)
  stmt_peak-le integers resources r _ _ (while_do line e e' body body' h k) =
      let f = peak-le integers resources r body body' k in omega (arith, f)
  stmt_peak-le integers resources r _ _ (hold line demands bundle body body' h k) =
      let f = peak-le integers resources r body body' k in
      let g = demand-le resources demands bundle r h in
      omega (arith, f, g)
  stmt_peak-le integers resources r _ _ (parbegin line first arms arms' few h) =
      let f = arms_peak-le integers resources r arms arms' h in omega (arith, f)

  peak-le : (integers resources : List Name) (r : ℕ) (ss : tree.StmtsSyntax) (block : Block)
      → ResolvesStmts integers resources ss block → peak r block ≤ 1000000 * stmts_nodes ss
  peak-le integers resources r _ _ no_stmt = omega arith
  peak-le integers resources r _ _ (stmt_then s s' ss block h k) =
      let f = stmt_peak-le integers resources r s s' h in
      let g = peak-le integers resources r ss block k in
      omega (arith, f, g)

  arms_peak-le : (integers resources : List Name) (r : ℕ) (arms : tree.ArmsSyntax) (arms' : Arms)
      → ResolvesArms integers resources arms arms' → arms_peak r arms' ≤ 1000000 * arms_nodes arms
  arms_peak-le integers resources r _ _ no_arm = omega arith
  arms_peak-le integers resources r _ _ (arm_then arm arm' arms arms' h k) =
      let f = peak-le integers resources r arm arm' h in
      let g = arms_peak-le integers resources r arms arms' k in
      omega (arith, f, g)

-- two claims of a process on a resource are the same
pub claim-unique : (process : Process) (r a b : ℕ) → IsClaim process r a → IsClaim process r b → a ≡ b
claim-unique process r a b h k =
    let low = k.0 h.1.0 h.1.1 in
    let high = h.0 k.1.0 k.1.1 in
    omega (arith, low, high, h.1.2, k.1.2)

claim-le : (resources : List Name) (written : List tree.ProcessSyntax) (processes : List Process) (p r claim : ℕ)
    (process : Process) → AllZip (ResolvesProcess resources) written processes
    → slice_get processes p ≡ Some process → IsClaim process r claim → claim ≤ 1000000 * processes_nodes written
claim-le resources written [] p r claim process h at is = (let e : None ≡ Some process = at in cc)
claim-le resources [] (other ∷ processes) p r claim process h at is = elim h [ ]
claim-le resources (w ∷ written) (other ∷ processes) zero r claim process h at is =
    let e : Some other ≡ Some process = at in
    let same : other ≡ process = cc in
    let body = peak-le other.integers resources r w.body other.body h.0.body in
    let one = claim-unique other r claim (peak r other.body) (rw same is) (is_claim other r) in
    omega (arith, body, one)
claim-le resources (w ∷ written) (other ∷ processes) (suc p) r claim process h at is =
    let rest = claim-le resources written processes p r claim process h.1 at is in
    omega (arith, rest)

pub small_claims : (written : tree.ProgramSyntax) (program : Program) → Resolves written program
    → program_nodes written ≤ 16384 → HaveSmallClaims program
small_claims written program h few = record {
  small = λ p r claim process at within is.
      let most =
      claim-le (resource_names program) written.processes program.processes p r claim process h.processes at is
      in
      omega (arith, most, few);
}
