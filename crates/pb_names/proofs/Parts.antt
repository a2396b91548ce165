-- A tree that has a numbered program is complete.
use Rattle.std.proofs.Common.{List, get_or, arith}
use Rattle.std.proofs.lemmas.Option.{slice_get-get_or}
use Rattle.pb_tree.specs.Syntax as tree
use Rattle.pb_names.specs.Program.{Name, Stmt, Block, Arms, Program}
use Rattle.pb_names.specs.Ready.{IsCompleteStmt, AreComplete, AreCompleteArms, IsComplete}
use Rattle.pb_names.specs.Resolves.{ResolvesStmt, assign, print, if_else, while_do, hold, parbegin, ResolvesDemand}
use Rattle.pb_names.specs.Resolves.{ResolvesStmts, no_stmt, stmt_then, ResolvesArms, no_arm, arm_then}
use Rattle.pb_names.specs.Resolves.{ResolvesProcess, Resolves, resource_names}
use Rattle.pb_names.proofs.NoCause.{numbered_at}
use Rattle.pb_names.proofs.NumberedLists.{count_resolved}
use Rattle.pb_names.proofs.Wholes.{same_length}

module _ (integers resources : List Name) where
  mutual
    complete_stmt : (s : tree.StmtSyntax) (a : Stmt) → ResolvesStmt integers resources s a → IsCompleteStmt s
    complete_stmt _ _ (assign line x i e a is k) = tt
    complete_stmt _ _ (print line e a k) = tt
    complete_stmt _ _ (if_else line e e1 a b a1 b1 k ka kb) = (complete_list a a1 ka, complete_list b b1 kb)
    complete_stmt _ _ (while_do line e e1 a a1 k ka) = complete_list a a1 ka
    complete_stmt _ _ (hold line ds b a a1 k ka) =
        let some = k.some in
        let same = same_length (ResolvesDemand resources) ds b k.each in
        (omega (arith, some, same), complete_list a a1 ka)
    complete_stmt _ _ (parbegin line first arms a few k) =
        let same = count_resolved integers resources arms a k in
        (omega (arith, few.0, same), complete_arms arms a k)

    complete_list : (ss : tree.StmtsSyntax) (a : Block) → ResolvesStmts integers resources ss a → AreComplete ss
    complete_list _ _ no_stmt = tt
    complete_list _ _ (stmt_then s s1 ss a k ka) = (complete_stmt s s1 k, complete_list ss a ka)

    complete_arms : (arms : tree.ArmsSyntax) (a : Arms) → ResolvesArms integers resources arms a → AreCompleteArms arms
    complete_arms _ _ no_arm = tt
    complete_arms _ _ (arm_then arm a1 arms ar k ka) = (complete_list arm a1 k, complete_arms arms ar ka)

pub complete_program : (written : tree.ProgramSyntax) (program : Program) → Resolves written program → IsComplete written
complete_program written program h = record {
  some_process =
      let same = same_length (ResolvesProcess (resource_names program)) written.processes program.processes h.processes in
      let some = h.some_processes in
      omega (arith, same, some);
  bodies = λ k d below.
      let ws = written.processes in
      let at = numbered_at (ResolvesProcess (resource_names program)) ws program.processes k (get_or ws k d)
      h.processes (slice_get-get_or ws k d below) in
      complete_list at.0.integers (resource_names program) (get_or ws k d).body at.0.body at.2.body;
}
