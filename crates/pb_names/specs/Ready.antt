-- What holds of a program that is to be numbered: it has the parts that the grammar asks for, nothing is
-- wrong with its names and amounts, and there are numbers for its arms.
use Rattle.std.specs.Prelude.{ℕ, ◌+◌, ◌≤◌, List, length, All, ⊤}
use Rattle.pb_base.specs.declared.limits.TheConstants.{MAX_ARMS, MAX_FORK, MAX_INTEGERS}
use Rattle.pb_tree.specs.Syntax.{StmtSyntax, assign, print, if_else, while_do, hold, parbegin}
use Rattle.pb_tree.specs.Syntax.{StmtsSyntax, no_stmt, stmt_then, ArmsSyntax, no_arm, arm_then}
use Rattle.pb_tree.specs.Syntax.{ProcessSyntax, ProgramSyntax}
use Rattle.pb_names.specs.Causes.{Causes, InStmt, InStmts, InArms}
use Rattle.pb_names.specs.Limits.{width, widest_in_stmt, widest_in, widest_in_arms}
use Rattle.pb_names.specs.Limits.{inner_arms_of_stmt, inner_arms, inner_arms_of_arms}
use Rattle.pb_names.specs.Program.{Name}
use Rattle.pb_names.specs.Search.{IsFree}

-- ---- what the grammar gives

-- each hold inside has a pair, and each parbegin an arm
abbrev mutual
  pub IsCompleteStmt : StmtSyntax → Type 0
  IsCompleteStmt (assign line x e) = ⊤
  IsCompleteStmt (print line e) = ⊤
  IsCompleteStmt (if_else line e on_true on_false) = AreComplete on_true × AreComplete on_false
  IsCompleteStmt (while_do line e body) = AreComplete body
  IsCompleteStmt (hold line demands body) = (1 ≤ length demands) × AreComplete body
  IsCompleteStmt (parbegin line arms) = (1 ≤ width arms) × AreCompleteArms arms

  pub AreComplete : StmtsSyntax → Type 0
  AreComplete no_stmt = ⊤
  AreComplete (stmt_then s ss) = IsCompleteStmt s × AreComplete ss

  pub AreCompleteArms : ArmsSyntax → Type 0
  AreCompleteArms no_arm = ⊤
  AreCompleteArms (arm_then arm arms) = AreComplete arm × AreCompleteArms arms

-- a program has a process, each of its holds a pair, and each of its parbegins an arm
pub record IsComplete (program : ProgramSyntax) : Type 0 where
  pub some_process : 1 ≤ length program.processes
  pub bodies : All (λ process. AreComplete process.body) program.processes

-- ---- what looking it through gives

-- a part with these causes, widest parbegin and inner arms, that is complete, and whose arms get the numbers
-- from n on
pub record IsNumberable (causes : Causes) (IsWhole : Type 0) (widest inner n : ℕ) : Type 0 where
  pub free : IsFree causes
  pub complete : IsWhole
  pub narrow : widest ≤ MAX_FORK
  pub room : n + inner ≤ MAX_ARMS

-- a statement can be numbered, with the numbers from n on for the arms inside it
abbrev pub IsReadyStmt : (integers resources : List Name) → ℕ → StmtSyntax → Type 0
IsReadyStmt integers resources n s =
    IsNumberable (InStmt integers resources s) (IsCompleteStmt s) (widest_in_stmt s) (inner_arms_of_stmt s) n

-- so can a list of statements
abbrev pub AreNumberable : (integers resources : List Name) → ℕ → StmtsSyntax → Type 0
AreNumberable integers resources n ss =
    IsNumberable (InStmts integers resources ss) (AreComplete ss) (widest_in ss) (inner_arms ss) n

-- so can what is inside the arms of a parbegin
abbrev pub AreReadyArms : (integers resources : List Name) → ℕ → ArmsSyntax → Type 0
AreReadyArms integers resources n arms =
    IsNumberable (InArms integers resources arms) (AreCompleteArms arms) (widest_in_arms arms) (inner_arms_of_arms arms) n

-- a complete process of few integers, narrow parbegins and few arms
pub record IsFitting (process : ProcessSyntax) : Type 0 where
  pub few_integers : length process.integers ≤ MAX_INTEGERS
  pub complete : AreComplete process.body
  pub narrow : widest_in process.body ≤ MAX_FORK
  pub room : 1 + inner_arms process.body ≤ MAX_ARMS
