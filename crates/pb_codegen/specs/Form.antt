-- What a tree that was read has beside its limits: its names are names, each hold has a pair, each parbegin
-- an arm, each statement begins on a line of a text, and there is a process.
use Rattle.std.specs.Prelude.{ℕ, ◌≤◌, length, All, ⊤}
use Rattle.pb_base.specs.declared.limits.TheConstants.{MAX_LINE}
use Rattle.pb_tree.specs.Syntax.{StmtSyntax, assign, print, if_else, while_do, hold, parbegin, StmtsSyntax}
use Rattle.pb_tree.specs.Syntax.{no_stmt, stmt_then, ArmsSyntax, no_arm, arm_then, ProcessSyntax, ProgramSyntax}
use Rattle.pb_names.specs.Limits.{width}
use Rattle.pb_verifier.specs.Limits.{IsUpTo, IsName}

-- a line of a text, whose size has its limit
abbrev pub IsSourceLine : ℕ → Type 0
IsSourceLine line = IsUpTo MAX_LINE line

-- each statement begins on a line of a text, each hold has a pair, and each parbegin an arm
abbrev mutual
  pub IsFullStmt : StmtSyntax → Type 0
  IsFullStmt (assign line x e) = IsSourceLine line
  IsFullStmt (print line e) = IsSourceLine line
  IsFullStmt (if_else line e on_true on_false) = IsSourceLine line × IsFull on_true × IsFull on_false
  IsFullStmt (while_do line e body) = IsSourceLine line × IsFull body
  IsFullStmt (hold line demands body) = IsSourceLine line × (1 ≤ length demands) × IsFull body
  IsFullStmt (parbegin line arms) = IsSourceLine line × (1 ≤ width arms) × AreFull arms

  pub IsFull : StmtsSyntax → Type 0
  IsFull no_stmt = ⊤
  IsFull (stmt_then s ss) = IsFullStmt s × IsFull ss

  pub AreFull : ArmsSyntax → Type 0
  AreFull no_arm = ⊤
  AreFull (arm_then ss arms) = IsFull ss × AreFull arms

-- the names of a process are names, and all of its body is full
pub record IsFormedProcess (process : ProcessSyntax) : Type 0 where
  pub name : IsName process.name.text
  pub integers : All (λ name. IsName name.text) process.integers
  pub full : IsFull process.body

-- a tree that was read: its names are names, its bodies are full, and it has a process
pub record IsFormed (tree : ProgramSyntax) : Type 0 where
  pub resources : All (λ resource. IsName resource.name.text) tree.resources
  pub some_processes : 1 ≤ length tree.processes
  pub processes : All IsFormedProcess tree.processes
