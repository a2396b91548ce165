-- How much of each kind a program has, and how much it may have.
use Rattle.std.specs.Prelude.{ℕ, suc, ◌+◌, ◌<◌, ◌≤◌, max, List, [], ◌∷◌, length}
use Rattle.pb_base.specs.declared.limits.TheConstants.{MAX_ARMS, MAX_FORK, MAX_INTEGERS, MAX_PROCESSES, MAX_RESOURCES}
use Rattle.pb_tree.specs.Syntax.{StmtSyntax, assign, print, if_else, while_do, hold, parbegin}
use Rattle.pb_tree.specs.Syntax.{StmtsSyntax, no_stmt, stmt_then, ArmsSyntax, no_arm, arm_then}
use Rattle.pb_tree.specs.Syntax.{ProcessSyntax, ProgramSyntax}
use Rattle.pb_names.specs.declared.fault.Kind.{Kind}
use Rattle.pb_names.specs.declared.fault.Kind.TheVariants.{Processes, Resources, Integers, Fork, Arms}

-- how many arms a parbegin has
abbrev pub width : ArmsSyntax → ℕ
width no_arm = 0
width (arm_then arm arms) = suc (width arms)

-- the most arms that one parbegin has, of all parbegins inside
abbrev mutual
  pub widest_in_stmt : StmtSyntax → ℕ
  widest_in_stmt (assign line x e) = 0
  widest_in_stmt (print line e) = 0
  widest_in_stmt (if_else line e on_true on_false) = max (widest_in on_true) (widest_in on_false)
  widest_in_stmt (while_do line e body) = widest_in body
  widest_in_stmt (hold line demands body) = widest_in body
  widest_in_stmt (parbegin line arms) = max (width arms) (widest_in_arms arms)

  pub widest_in : StmtsSyntax → ℕ
  widest_in no_stmt = 0
  widest_in (stmt_then s ss) = max (widest_in_stmt s) (widest_in ss)

  pub widest_in_arms : ArmsSyntax → ℕ
  widest_in_arms no_arm = 0
  widest_in_arms (arm_then arm arms) = max (widest_in arm) (widest_in_arms arms)

-- how many arms all parbegins inside have together
abbrev mutual
  pub inner_arms_of_stmt : StmtSyntax → ℕ
  inner_arms_of_stmt (assign line x e) = 0
  inner_arms_of_stmt (print line e) = 0
  inner_arms_of_stmt (if_else line e on_true on_false) = inner_arms on_true + inner_arms on_false
  inner_arms_of_stmt (while_do line e body) = inner_arms body
  inner_arms_of_stmt (hold line demands body) = inner_arms body
  inner_arms_of_stmt (parbegin line arms) = width arms + inner_arms_of_arms arms

  pub inner_arms : StmtsSyntax → ℕ
  inner_arms no_stmt = 0
  inner_arms (stmt_then s ss) = inner_arms_of_stmt s + inner_arms ss

  pub inner_arms_of_arms : ArmsSyntax → ℕ
  inner_arms_of_arms no_arm = 0
  inner_arms_of_arms (arm_then arm arms) = inner_arms arm + inner_arms_of_arms arms

-- the most that one process has of something
abbrev pub most : (ProcessSyntax → ℕ) → List ProcessSyntax → ℕ
most number [] = 0
most number (process ∷ processes) = max (number process) (most number processes)

-- how many of a kind a program declares; of integers and arms the process that has the most counts, and of
-- the arms of one parbegin the widest one. The body of a process is an arm too
abbrev pub how_many : Kind → ProgramSyntax → ℕ
how_many Processes program = length program.processes
how_many Resources program = length program.resources
how_many Integers program = most (λ process. length process.integers) program.processes
how_many Fork program = most (λ process. widest_in process.body) program.processes
how_many Arms program = most (λ process. 1 + inner_arms process.body) program.processes

-- how many of a kind there may be
abbrev pub limit : Kind → ℕ
limit Processes = MAX_PROCESSES
limit Resources = MAX_RESOURCES
limit Integers = MAX_INTEGERS
limit Fork = MAX_FORK
limit Arms = MAX_ARMS

-- the kinds are looked at in this order
abbrev pub rank : Kind → ℕ
rank Processes = 0
rank Resources = 1
rank Integers = 2
rank Fork = 3
rank Arms = 4

-- the program has too many of a kind, and of no kind that is looked at before
pub record IsTooMany (program : ProgramSyntax) (kind : Kind) : Type 0 where
  pub passed : limit kind < how_many kind program
  pub first : (earlier : Kind) → rank earlier < rank kind → how_many earlier program ≤ limit earlier

-- the program has too many of no kind
pub record IsWithinLimits (program : ProgramSyntax) : Type 0 where
  pub within : (kind : Kind) → how_many kind program ≤ limit kind
