-- The source line of each place of the code: that of the item with which the arm's list begins there.
use Rattle.std.specs.Prelude.{ℕ, suc, List, [], ◌∷◌, ◌++◌, length, map, replicate, Option, Some, None}
use Rattle.pb_names.specs.Program.{Stmt, Assign, Print, If, While, Hold, Parbegin, Block, Skip, Then, Process}
use Rattle.pb_names.specs.HeadLines.{stmt_line}
use Rattle.pb_names.specs.Program.{Program, arms_of}
use Rattle.pb_code.specs.Whole.{ProcessLabels}
use Rattle.pb_generator.specs.Generate.{expr_code}

-- the line of a block's first statement, or of what follows
abbrev pub block_line : Block → Option ℕ → Option ℕ
block_line Skip after = after
block_line (Then s block) after = Some (stmt_line s)

-- the lines of the places of a statement, if what follows it has a given line
abbrev mutual
  pub stmt_lines : Stmt → Option ℕ → List (Option ℕ)
  stmt_lines (Assign line x e) after = replicate (suc (length (expr_code e))) (Some line)
  stmt_lines (Print line e) after = replicate (suc (length (expr_code e))) (Some line)
  stmt_lines (If line e a b) after =
      replicate (suc (length (expr_code e))) (Some line)
      ++ (block_lines a after ++ (after ∷ block_lines b after))
  stmt_lines (While line e body) after =
      replicate (suc (length (expr_code e))) (Some line) ++ (block_lines body (Some line) ++ (Some line ∷ []))
  stmt_lines (Hold line bundle body) after = Some line ∷ (block_lines body (Some line) ++ (Some line ∷ []))
  stmt_lines (Parbegin line first arms) after = Some line ∷ Some line ∷ []

  -- those of a list of statements
  pub block_lines : Block → Option ℕ → List (Option ℕ)
  block_lines Skip after = []
  block_lines (Then s block) after = stmt_lines s (block_line block after) ++ block_lines block after

-- those of arms: nothing follows an arm's list, and its end has no line
abbrev pub arms_lines : List Block → List (Option ℕ)
arms_lines [] = []
arms_lines (arm ∷ arms) = (block_lines arm None ++ (None ∷ [])) ++ arms_lines arms

-- the line of each place of a process's code
abbrev pub process_lines : Process → List (Option ℕ)
process_lines process = arms_lines (arms_of process)

-- the labels of a process's code: a line for each place, if it has one, and the names of the integers
abbrev pub process_labels : Process → ProcessLabels
process_labels process = record { lines = process_lines process; integers = process.integers }

-- the labels of a program's code
abbrev pub program_labels : Program → List ProcessLabels
program_labels program = map process_labels program.processes
