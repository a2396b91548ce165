-- The instructions of a program.
use Rattle.std.specs.Prelude.{ℕ, ◌+◌, List, [], ◌∷◌, ◌++◌, length, map}
use Rattle.pb_base.specs.Lines.{NameTable}
use Rattle.pb_base.specs.Steppers.{Table}
use Rattle.pb_names.specs.Program.{Expr, Number, Variable, Unary, Binary, Stmt, Assign, Print, If, While, Hold}
use Rattle.pb_names.specs.Program.{Parbegin, Block, Skip, Then, count, Process, Program, arms_of, capital_of}
use Rattle.pb_names.specs.Resolves.{process_names, resource_names}
use Rattle.pb_code.specs.Whole.{Code}
use Rattle.pb_code.specs.Code.{Instr, Push, Load, Store, Compute1, Compute2, Jump, JumpIfZero, PrintTop, Take}
use Rattle.pb_code.specs.Code.{Give, Fork, Join, End, ProcessCode}

-- the code of an expression: its operands from the left, then what is computed of them
abbrev pub expr_code : Expr → List Instr
expr_code (Number v) = Push v ∷ []
expr_code (Variable x) = Load x ∷ []
expr_code (Unary op a) = expr_code a ++ (Compute1 op ∷ [])
expr_code (Binary op a b) = expr_code a ++ (expr_code b ++ (Compute2 op ∷ []))

-- the code of a statement whose first instruction has this place
abbrev mutual
  pub stmt_code : ℕ → Stmt → List Instr
  stmt_code place (Assign line x e) = expr_code e ++ (Store x ∷ [])
  stmt_code place (Print line e) = expr_code e ++ (PrintTop ∷ [])
  stmt_code place (If line e a b) =
      let then = place + length (expr_code e) + 1 in
      let other = then + length (block_code then a) + 1 in
      let after = other + length (block_code other b) in
      expr_code e ++ (JumpIfZero other ∷ (block_code then a ++ (Jump after ∷ block_code other b)))
  stmt_code place (While line e body) =
      let start = place + length (expr_code e) + 1 in
      let after = start + length (block_code start body) + 1 in
      expr_code e ++ (JumpIfZero after ∷ (block_code start body ++ (Jump place ∷ [])))
  stmt_code place (Hold line bundle body) =
      Take bundle ∷ (block_code (place + 1) body ++ (Give bundle ∷ []))
  stmt_code place (Parbegin line first arms) = Fork first (count arms) ∷ Join first (count arms) ∷ []

  -- the code of a list of statements
  pub block_code : ℕ → Block → List Instr
  block_code place Skip = []
  block_code place (Then s block) = stmt_code place s ++ block_code (place + length (stmt_code place s)) block

-- the code of an arm: its list, and the end
abbrev pub arm_code : ℕ → Block → List Instr
arm_code place arm = block_code place arm ++ (End ∷ [])

-- arms follow one another by number
abbrev pub arms_code : ℕ → List Block → List Instr
arms_code place [] = []
arms_code place (arm ∷ arms) = arm_code place arm ++ arms_code (place + length (arm_code place arm)) arms

-- the place at which each arm begins
abbrev pub arms_entries : ℕ → List Block → List ℕ
arms_entries place [] = []
arms_entries place (arm ∷ arms) = place ∷ arms_entries (place + length (arm_code place arm)) arms

-- the code of a process: its body is arm 0
abbrev pub process_code : Process → ProcessCode
process_code process = record {
  integers = length process.integers;
  entries = arms_entries 0 (arms_of process);
  instrs = arms_code 0 (arms_of process);
}

-- the names of a program, by number
abbrev pub names_of : Program → NameTable
names_of program = record { processes = process_names program; resources = resource_names program }

-- the code of a program whose processes have these claims
abbrev pub program_code : Program → Table → Code
program_code program claims = record {
  names = names_of program;
  capital = capital_of program;
  claims = claims;
  processes = map process_code program.processes;
}
