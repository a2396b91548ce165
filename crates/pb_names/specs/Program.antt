-- Programs after names became numbers.
use Rattle.std.specs.Prelude.{◌≡◌, ℕ, suc, ◌+◌, ℤ, List, [], ◌∷◌, ◌++◌, length, map, ⊤}
use Rattle.pb_base.specs.declared.operators.UnaryOp.{UnaryOp}
use Rattle.pb_base.specs.declared.operators.BinaryOp.{BinaryOp}
use Rattle.pb_base.specs.Steppers.{Bundle}

-- expressions: an integer is named by its number
pub data Expr : Type 0 where
  Number : ℤ → Expr
  Variable : ℕ → Expr
  Unary : UnaryOp → Expr → Expr
  Binary : BinaryOp → Expr → Expr → Expr

-- statements, with their lines; a parbegin has the number of its first arm
mutual
  pub data Stmt : Type 0 where
    Assign : (line x : ℕ) → Expr → Stmt
    Print : (line : ℕ) → Expr → Stmt
    If : (line : ℕ) → Expr → (then other : Block) → Stmt
    While : (line : ℕ) → Expr → (body : Block) → Stmt
    Hold : (line : ℕ) → Bundle → (body : Block) → Stmt
    Parbegin : (line first : ℕ) → Arms → Stmt

  -- a list of statements
  pub data Block : Type 0 where
    Skip : Block
    Then : Stmt → Block → Block

  -- the arms of a parbegin
  pub data Arms : Type 0 where
    NoArm : Arms
    AndArm : Block → Arms → Arms

-- how many arms a parbegin has
abbrev pub count : Arms → ℕ
count NoArm = 0
count (AndArm arm arms) = suc (count arms)

-- the arms of a parbegin as a list of their bodies
abbrev pub arms_list : Arms → List Block
arms_list NoArm = []
arms_list (AndArm arm arms) = arm ∷ arms_list arms

-- the arms inside a statement, in the order of their numbers
abbrev mutual
  pub arms_in_stmt : Stmt → List Block
  arms_in_stmt (Assign line x e) = []
  arms_in_stmt (Print line e) = []
  arms_in_stmt (If line e a b) = arms_in a ++ arms_in b
  arms_in_stmt (While line e body) = arms_in body
  arms_in_stmt (Hold line bundle body) = arms_in body
  arms_in_stmt (Parbegin line first arms) = arms_list arms ++ arms_in_arms arms

  pub arms_in : Block → List Block
  arms_in Skip = []
  arms_in (Then s block) = arms_in_stmt s ++ arms_in block

  pub arms_in_arms : Arms → List Block
  arms_in_arms NoArm = []
  arms_in_arms (AndArm arm arms) = arms_in arm ++ arms_in_arms arms

-- the arms inside are numbered from n on: those of a parbegin, then what is in them, arm by arm
abbrev mutual
  pub IsNumberedStmt : ℕ → Stmt → Type 0
  IsNumberedStmt n (Assign line x e) = ⊤
  IsNumberedStmt n (Print line e) = ⊤
  IsNumberedStmt n (If line e a b) = IsNumbered n a × IsNumbered (n + length (arms_in a)) b
  IsNumberedStmt n (While line e body) = IsNumbered n body
  IsNumberedStmt n (Hold line bundle body) = IsNumbered n body
  IsNumberedStmt n (Parbegin line first arms) = (first ≡ n) × AreNumbered (n + count arms) arms

  pub IsNumbered : ℕ → Block → Type 0
  IsNumbered n Skip = ⊤
  IsNumbered n (Then s block) = IsNumberedStmt n s × IsNumbered (n + length (arms_in_stmt s)) block

  pub AreNumbered : ℕ → Arms → Type 0
  AreNumbered n NoArm = ⊤
  AreNumbered n (AndArm arm arms) = IsNumbered n arm × AreNumbered (n + length (arms_in arm)) arms

-- a name's bytes
abbrev pub Name : Type 0
Name = List ℕ

-- a process with its name, the names of its integers, by number, and its body
pub record Process : Type 0 where
  pub name : Name
  pub integers : List Name
  pub body : Block

-- arm 0 is the body
abbrev pub arms_of : Process → List Block
arms_of process = process.body ∷ arms_in process.body

-- the arms inside the body are numbered from 1 on
abbrev pub IsWellNumbered : Process → Type 0
IsWellNumbered process = IsNumbered 1 process.body

-- a resource with its name and its capital
pub record Resource : Type 0 where
  pub name : Name
  pub capital : ℕ

-- a program after names became numbers: its resources and its processes, by number
pub record Program : Type 0 where
  pub resources : List Resource
  pub processes : List Process

-- the capital of each resource, by number
abbrev pub capital_of : Program → List ℕ
capital_of program = map (λ resource. resource.capital) program.resources

-- the arms of each process are well numbered
abbrev pub AllWellNumbered : List Process → Type 0
AllWellNumbered [] = ⊤
AllWellNumbered (process ∷ program) = IsWellNumbered process × AllWellNumbered program
