-- When a numbered program is that of a syntax tree: the tree is well formed, and numbers replace
-- its names. Each kind of names (resources, processes, the integers of one process) is numbered from 0 in
-- order of declaration.
use Rattle.std.specs.Prelude.{◌≡◌, ◌≢◌, ℕ, ◌≤◌, pos, List, length, map, slice_get, Some, AllPairs}
use Rattle.std.specs.List.{AllZip}
use Rattle.pb_base.specs.declared.limits.TheConstants.{MAX_AMOUNT, MAX_ARMS, MAX_FORK, MAX_INTEGERS, MAX_PROCESSES}
use Rattle.pb_base.specs.declared.limits.TheConstants.{MAX_RESOURCES}
use Rattle.pb_base.specs.declared.operators.UnaryOp.{UnaryOp}
use Rattle.pb_base.specs.declared.operators.BinaryOp.{BinaryOp}
use Rattle.pb_base.specs.declared.pair.Pair.{Pair}
use Rattle.pb_base.specs.Bundle.{IsDistinct}
use Rattle.pb_base.specs.Steppers.{Bundle}
use Rattle.pb_tree.specs.Syntax as tree
use Rattle.pb_names.specs.Program.{Name, Expr, Number, Variable, Unary, Binary}
use Rattle.pb_names.specs.Program.{Stmt, Assign, Print, If, While, Hold, Parbegin, Block, Skip, Then, Arms}
use Rattle.pb_names.specs.Program.{NoArm, AndArm}
use Rattle.pb_names.specs.Program.{count, Process, Resource, Program, arms_of, IsWellNumbered}

-- the texts of names
abbrev pub texts : List tree.NameSyntax → List Name
texts names = map (λ name. name.text) names

-- no two names are the same
abbrev pub AreDistinct : List Name → Type 0
AreDistinct names = AllPairs (λ a b. a ≢ b) names

-- the name is that of this number
abbrev pub IsNumber : List Name → tree.NameSyntax → ℕ → Type 0
IsNumber names name i = slice_get names i ≡ Some name.text

-- a variable is an integer of its process
pub data ResolvesExpr (integers : List Name) : tree.ExprSyntax → Expr → Type 0 where
  number : (n : tree.NumberSyntax) → ResolvesExpr integers (tree.number n) (Number n.value)
  variable : (x : tree.NameSyntax) (i : ℕ)
      → IsNumber integers x i → ResolvesExpr integers (tree.variable x) (Variable i)
  unary : (op : UnaryOp) (e : tree.ExprSyntax) (e' : Expr)
      → ResolvesExpr integers e e' → ResolvesExpr integers (tree.unary op e) (Unary op e')
  binary : (op : BinaryOp) (a b : tree.ExprSyntax) (a' b' : Expr)
      → ResolvesExpr integers a a' → ResolvesExpr integers b b'
      → ResolvesExpr integers (tree.binary op a b) (Binary op a' b')

-- a pair of a hold: a resource, and an amount from 1 to 1,000,000
pub record ResolvesDemand (resources : List Name) (demand : tree.DemandSyntax) (pair : Pair) : Type 0 where
  pub resource : IsNumber resources demand.resource pair.resource
  pub amount : demand.amount.value ≡ pos pair.amount
  pub some : 1 ≤ pair.amount
  pub small : pair.amount ≤ MAX_AMOUNT

-- a hold has a pair; its pairs keep their order, and none names a resource again
pub record ResolvesDemands (resources : List Name) (demands : List tree.DemandSyntax) (bundle : Bundle)
    : Type 0 where
  pub some : 1 ≤ length bundle
  pub each : AllZip (ResolvesDemand resources) demands bundle
  pub distinct : IsDistinct bundle

-- statements keep their lines; a target is an integer of the process; a parbegin has 1 to 16 arms
mutual
  pub data ResolvesStmt (integers resources : List Name) : tree.StmtSyntax → Stmt → Type 0 where
    assign : (line : ℕ) (x : tree.NameSyntax) (i : ℕ) (e : tree.ExprSyntax) (e' : Expr)
        → IsNumber integers x i → ResolvesExpr integers e e'
        → ResolvesStmt integers resources (tree.assign line x e) (Assign line i e')
    print : (line : ℕ) (e : tree.ExprSyntax) (e' : Expr)
        → ResolvesExpr integers e e' → ResolvesStmt integers resources (tree.print line e) (Print line e')
    if_else : (line : ℕ) (e : tree.ExprSyntax) (e' : Expr) (a b : tree.StmtsSyntax) (a' b' : Block)
        → ResolvesExpr integers e e'
        → ResolvesStmts integers resources a a' → ResolvesStmts integers resources b b'
        → ResolvesStmt integers resources (tree.if_else line e a b) (If line e' a' b')
    while_do : (line : ℕ) (e : tree.ExprSyntax) (e' : Expr) (body : tree.StmtsSyntax) (body' : Block)
        → ResolvesExpr integers e e' → ResolvesStmts integers resources body body'
        → ResolvesStmt integers resources (tree.while_do line e body) (While line e' body')
    hold : (line : ℕ) (demands : List tree.DemandSyntax) (bundle : Bundle)
        (body : tree.StmtsSyntax) (body' : Block)
        → ResolvesDemands resources demands bundle → ResolvesStmts integers resources body body'
        → ResolvesStmt integers resources (tree.hold line demands body) (Hold line bundle body')
    parbegin : (line first : ℕ) (arms : tree.ArmsSyntax) (arms' : Arms)
        → (1 ≤ count arms') × (count arms' ≤ MAX_FORK) → ResolvesArms integers resources arms arms'
        → ResolvesStmt integers resources (tree.parbegin line arms) (Parbegin line first arms')

  pub data ResolvesStmts (integers resources : List Name) : tree.StmtsSyntax → Block → Type 0 where
    no_stmt : ResolvesStmts integers resources tree.no_stmt Skip
    stmt_then : (s : tree.StmtSyntax) (s' : Stmt) (ss : tree.StmtsSyntax) (block : Block)
        → ResolvesStmt integers resources s s' → ResolvesStmts integers resources ss block
        → ResolvesStmts integers resources (tree.stmt_then s ss) (Then s' block)

  pub data ResolvesArms (integers resources : List Name) : tree.ArmsSyntax → Arms → Type 0 where
    no_arm : ResolvesArms integers resources tree.no_arm NoArm
    arm_then : (arm : tree.StmtsSyntax) (arm' : Block) (arms : tree.ArmsSyntax) (arms' : Arms)
        → ResolvesStmts integers resources arm arm' → ResolvesArms integers resources arms arms'
        → ResolvesArms integers resources (tree.arm_then arm arms) (AndArm arm' arms')

-- a process keeps its name and the names of its integers, at most 64; its arms, at most 64, are numbered
pub record ResolvesProcess (resources : List Name) (written : tree.ProcessSyntax) (process : Process)
    : Type 0 where
  pub name : process.name ≡ written.name.text
  pub integers : process.integers ≡ texts written.integers
  pub distinct : AreDistinct process.integers
  pub few_integers : length process.integers ≤ MAX_INTEGERS
  pub body : ResolvesStmts process.integers resources written.body process.body
  pub numbered : IsWellNumbered process
  pub few_arms : length (arms_of process) ≤ MAX_ARMS

-- a resource keeps its name and its capital, at most 1,000,000
pub record ResolvesResource (written : tree.ResourceSyntax) (resource : Resource) : Type 0 where
  pub name : resource.name ≡ written.name.text
  pub capital : written.capital.value ≡ pos resource.capital
  pub small : resource.capital ≤ MAX_AMOUNT

-- the names of the resources, by number
abbrev pub resource_names : Program → List Name
resource_names program = map (λ resource. resource.name) program.resources

-- the names of the processes, by number
abbrev pub process_names : Program → List Name
process_names program = map (λ process. process.name) program.processes

-- a program of 1 to 64 processes and at most 16 resources
pub record Resolves (written : tree.ProgramSyntax) (program : Program) : Type 0 where
  pub resources : AllZip ResolvesResource written.resources program.resources
  pub processes : AllZip (ResolvesProcess (resource_names program)) written.processes program.processes
  pub distinct_resources : AreDistinct (resource_names program)
  pub distinct_processes : AreDistinct (process_names program)
  pub few_resources : length program.resources ≤ MAX_RESOURCES
  pub some_processes : 1 ≤ length program.processes
  pub few_processes : length program.processes ≤ MAX_PROCESSES
