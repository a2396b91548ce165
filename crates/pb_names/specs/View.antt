-- The plain program of a numbered program in memory. Where it is in memory leaves no trace.
use Rattle.std.specs.Prelude.{List, [], ◌∷◌, map, Vec}
use Rattle.pb_names.specs.Program.{Number, Variable, Unary, Binary, Assign, Print, If, While, Hold, Parbegin}
use Rattle.pb_names.specs.Program.{Block, Skip, Then, Arms, NoArm, AndArm, Program}
use Rattle.pb_names.specs.Program as plain
use Rattle.pb_names.specs.declared.resolved.Expr.{Expr, fold-Expr}
use Rattle.pb_names.specs.declared.resolved.Expr.TheOpen.{Expr-F}
use Rattle.pb_names.specs.declared.resolved.Stmt.{Stmt, fold-Stmt}
use Rattle.pb_names.specs.declared.resolved.Stmt.TheOpen.{Stmt-F}
use Rattle.pb_names.specs.declared.resolved.Process.{Process}
use Rattle.pb_names.specs.declared.resolved.Resource.{Resource}
use Rattle.pb_names.specs.declared.resolved.Resolved.{Resolved}

-- one level, with each operand already seen as its plain expression
abbrev pub expr_step : {A : Type 0} → Expr-F A plain.Expr → plain.Expr
expr_step (Expr-F.Number value) = Number value
expr_step (Expr-F.Variable x) = Variable x
expr_step (Expr-F.Unary op e) = Unary op e.value
expr_step (Expr-F.Binary op a b) = Binary op a.value b.value

-- the plain expression of an expression in memory
abbrev pub expr_view : {A : Type 0} → Expr A → plain.Expr
expr_view {A} = fold-Expr A plain.Expr expr_step

-- a list of plain statements as a block
abbrev pub block_of : List plain.Stmt → Block
block_of [] = Skip
block_of (s ∷ ss) = Then s (block_of ss)

-- a list of blocks as the arms of a parbegin
abbrev pub arms_from : List Block → Arms
arms_from [] = NoArm
arms_from (arm ∷ arms) = AndArm arm (arms_from arms)

-- one level, with each statement inside already seen as its plain statement
abbrev pub stmt_step : {A : Type 0} → Stmt-F A plain.Stmt → plain.Stmt
stmt_step (Stmt-F.Assign line target value) = Assign line target (expr_view value)
stmt_step (Stmt-F.Print line value) = Print line (expr_view value)
stmt_step (Stmt-F.If line test on_true on_false) =
    If line (expr_view test) (block_of on_true.items) (block_of on_false.items)
stmt_step (Stmt-F.While line test body) = While line (expr_view test) (block_of body.items)
stmt_step (Stmt-F.Hold line bundle body) = Hold line bundle (block_of body.items)
stmt_step (Stmt-F.Parbegin line first arms) =
    Parbegin line first (arms_from (map (λ arm. block_of arm.items) arms.items))

-- the plain statement of a statement in memory
abbrev pub stmt_view : {A : Type 0} → Stmt A → plain.Stmt
stmt_view {A} = fold-Stmt A plain.Stmt stmt_step

-- the block of a list of statements in memory
abbrev pub block_view : {A : Type 0} → List (Stmt A) → Block
block_view ss = block_of (map stmt_view ss)

-- an arm's list
unfoldable pub arm_view : {A : Type 0} → Vec (Stmt A) A → Block
arm_view arm = block_view arm.items

-- the arms of a parbegin in memory
abbrev pub arms_view : {A : Type 0} → List (Vec (Stmt A) A) → Arms
arms_view arms = arms_from (map arm_view arms)

-- the plain process of a process in memory
abbrev pub process_view : {A : Type 0} → Process A → plain.Process
process_view p = record {
  name = p.name.items;
  integers = map (λ name. name.items) p.integers.items;
  body = block_view p.body.items;
}

-- the plain resource of a resource in memory
abbrev pub resource_view : {A : Type 0} → Resource A → plain.Resource
resource_view r = record { name = r.name.items; capital = r.capital }

-- the plain program of a numbered program in memory
abbrev pub resolved_view : {A : Type 0} → Resolved A → Program
resolved_view p = record {
  resources = map resource_view p.resources.items;
  processes = map process_view p.processes.items;
}
