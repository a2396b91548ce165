-- The plain tree of a tree in memory. Where it is in memory leaves no trace, so two trees with one view
-- are the same tree in whatever memory.
use Rattle.std.specs.Prelude.{List, [], ◌∷◌, map, Vec}
use Rattle.pb_tree.specs.Syntax.{NameSyntax, NumberSyntax, ExprSyntax, number, variable, unary, binary}
use Rattle.pb_tree.specs.Syntax.{DemandSyntax, StmtSyntax, assign, print, if_else, while_do, hold, parbegin}
use Rattle.pb_tree.specs.Syntax.{StmtsSyntax, no_stmt, stmt_then, ArmsSyntax, no_arm, arm_then}
use Rattle.pb_tree.specs.Syntax.{ResourceSyntax, ProcessSyntax, ProgramSyntax}
use Rattle.pb_tree.specs.declared.expr.Name.{Name}
use Rattle.pb_tree.specs.declared.expr.Number.{Number}
use Rattle.pb_tree.specs.declared.expr.Expr.{Expr, fold-Expr}
use Rattle.pb_tree.specs.declared.expr.Expr.TheOpen.{Expr-F}
use Rattle.pb_tree.specs.declared.stmt.Stmt.{Stmt, fold-Stmt}
use Rattle.pb_tree.specs.declared.stmt.Stmt.TheOpen.{Stmt-F}
use Rattle.pb_tree.specs.declared.stmt.Demand.{Demand}
use Rattle.pb_tree.specs.declared.program.Resource.{Resource}
use Rattle.pb_tree.specs.declared.program.Process.{Process}
use Rattle.pb_tree.specs.declared.program.Program.{Program}

-- a name
abbrev pub name_view : {A : Type 0} → Name A → NameSyntax
name_view n = record { text = n.text.items; at = n.at }

-- a number
abbrev pub number_view : Number → NumberSyntax
number_view n = record { value = n.value; at = n.at }

-- one level of an expression, with each operand already seen as its plain tree
abbrev pub expr_step : {A : Type 0} → Expr-F A ExprSyntax → ExprSyntax
expr_step (Expr-F.Number n) = number (number_view n)
expr_step (Expr-F.Variable x) = variable (name_view x)
expr_step (Expr-F.Unary op e) = unary op e.value
expr_step (Expr-F.Binary op a b) = binary op a.value b.value

-- an expression
abbrev pub expr_view : {A : Type 0} → Expr A → ExprSyntax
expr_view {A} = fold-Expr A ExprSyntax expr_step

-- a pair of a hold
abbrev pub demand_view : {A : Type 0} → Demand A → DemandSyntax
demand_view d = record { amount = number_view d.amount; resource = name_view d.resource }

-- a list of plain statements as one plain tree
abbrev pub stmts_of : List StmtSyntax → StmtsSyntax
stmts_of [] = no_stmt
stmts_of (s ∷ ss) = stmt_then s (stmts_of ss)

-- a list of plain arms as one plain tree
abbrev pub joined_arms : List StmtsSyntax → ArmsSyntax
joined_arms [] = no_arm
joined_arms (arm ∷ arms) = arm_then arm (joined_arms arms)

-- one level of a statement, with each statement inside already seen as its plain tree
abbrev pub stmt_step : {A : Type 0} → Stmt-F A StmtSyntax → StmtSyntax
stmt_step (Stmt-F.Assign line target value) = assign line (name_view target) (expr_view value)
stmt_step (Stmt-F.Print line value) = print line (expr_view value)
stmt_step (Stmt-F.If line test on_true on_false) =
    if_else line (expr_view test) (stmts_of on_true.items) (stmts_of on_false.items)
stmt_step (Stmt-F.While line test body) = while_do line (expr_view test) (stmts_of body.items)
stmt_step (Stmt-F.Hold line demands body) = hold line (map demand_view demands.items) (stmts_of body.items)
stmt_step (Stmt-F.Parbegin line arms) = parbegin line (joined_arms (map (λ arm. stmts_of arm.items) arms.items))

-- a statement
abbrev pub stmt_view : {A : Type 0} → Stmt A → StmtSyntax
stmt_view {A} = fold-Stmt A StmtSyntax stmt_step

-- a list of statements
abbrev pub stmts_view : {A : Type 0} → List (Stmt A) → StmtsSyntax
stmts_view ss = stmts_of (map stmt_view ss)

-- an arm
unfoldable pub arm_view : {A : Type 0} → Vec (Stmt A) A → StmtsSyntax
arm_view arm = stmts_view arm.items

-- the arms of a parbegin
abbrev pub arms_view : {A : Type 0} → List (Vec (Stmt A) A) → ArmsSyntax
arms_view arms = joined_arms (map arm_view arms)

-- a resource
abbrev pub resource_view : {A : Type 0} → Resource A → ResourceSyntax
resource_view r = record { name = name_view r.name; capital = number_view r.capital }

-- a process
abbrev pub process_view : {A : Type 0} → Process A → ProcessSyntax
process_view p = record {
  name = name_view p.name;
  integers = map name_view p.integers.items;
  body = stmts_view p.body.items;
}

-- a program
abbrev pub program_view : {A : Type 0} → Program A → ProgramSyntax
program_view p = record {
  resources = map resource_view p.resources.items;
  processes = map process_view p.processes.items;
}
