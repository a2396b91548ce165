-- The syntax tree as plain data, with no allocator in it. Every definition of the language speaks of this
-- tree: what it leaves out, as where the tree is in memory, has no meaning.
use Rattle.std.specs.Prelude.{ℕ, ℤ, List}
use Rattle.pb_base.specs.declared.operators.BinaryOp.{BinaryOp}
use Rattle.pb_base.specs.declared.operators.UnaryOp.{UnaryOp}

-- a name's bytes, and its byte offset, from 0
pub record NameSyntax : Type 0 where
  pub text : List ℕ
  pub at : ℕ

-- a number's value, and its byte offset, from 0
pub record NumberSyntax : Type 0 where
  pub value : ℤ
  pub at : ℕ

-- an expression: what it is made of, without brackets
pub data ExprSyntax : Type 0 where
  number : NumberSyntax → ExprSyntax
  variable : NameSyntax → ExprSyntax
  unary : UnaryOp → ExprSyntax → ExprSyntax
  binary : BinaryOp → ExprSyntax → ExprSyntax → ExprSyntax

-- one pair of a hold: how much of which resource
pub record DemandSyntax : Type 0 where
  pub amount : NumberSyntax
  pub resource : NameSyntax

-- A statement says on which line, from 1, its first token is. `skip` is not a statement here, and an inner
-- `begin .. end` is the list of what is in it.
mutual
  pub data StmtSyntax : Type 0 where
    assign : (line : ℕ) → NameSyntax → ExprSyntax → StmtSyntax
    print : (line : ℕ) → ExprSyntax → StmtSyntax
    if_else : (line : ℕ) → ExprSyntax → (on_true on_false : StmtsSyntax) → StmtSyntax
    while_do : (line : ℕ) → ExprSyntax → (body : StmtsSyntax) → StmtSyntax
    hold : (line : ℕ) → List DemandSyntax → (body : StmtsSyntax) → StmtSyntax
    parbegin : (line : ℕ) → (arms : ArmsSyntax) → StmtSyntax

  -- a list of statements, in their order
  pub data StmtsSyntax : Type 0 where
    no_stmt : StmtsSyntax
    stmt_then : StmtSyntax → StmtsSyntax → StmtsSyntax

  -- the arms of a parbegin, each of them a list of statements
  pub data ArmsSyntax : Type 0 where
    no_arm : ArmsSyntax
    arm_then : StmtsSyntax → ArmsSyntax → ArmsSyntax

-- a resource, and how much of it there is
pub record ResourceSyntax : Type 0 where
  pub name : NameSyntax
  pub capital : NumberSyntax

-- a process, with the names of its integers
pub record ProcessSyntax : Type 0 where
  pub name : NameSyntax
  pub integers : List NameSyntax
  pub body : StmtsSyntax

-- a program: its resources and its processes, in their order
pub record ProgramSyntax : Type 0 where
  pub resources : List ResourceSyntax
  pub processes : List ProcessSyntax

-- the line of a statement's first token
abbrev pub stmt_line : StmtSyntax → ℕ
stmt_line (assign line x e) = line
stmt_line (print line e) = line
stmt_line (if_else line e on_true on_false) = line
stmt_line (while_do line e body) = line
stmt_line (hold line demands body) = line
stmt_line (parbegin line arms) = line

-- one list of statements after the other
abbrev pub stmts_append : StmtsSyntax → StmtsSyntax → StmtsSyntax
stmts_append no_stmt rest = rest
stmts_append (stmt_then s ss) rest = stmt_then s (stmts_append ss rest)

-- some arms after others
abbrev pub arms_append : ArmsSyntax → ArmsSyntax → ArmsSyntax
arms_append no_arm rest = rest
arms_append (arm_then ss arms) rest = arm_then ss (arms_append arms rest)
