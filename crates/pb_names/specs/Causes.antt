-- What is wrong with the names and amounts of a program, and where: names declared twice, names that are not
-- declared, amounts out of range, and resources that a hold names again.
use Rattle.std.specs.Prelude.{◌≡◌, ◌≢◌, ℕ, ◌≤◌, pos, List, map, take, slice_get, Some, ◌⊎◌}
use Rattle.pb_base.specs.declared.limits.TheConstants.{MAX_AMOUNT}
use Rattle.pb_tree.specs.Syntax.{NameSyntax, NumberSyntax, DemandSyntax, ResourceSyntax, ProcessSyntax}
use Rattle.pb_tree.specs.Syntax.{ProgramSyntax, ExprSyntax, number, variable, unary, binary}
use Rattle.pb_tree.specs.Syntax.{StmtSyntax, assign, print, if_else, while_do, hold, parbegin}
use Rattle.pb_tree.specs.Syntax.{StmtsSyntax, no_stmt, stmt_then, ArmsSyntax, no_arm, arm_then}
use Rattle.pb_names.specs.Program.{Name}
use Rattle.pb_names.specs.Resolves.{texts, IsNumber}
use Rattle.pb_names.specs.declared.causes.Cause.{Cause}
use Rattle.pb_names.specs.declared.causes.Wrong.{Wrong}
use Rattle.pb_names.specs.declared.causes.Wrong.TheVariants.{Twice, Unknown, Amount, Repeated}

-- ---- sets of causes

-- a set of causes
abbrev pub Causes : Type 1
Causes = Cause → Type 0

-- no cause
abbrev pub Nothing : Causes
Nothing cause = ⊥

-- the causes of two sets together
abbrev pub Either : Causes → Causes → Causes
Either P Q cause = P cause ⊎ Q cause

-- those of one element of a list, which depend on it and on the elements before it
pub record Among {T : Type 0} (of : List T → T → Causes) (xs : List T) (cause : Cause) : Type 0 where
  pub place : ℕ
  pub element : T
  pub here : slice_get xs place ≡ Some element
  pub wrong : of (take place xs) element cause

-- ---- single names and numbers

-- the name is not declared
pub record IsUnknown (declared : List Name) (name : NameSyntax) (cause : Cause) : Type 0 where
  pub undeclared : (i : ℕ) → ¬ IsNumber declared name i
  pub is : cause ≡ record { at = name.at; wrong = Unknown }

-- the name is one of those before it
pub record IsAgain (wrong : Wrong) (before : List Name) (name : NameSyntax) (cause : Cause) : Type 0 where
  pub first : ℕ
  pub again : IsNumber before name first
  pub is : cause ≡ record { at = name.at; wrong = wrong }

-- the number is none from the least to 1,000,000
pub record IsOutside (least : ℕ) (n : NumberSyntax) (cause : Cause) : Type 0 where
  pub outside : (k : ℕ) → least ≤ k → k ≤ MAX_AMOUNT → n.value ≢ pos k
  pub is : cause ≡ record { at = n.at; wrong = Amount }

-- ---- expressions and statements: variables and targets are integers, holds name resources

-- what is wrong in an expression: names that are no integers of the process
abbrev pub InExpr : List Name → ExprSyntax → Causes
InExpr integers (number n) = Nothing
InExpr integers (variable x) = IsUnknown integers x
InExpr integers (unary op e) = InExpr integers e
InExpr integers (binary op a b) = Either (InExpr integers a) (InExpr integers b)

-- a pair of a hold: its amount is at least 1, and its resource is in no pair before it
abbrev pub InDemand : List Name → List DemandSyntax → DemandSyntax → Causes
InDemand resources before demand =
    Either (IsOutside 1 demand.amount)
    (Either (IsUnknown resources demand.resource)
    (IsAgain Repeated (texts (map (λ d. d.resource) before)) demand.resource))

-- what is wrong in a statement, in a list of statements, and in the arms of a parbegin
abbrev mutual
  pub InStmt : (integers resources : List Name) → StmtSyntax → Causes
  InStmt integers resources (assign line x e) = Either (IsUnknown integers x) (InExpr integers e)
  InStmt integers resources (print line e) = InExpr integers e
  InStmt integers resources (if_else line e on_true on_false) =
      Either (InExpr integers e)
      (Either (InStmts integers resources on_true) (InStmts integers resources on_false))
  InStmt integers resources (while_do line e body) =
      Either (InExpr integers e) (InStmts integers resources body)
  InStmt integers resources (hold line demands body) =
      Either (Among (InDemand resources) demands) (InStmts integers resources body)
  InStmt integers resources (parbegin line arms) = InArms integers resources arms

  pub InStmts : (integers resources : List Name) → StmtsSyntax → Causes
  InStmts integers resources no_stmt = Nothing
  InStmts integers resources (stmt_then s ss) =
      Either (InStmt integers resources s) (InStmts integers resources ss)

  pub InArms : (integers resources : List Name) → ArmsSyntax → Causes
  InArms integers resources no_arm = Nothing
  InArms integers resources (arm_then arm arms) =
      Either (InStmts integers resources arm) (InArms integers resources arms)

-- ---- declarations

-- an integer is declared once in its process
abbrev pub InInteger : List NameSyntax → NameSyntax → Causes
InInteger before x = IsAgain Twice (texts before) x

-- a resource is declared once, and its capital is at most 1,000,000
abbrev pub InResource : List ResourceSyntax → ResourceSyntax → Causes
InResource before resource =
    Either (IsAgain Twice (texts (map (λ r. r.name) before)) resource.name) (IsOutside 0 resource.capital)

-- each integer of a process is declared once, and its body uses its integers and the resources
abbrev pub InsideProcess : (resources : List Name) → ProcessSyntax → Causes
InsideProcess resources process =
    Either (Among InInteger process.integers) (InStmts (texts process.integers) resources process.body)

-- a process is declared once
abbrev pub InProcess : (resources : List Name) → List ProcessSyntax → ProcessSyntax → Causes
InProcess resources before process =
    Either (IsAgain Twice (texts (map (λ p. p.name) before)) process.name) (InsideProcess resources process)

-- all that is wrong with a program
abbrev pub InProgram : ProgramSyntax → Causes
InProgram program =
    Either (Among InResource program.resources)
    (Among (InProcess (texts (map (λ r. r.name) program.resources))) program.processes)
