-- What an accepted program is warned of: a parbegin has one arm, an integer is never read, or a capital cannot be used.
use Rattle.std.specs.Prelude.{ℕ, suc, ◌+◌, ◌||◌, Bool, false, cond, nat_lt, List, [], ◌∷◌, ◌++◌, slice_index}
use Rattle.std.specs.Int.RustNames.{unsigned_abs}
use Rattle.std.specs.List.{flat_map}
use Rattle.std.specs.Str.{bytes_eq}
use Rattle.pb_base.specs.Steppers.{Table}
use Rattle.pb_lexer.specs.Cutting.{line_at}
use Rattle.pb_tree.specs.Syntax as tree
use Rattle.pb_warnings.specs.declared.warning.Warning.{Warning as Given}
use Rattle.pb_warnings.specs.declared.warning.Warning.TheVariants as given

-- one warning, with the line of what it is about
pub data Warning : Type 0 where
  OneArm : (line : ℕ) → Warning
  NeverRead : (line : ℕ) (process integer : List ℕ) → Warning
  NotUsed : (line : ℕ) (resource : List ℕ) (claims capital : ℕ) → Warning

-- the warning that a warning of the code is
abbrev pub warning : Given → Warning
warning (given.OneArm line) = OneArm line
warning (given.NeverRead line process integer) = NeverRead line process.items integer.items
warning (given.NotUsed line resource claims capital) = NotUsed line resource.items claims capital

-- ---- a parbegin has one arm

-- the warning of a parbegin with these arms: there is one
abbrev pub lone_arm : ℕ → tree.ArmsSyntax → List Warning
lone_arm line tree.no_arm = []
lone_arm line (tree.arm_then arm tree.no_arm) = OneArm line ∷ []
lone_arm line (tree.arm_then arm (tree.arm_then other arms)) = []

-- the parbegins with one arm in a statement, in a list of statements, and in arms: each before those inside it
abbrev mutual
  pub lone_in_stmt : tree.StmtSyntax → List Warning
  lone_in_stmt (tree.assign line x e) = []
  lone_in_stmt (tree.print line e) = []
  lone_in_stmt (tree.if_else line e a b) = lone_in a ++ lone_in b
  lone_in_stmt (tree.while_do line e body) = lone_in body
  lone_in_stmt (tree.hold line demands body) = lone_in body
  lone_in_stmt (tree.parbegin line arms) = lone_arm line arms ++ lone_in_arms arms

  pub lone_in : tree.StmtsSyntax → List Warning
  lone_in tree.no_stmt = []
  lone_in (tree.stmt_then s ss) = lone_in_stmt s ++ lone_in ss

  pub lone_in_arms : tree.ArmsSyntax → List Warning
  lone_in_arms tree.no_arm = []
  lone_in_arms (tree.arm_then arm arms) = lone_in arm ++ lone_in_arms arms

-- ---- an integer is never read

-- the integer of this name stands in an expression
abbrev pub expr_reads : List ℕ → tree.ExprSyntax → Bool
expr_reads name (tree.number n) = false
expr_reads name (tree.variable x) = bytes_eq x.text name
expr_reads name (tree.unary op e) = expr_reads name e
expr_reads name (tree.binary op a b) = expr_reads name a || expr_reads name b

-- it stands in an expression of a statement, of a list of statements, or of arms: on the right of an assignment, in a
-- print, or in a test
abbrev mutual
  pub stmt_reads : List ℕ → tree.StmtSyntax → Bool
  stmt_reads name (tree.assign line x e) = expr_reads name e
  stmt_reads name (tree.print line e) = expr_reads name e
  stmt_reads name (tree.if_else line e a b) = expr_reads name e || (stmts_read name a || stmts_read name b)
  stmt_reads name (tree.while_do line e body) = expr_reads name e || stmts_read name body
  stmt_reads name (tree.hold line demands body) = stmts_read name body
  stmt_reads name (tree.parbegin line arms) = arms_read name arms

  pub stmts_read : List ℕ → tree.StmtsSyntax → Bool
  stmts_read name tree.no_stmt = false
  stmts_read name (tree.stmt_then s ss) = stmt_reads name s || stmts_read name ss

  pub arms_read : List ℕ → tree.ArmsSyntax → Bool
  arms_read name tree.no_arm = false
  arms_read name (tree.arm_then arm arms) = stmts_read name arm || arms_read name arms

-- the warning of an integer of a process: no statement of the process reads it
abbrev pub unread : List ℕ → tree.ProcessSyntax → tree.NameSyntax → List Warning
unread text process x =
    cond (stmts_read x.text process.body) [] (NeverRead (line_at text x.at) process.name.text x.text ∷ [])

-- ---- a capital cannot be used

-- what all processes together may hold of resource r at most: all their claims
abbrev pub all_claims : Table → ℕ → ℕ
all_claims [] r = 0
all_claims (row ∷ claims) r = slice_index row r + all_claims claims r

-- how many units a resource has
abbrev pub units : tree.ResourceSyntax → ℕ
units resource = unsigned_abs resource.capital.value

-- the warning of resource r: it has more units than all processes together may hold
abbrev pub unused : List ℕ → Table → ℕ → tree.ResourceSyntax → List Warning
unused text claims r resource =
    cond (nat_lt (all_claims claims r) (units resource))
    (NotUsed (line_at text resource.name.at) resource.name.text (all_claims claims r) (units resource) ∷ []) []

-- the warnings of resources, the first of which has this number
abbrev pub resource_warnings : List ℕ → Table → ℕ → List tree.ResourceSyntax → List Warning
resource_warnings text claims r [] = []
resource_warnings text claims r (resource ∷ resources) =
    unused text claims r resource ++ resource_warnings text claims (suc r) resources

-- the warnings of a process: of its integers, then of its statements
abbrev pub process_warnings : List ℕ → tree.ProcessSyntax → List Warning
process_warnings text process = flat_map (unread text process) process.integers ++ lone_in process.body

-- the warnings of a program with these claims, in the order of its text
abbrev pub program_warnings : List ℕ → tree.ProgramSyntax → Table → List Warning
program_warnings text program claims =
    resource_warnings text claims 0 program.resources ++ flat_map (process_warnings text) program.processes
