-- The names of a text, in its order: what each names, its bytes, its offset, and whether it declares what it names.
use Rattle.std.specs.Prelude.{ℕ, suc, ◌-◌, ◌==◌, ◌&&◌, nat_le, Bool, true, false, List, [], ◌∷◌, ◌++◌, length, map}
use Rattle.std.specs.Str.{bytes_eq}
use Rattle.pb_tree.specs.Syntax as tree
use Rattle.pb_outline.specs.declared.place.Kind.{Kind}
use Rattle.pb_outline.specs.declared.place.Kind.TheVariants.{Resource, Process, Integer}
use Rattle.pb_outline.specs.declared.place.Place.{Place as Given}
use Rattle.pb_outline.specs.declared.outline.Outline.{Outline}

-- a place where a name stands
pub record Place : Type 0 where
  pub kind : Kind
  pub text : List ℕ
  pub at : ℕ
  pub declares : Bool

-- the place that a place of the code is
abbrev pub place : Given → Place
place p = record { kind = p.kind; text = p.text.now; at = p.at; declares = p.declares }

-- where a name declares something
abbrev pub declared : Kind → tree.NameSyntax → Place
declared kind name = record { kind = kind; text = name.text; at = name.at; declares = true }

-- where a name is used
abbrev pub used : Kind → tree.NameSyntax → Place
used kind name = record { kind = kind; text = name.text; at = name.at; declares = false }

-- the names of an expression in process p
abbrev pub expr_places : ℕ → tree.ExprSyntax → List Place
expr_places p (tree.number n) = []
expr_places p (tree.variable x) = used (Integer p) x ∷ []
expr_places p (tree.unary op e) = expr_places p e
expr_places p (tree.binary op a b) = expr_places p a ++ expr_places p b

-- the resources of the pairs of a hold
abbrev pub demand_places : List tree.DemandSyntax → List Place
demand_places demands = map (λ demand. used Resource demand.resource) demands

-- the names of a statement, of a list of statements, and of arms
abbrev mutual
  pub stmt_places : ℕ → tree.StmtSyntax → List Place
  stmt_places p (tree.assign line x e) = used (Integer p) x ∷ expr_places p e
  stmt_places p (tree.print line e) = expr_places p e
  stmt_places p (tree.if_else line e a b) = expr_places p e ++ (stmts_places p a ++ stmts_places p b)
  stmt_places p (tree.while_do line e body) = expr_places p e ++ stmts_places p body
  stmt_places p (tree.hold line demands body) = demand_places demands ++ stmts_places p body
  stmt_places p (tree.parbegin line arms) = arms_places p arms

  pub stmts_places : ℕ → tree.StmtsSyntax → List Place
  stmts_places p tree.no_stmt = []
  stmts_places p (tree.stmt_then s ss) = stmt_places p s ++ stmts_places p ss

  pub arms_places : ℕ → tree.ArmsSyntax → List Place
  arms_places p tree.no_arm = []
  arms_places p (tree.arm_then arm arms) = stmts_places p arm ++ arms_places p arms

-- the names of process p: its own, its integers, and those of its body
abbrev pub process_places : ℕ → tree.ProcessSyntax → List Place
process_places p process =
    declared Process process.name ∷ (map (declared (Integer p)) process.integers ++ stmts_places p process.body)

-- the names of processes, the first of which has this number
abbrev pub processes_places : ℕ → List tree.ProcessSyntax → List Place
processes_places p [] = []
processes_places p (process ∷ processes) = process_places p process ++ processes_places (suc p) processes

-- the names of resources, where they are declared
abbrev pub resource_places : List tree.ResourceSyntax → List Place
resource_places resources = map (λ resource. declared Resource resource.name) resources

-- all names of a program
abbrev pub program_places : tree.ProgramSyntax → List Place
program_places program = resource_places program.resources ++ processes_places 0 program.processes

-- the names that an outline has
abbrev pub places : Outline → List Place
places outline = map place outline.places.items

-- both are resources, or processes, or integers of one process
abbrev pub same_kind : Kind → Kind → Bool
same_kind Resource Resource = true
same_kind Process Process = true
same_kind (Integer p) (Integer q) = p == q
same_kind _ _ = false

-- the other place is one of the same name
unfoldable pub is_same_name : Place → Place → Bool
is_same_name one other = same_kind one.kind other.kind && bytes_eq one.text other.text

-- the other place declares the name of this one
abbrev pub declares_name : Place → Place → Bool
declares_name one other = other.declares && is_same_name one other

-- the offset is in the name, or right after it
abbrev pub is_at : ℕ → Place → Bool
is_at offset place = nat_le place.at offset && nat_le (offset - place.at) (length place.text)
