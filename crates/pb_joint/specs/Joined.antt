-- Texts whose processes run beside one another, as one program: it has the processes of all, and each resource that one
-- of them declares. So what is proved of a program is proved of them.
use Rattle.std.specs.Prelude.{◌≡◌, List, [], ◌∷◌, ◌++◌, Any}
use Rattle.pb_base.specs.Steppers.{Table}
use Rattle.pb_tree.specs.Syntax.{ProgramSyntax, ResourceSyntax}
use Rattle.pb_names.specs.Meaning.{AreClaims}
use Rattle.pb_names.specs.Program.{Program}
use Rattle.pb_names.specs.Resolves.{Resolves}

-- two declarations of a resource are the same: one name, with one capital
abbrev pub IsSame : ResourceSyntax → ResourceSyntax → Type 0
IsSame resource other = (resource.name.text ≡ other.name.text) × (resource.capital.value ≡ other.capital.value)

-- a resource is declared there too
abbrev pub IsDeclared : ResourceSyntax → List ResourceSyntax → Type 0
IsDeclared resource there = Any (IsSame resource) there

-- of the resources of a text these are not declared in the texts before it
pub data AddsResources (there : List ResourceSyntax) : (declared added : List ResourceSyntax) → Type 0 where
  none : AddsResources there [] []
  again : (declared added : List ResourceSyntax) (resource : ResourceSyntax) → AddsResources there declared added
      → IsDeclared resource there → AddsResources there (declared ++ resource ∷ []) added
  new : (declared added : List ResourceSyntax) (resource : ResourceSyntax) → AddsResources there declared added
      → ¬ IsDeclared resource there → AddsResources there (declared ++ resource ∷ []) (added ++ resource ∷ [])

-- a tree after others that are joined: its new resources, and all its processes
pub record Joins (before tree whole : ProgramSyntax) : Type 0 where
  pub added : List ResourceSyntax
  pub adds : AddsResources before.resources tree.resources added
  pub resources : whole.resources ≡ before.resources ++ added
  pub processes : whole.processes ≡ before.processes ++ tree.processes

-- the trees of texts, one after another, joined to one tree
pub data AreJoined : List ProgramSyntax → ProgramSyntax → Type 0 where
  none : AreJoined [] (record { resources = []; processes = [] })
  one_more : (trees : List ProgramSyntax) (before tree whole : ProgramSyntax)
      → AreJoined trees before → Joins before tree whole → AreJoined (trees ++ tree ∷ []) whole

-- the program of the joined tree, with its claims. There is none if two processes have one name, or a resource is
-- declared with two capitals: the names of a program differ
pub record IsJointProgram (trees : List ProgramSyntax) (program : Program) (claims : Table) : Type 0 where
  pub tree : ProgramSyntax
  pub joined : AreJoined trees tree
  pub numbered : Resolves tree program
  pub claimed : AreClaims program claims
