-- The numbered program of a tree with its claims, and what it says by number.
use Rattle.std.specs.Prelude.{ℕ, List, [], Option, MatchOption, length, map, slice_index, slice_index_or}
use Rattle.pb_base.specs.Banker.{cell}
use Rattle.pb_base.specs.Steppers.{Table}
use Rattle.pb_names.specs.Meaning.{AreClaims}
use Rattle.pb_names.specs.Program.{Block, Name, Program, Skip, capital_of}
use Rattle.pb_names.specs.Resolves.{Resolves, process_names, resource_names}
use Rattle.pb_names.specs.View.{resolved_view}
use Rattle.pb_plan.specs.Parts.{parts}
use Rattle.pb_plan.specs.declared.part.Part.{Part}
use Rattle.pb_server_claims.specs.declared.numbered.Numbered.{Numbered as Given}
use Rattle.pb_tree.specs.Syntax.{ProgramSyntax}

-- a program, and for each process a row of its claims
pub record Numbered : Type 0 where
  pub program : Program
  pub claims : Table

-- the one that a value of the code is
abbrev pub numbered : Given → Numbered
numbered given = record { program = resolved_view given.program; claims = given.claims }

-- it is the program of the tree, with its claims, whatever the capital
pub record IsOf (tree : ProgramSyntax) (n : Numbered) : Type 0 where
  pub numbers : Resolves tree n.program
  pub claimed : AreClaims n.program n.claims

-- the program of the tree is there; or there is none, since its names have a fault
abbrev pub IsFound : ProgramSyntax → Option Numbered → Type 0
IsFound tree found = MatchOption found ((program : Program) → ¬ Resolves tree program) (IsOf tree)

-- the name of process p, of resource r, and how much there is of it; nothing, and 0, of a number that is not there
abbrev pub process_name : Numbered → ℕ → Name
process_name n p = slice_index_or (process_names n.program) p []

abbrev pub resource_name : Numbered → ℕ → Name
resource_name n r = slice_index_or (resource_names n.program) r []

abbrev pub capital : Numbered → ℕ → ℕ
capital n r = slice_index (capital_of n.program) r

-- how much process p may hold of resource r at once
abbrev pub claim : Numbered → (p r : ℕ) → ℕ
claim n p r = cell n.claims p r

-- the bodies of all processes
abbrev pub bodies_of : Program → List Block
bodies_of program = map (λ process. process.body) program.processes

-- the holds that make up this claim
abbrev pub claim_parts : Numbered → (p r : ℕ) → List Part
claim_parts n p r = parts r (slice_index_or (bodies_of n.program) p Skip)
