-- What is required of a program, by its statements and its claims.
use Rattle.std.specs.Prelude.{◌≡◌, ◌<◌, ◌≤◌, ℕ, Bool, true, false, ◌||◌, List, All, Some, length, slice_get}
use Rattle.std.specs.List.{list_any}
use Rattle.pb_base.specs.Banker.{cell}
use Rattle.pb_base.specs.Steppers.{Table}
use Rattle.pb_names.specs.Program.{AndArm, Arms, Assign, Block, Hold, If, NoArm, Parbegin, Print, Process, Program, Skip, Stmt, Then, While}
use Rattle.pb_names.specs.Resolves.{resource_names}
use Rattle.pb_search_engine.specs.Requirements.{is_hold, is_parbegin}
use Rattle.pb_search_engine.specs.declared.requirements.Part.{Part}
use Rattle.pb_search_engine.specs.declared.requirements.Requirement.{Requirement}
use Rattle.pb_search_engine.specs.declared.requirements.Requirement.TheVariants.{Claims, Has}

-- the statement is the part, or one in it is
abbrev mutual
  pub stmt_has : Part → Stmt → Bool
  stmt_has part (Assign line x e) = false
  stmt_has part (Print line e) = false
  stmt_has part (If line e a b) = block_has part a || block_has part b
  stmt_has part (While line e body) = block_has part body
  stmt_has part (Hold line bundle body) = is_hold part || block_has part body
  stmt_has part (Parbegin line first arms) = is_parbegin part || arms_have part arms

  -- some statement of a list has it
  pub block_has : Part → Block → Bool
  block_has part Skip = false
  block_has part (Then s block) = stmt_has part s || block_has part block

  -- some arm has it
  pub arms_have : Part → Arms → Bool
  arms_have part NoArm = false
  arms_have part (AndArm arm arms) = block_has part arm || arms_have part arms

-- the body of the process has it
abbrev pub process_has : Part → Process → Bool
process_has part process = block_has part process.body

-- some process claims at least so much of the resource with this number
abbrev pub SomeClaimsBy : Program → Table → (amount resource : ℕ) → Type 0
SomeClaimsBy program claims amount resource = (p : ℕ) × (p < length program.processes) × (amount ≤ cell claims p resource)

-- there is a resource with this name, and some process claims at least so much of it
abbrev pub IsClaimedBy : Program → Table → (amount : ℕ) → (name : List ℕ) → Type 0
IsClaimedBy program claims amount name =
    (r : ℕ) × (slice_get (resource_names program) r ≡ Some name) × SomeClaimsBy program claims amount r

-- such an amount is claimed; some process has the part
abbrev pub IsMetBy : Program → Table → Requirement → Type 0
IsMetBy program claims (Claims amount name) = IsClaimedBy program claims amount name.now
IsMetBy program claims (Has part) = list_any (process_has part) program.processes ≡ true

-- each of them is met
abbrev pub AreMetBy : Program → Table → List Requirement → Type 0
AreMetBy program claims requirements = All (IsMetBy program claims) requirements
