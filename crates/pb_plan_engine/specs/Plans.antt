-- What `plan` says of an input, as data, and with which status.
use Rattle.std.specs.Prelude.{◌≡◌, ◌≢◌, ◌⊎◌, ℕ, zero, suc, ◌+◌, Bool, List, [], ◌∷◌, ◌++◌, ⊤, cond, length, slice_index, slice_index_or, map}
use Rattle.std.specs.Prelude.{Option, Some, None, MatchOption}
use Rattle.std.specs.List.Sorted.{IsPermutation}
use Rattle.pb_base.specs.Banker.{row_of}
use Rattle.pb_base.specs.declared.lending.Lending.{Lending}
use Rattle.pb_base.specs.declared.lending.Lending.TheVariants.{ByBanker, ByCash}
use Rattle.pb_base.specs.Steppers.{Table}
use Rattle.pb_capitals.specs.declared.change.Change.{Change}
use Rattle.pb_claims.specs.Fits.{FitCapital, IsFirstOver}
use Rattle.pb_claims.specs.declared.over_capital.OverCapital.{OverCapital}
use Rattle.pb_names.specs.Meaning.{AreClaims}
use Rattle.pb_names.specs.Program.{Block, Skip, Name, Program, capital_of}
use Rattle.pb_names.specs.Resolves.{Resolves, resource_names}
use Rattle.pb_tree.specs.Syntax.{ProgramSyntax}
use Rattle.pb_plan.specs.Circles.{IsCircleAmong}
use Rattle.pb_plan_engine.specs.Changed.{undeclared, with_changes}
use Rattle.pb_plan_engine.specs.Sayings.{Saying, Refused, Unknown, Claim, Resource, Bottleneck, Order, Nest, NoRequestWaits, NoOrder}
use Rattle.pb_plan_engine.specs.Sayings.{TooLong, NoMemory}
use Rattle.pb_voice.specs.Inputs as inputs
use Rattle.pb_plan.specs.Needs.{AllFree, IsBottleneck, free_capital, least_capital, scarce}
use Rattle.pb_plan.specs.Nests.{IsOrder}
use Rattle.pb_plan.specs.Orders.{IsFollowed}
use Rattle.pb_plan.specs.Parts.{parts}
use Rattle.pb_plan.specs.Scarce.{IsFollowedAmong}
use Rattle.pb_plan.specs.declared.edge.Edge.{Edge}
use Rattle.pb_codegen.specs.declared.fault.CompileFault.{CompileFault}
use Rattle.pb_codegen.specs.declared.fault.CompileFault.TheVariants.{Memory}
use Rattle.pb_command_io.specs.Parts.{AreParts}
use Rattle.pb_joint.specs.Texts.{AreReadAs, FullName, IsFirstFault, are_several, names_of}
use Rattle.pb_command_io.specs.declared.status.Status.{Status}
use Rattle.pb_command_io.specs.declared.status.Status.TheVariants as status

-- what is said for each number below one, in order
abbrev pub all_below : (ℕ → List Saying) → ℕ → List Saying
all_below said zero = []
all_below said (suc n) = all_below said n ++ said n

-- the name of a resource, by its number
abbrev pub resource_name : List Name → ℕ → Name
resource_name names r = slice_index_or names r []

-- a process that has no name
abbrev pub unnamed : FullName
unnamed = record { name = []; text = None }

-- the claims of a process with its body and its row of claims: one for each resource, in their order
abbrev pub said_of_row : List Name → FullName → Block → List ℕ → List Saying
said_of_row resources process body row =
    all_below (λ r. Claim process (slice_index row r) (resource_name resources r) (parts r body) ∷ []) (length resources)

-- the bodies of all processes
abbrev pub bodies_of : Program → List Block
bodies_of program = map (λ process. process.body) program.processes

-- the claims of all processes, which are called so, in their order
abbrev pub said_of_claims : List FullName → Program → Table → List Saying
said_of_claims processes program claims =
    all_below (λ p. said_of_row (resource_names program) (slice_index_or processes p unnamed)
    (slice_index_or (bodies_of program) p Skip) (row_of claims p)) (length program.processes)

-- each resource, in their order: its capital, the greatest claim, and the sum of the claims
abbrev pub said_of_resources : List Name → List ℕ → Table → List Saying
said_of_resources resources capital claims =
    all_below (λ r. Resource (resource_name resources r) (slice_index capital r) (least_capital claims r) (free_capital claims r) ∷ [])
    (length resources)

-- the bottleneck, if there is one
abbrev pub bottleneck_said : List Name → Option ℕ → Saying
bottleneck_said resources None = NoRequestWaits
bottleneck_said resources (Some r) = Bottleneck (resource_name resources r)

-- an order, by its resources, or that there is none
abbrev pub order_said : List Name → Option (List ℕ) → Saying
order_said resources None = NoOrder
order_said resources (Some order) = Order (map (resource_name resources) order)

-- a hold inside another one
abbrev pub nest_said : (processes : List FullName) (resources : List Name) → Edge → Saying
nest_said processes resources edge =
    Nest (slice_index_or processes edge.process unnamed) (resource_name resources edge.nest.outer) edge.nest.outer_line
    (resource_name resources edge.nest.inner) edge.nest.inner_line

-- a circle, in its order
abbrev pub said_of_circle : (processes : List FullName) (resources : List Name) → List Edge → List Saying
said_of_circle processes resources circle = map (nest_said processes resources) circle

-- all but a circle
abbrev pub said_of_plan : (processes : List FullName) → Program → Table → Option ℕ → Option (List ℕ) → List Saying
said_of_plan processes program claims found order =
    said_of_claims processes program claims ++ (said_of_resources (resource_names program) (capital_of program) claims
    ++ (bottleneck_said (resource_names program) found ∷ order_said (resource_names program) order ∷ []))

-- an order of all resources that each process follows: inside a hold it asks only for later ones
pub record IsOrderOf (program : Program) (order : List ℕ) : Type 0 where
  pub all : IsOrder (length program.resources) order
  pub followed : IsFollowed order program.processes

-- no list is an order that each process follows
abbrev pub HasNoOrder : Program → Type 0
HasNoOrder program = (order : List ℕ) → ¬ IsFollowed order program.processes

-- an order of these resources that each process follows, whatever it asks for of the others
pub record IsOrderAmong (program : Program) (among order : List ℕ) : Type 0 where
  pub all : IsPermutation among order
  pub followed : IsFollowedAmong among order program.processes

-- no list is such an order of these
abbrev pub HasNoOrderAmong : Program → List ℕ → Type 0
HasNoOrderAmong program among = (order : List ℕ) → ¬ IsFollowedAmong among order program.processes

-- an order of all resources; or one of these, if there is none of all
abbrev pub IsBestOrder : Program → (among order : List ℕ) → Type 0
IsBestOrder program among order = IsOrderOf program order ⊎ HasNoOrder program × IsOrderAmong program among order

-- what is looked for: such an order, or nothing if there is none of these either
abbrev pub IsOrderIfAny : Program → List ℕ → Option (List ℕ) → Type 0
IsOrderIfAny program among order = MatchOption order (HasNoOrderAmong program among) (IsBestOrder program among)

-- the resources of a program of which there is not enough for all claims at once
abbrev pub scarce_of : Program → Table → List ℕ
scarce_of program claims = scarce claims (capital_of program)

-- no deadlock is possible: the banker lends; or each process follows an order, of all resources or of the scarce ones. If
-- there is enough of each for all claims at once, none is scarce, and every list is one
abbrev pub RulesOutDeadlocks : Lending → Program → Table → Type 0
RulesOutDeadlocks ByBanker program claims = ⊤
RulesOutDeadlocks ByCash program claims =
    (order : List ℕ) × (IsOrderOf program order ⊎ IsOrderAmong program (scarce_of program claims) order)

-- a deadlock may be possible: the cash alone decides, and there is no order of the scarce resources, so that there is
-- not enough for all claims at once
abbrev pub AllowsDeadlocks : Lending → Program → Table → Type 0
AllowsDeadlocks ByBanker program claims = ⊥
AllowsDeadlocks ByCash program claims =
    HasNoOrderAmong program (scarce_of program claims) × ((r : ℕ) × IsBottleneck claims (capital_of program) r)

-- the status tells whether the capital is enough for every claim, and if it is, whether a deadlock may be possible
pub data HasStatus (lending : Lending) (program : Program) (claims : Table) : Status → Type 0 where
  too_little : (over : OverCapital) → IsFirstOver claims (capital_of program) over → HasStatus lending program claims status.Refused
  no_deadlock : FitCapital claims (capital_of program) → RulesOutDeadlocks lending program claims
      → HasStatus lending program claims status.Done
  may_deadlock : FitCapital claims (capital_of program) → AllowsDeadlocks lending program claims
      → HasStatus lending program claims status.Deadlock

-- some tree is that of the program, with these claims
pub record IsOfTree (program : Program) (claims : Table) : Type 0 where
  pub tree : ProgramSyntax
  pub numbered : Resolves tree program
  pub claimed : AreClaims program claims

-- this is the plan of the program with these claims, whose processes are called so: if there is no order, it ends with a
-- circle of scarce resources
pub record IsPlan (processes : List FullName) (program : Program) (claims : Table) (said : List Saying) : Type 0 where
  pub found : Option ℕ
  pub bottleneck : MatchOption found (AllFree claims (capital_of program)) (IsBottleneck claims (capital_of program))
  pub order : Option (List ℕ)
  pub ordered : IsOrderIfAny program (scarce_of program claims) order
  pub circle : List Edge
  pub closed : MatchOption order (IsCircleAmong (scarce_of program claims) program.processes circle) (λ some. circle ≡ [])
  pub whole : said ≡ said_of_plan processes program claims found order ++ said_of_circle processes (resource_names program) circle

-- the number of a text, from 1, if there are several
abbrev pub number_of : (several : Bool) → (index : ℕ) → Option ℕ
number_of several index = cond several (Some (index + 1)) None

-- what is told of a program whose processes are called so: a change that names no resource of it is refused, the first of
-- them; if there is none, the program is planned as it would be with the changes, whatever its capital. Who lends changes
-- the status alone
pub data TellsPlan (lending : Lending) (changes : List Change) (processes : List FullName) (program : Program) (claims : Table)
    : List Saying → Status → Type 0 where
  unknown : (change : Change) → undeclared changes program ≡ Some change
      → TellsPlan lending changes processes program claims (Unknown change.resource.bytes ∷ []) status.Refused
  planned : (said : List Saying) (given : Status) → undeclared changes program ≡ None
      → IsPlan processes (with_changes changes program) claims said → HasStatus lending (with_changes changes program) claims given
      → TellsPlan lending changes processes program claims said given

-- what is said of an input, whose parts are texts, with changes of the capital: one of the texts is refused, by itself or
-- together with those before it; or they are one program, and that is told of
pub data SaysOfPlan (lending : Lending) (changes : List Change) (bytes : List ℕ) : List Saying → Status → Type 0 where
  refused : (texts : List (List ℕ)) (index : ℕ) (fault : CompileFault) → AreParts bytes texts
      → IsFirstFault texts index fault → fault ≢ Memory
      → SaysOfPlan lending changes bytes (Refused (number_of (are_several texts) index) fault ∷ []) status.Refused
  read : (texts : List (List ℕ)) (trees : List ProgramSyntax) (program : Program) (claims : Table) (said : List Saying)
      (given : Status) → AreParts bytes texts → AreReadAs texts trees program claims
      → TellsPlan lending changes (names_of trees) program claims said given → SaysOfPlan lending changes bytes said given

-- what may be said of any input, with changes of the capital
abbrev pub SaysOfPlans : Lending → List Change → List ℕ → List Saying → Status → Type 0
SaysOfPlans lending changes = inputs.SaysOfWhole TooLong NoMemory (SaysOfPlan lending changes)
