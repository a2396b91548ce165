-- Orders of the resources that the processes follow: inside a hold they ask only for later ones.
use Rattle.std.specs.Prelude.{ℕ, suc, ◌<◌, ◌==◌, cond, List, [], ◌∷◌, ◌++◌, map, All, ⊤}
use Rattle.pb_base.specs.declared.event.Event.{Event}
use Rattle.pb_base.specs.declared.lending.Lending.TheVariants.{ByCash}
use Rattle.pb_base.specs.declared.pick.Pick.{Pick}
use Rattle.pb_base.specs.Steppers.{Bank, Bundle, State, Table, CanGoOn, IsFinished, Makes, opening}
use Rattle.pb_claims.specs.Fits.{FitCapital}
use Rattle.pb_names.specs.Meaning.{AreClaims, source_bank_by}
use Rattle.pb_names.specs.Program.{Stmt, Assign, Print, If, While, Hold, Parbegin, Block, Skip, Then, Arms, NoArm}
use Rattle.pb_names.specs.Program.{AndArm, Process, Program, capital_of}
use Rattle.pb_names.specs.Resolves.{Resolves}
use Rattle.pb_names.specs.Source.{SourceProcess, source_over, source_process, source_step}
use Rattle.pb_plan.specs.Needs.{AllFree}
use Rattle.pb_tree.specs.Syntax.{ProgramSyntax}

-- each hold inside meets a condition on what the holds around it ask for and on what it asks for itself; the arms
-- of a parbegin are all inside what is around it, and not around each other
module _ (Meets : (around asked : Bundle) → Type 0) where
  abbrev mutual
    pub EachHoldOf : Bundle → Stmt → Type 0
    EachHoldOf around (Assign line x e) = ⊤
    EachHoldOf around (Print line e) = ⊤
    EachHoldOf around (If line e a b) = EachHold around a × EachHold around b
    EachHoldOf around (While line e body) = EachHold around body
    EachHoldOf around (Hold line bundle body) = Meets around bundle × EachHold (bundle ++ around) body
    EachHoldOf around (Parbegin line first arms) = EachHoldAmong around arms

    pub EachHold : Bundle → Block → Type 0
    EachHold around Skip = ⊤
    EachHold around (Then s block) = EachHoldOf around s × EachHold around block

    pub EachHoldAmong : Bundle → Arms → Type 0
    EachHoldAmong around NoArm = ⊤
    EachHoldAmong around (AndArm arm arms) = EachHold around arm × EachHoldAmong around arms

-- how many resources come before this one in the order
abbrev pub place : List ℕ → ℕ → ℕ
place [] r = 0
place (first ∷ order) r = cond (first == r) 0 (suc (place order r))

-- what is asked for comes later in the order than all that is asked for around it
abbrev pub ComesLater : List ℕ → (around asked : Bundle) → Type 0
ComesLater order around asked =
    All (λ pair. All (λ outer. place order outer.resource < place order pair.resource) around) asked

-- every process follows the order
abbrev pub IsFollowed : List ℕ → List Process → Type 0
IsFollowed order processes = All (λ process. EachHold (ComesLater order) [] process.body) processes

-- ---- what an order is good for

-- some process has neither ended nor faulted, and no pick is enabled
abbrev pub IsSourceDeadlock : Bank → State SourceProcess → Type 0
IsSourceDeadlock bank s = (¬ IsFinished source_over s) × (¬ CanGoOn bank source_step s)

-- if every process follows an order, nothing that the program comes to by the cash alone is a deadlock
abbrev pub OrdersPreventDeadlocks : Type 0
OrdersPreventDeadlocks =
    (tree : ProgramSyntax) (program : Program) (claims : Table) (order : List ℕ) → Resolves tree program
    → AreClaims program claims → FitCapital claims (capital_of program) → IsFollowed order program.processes
    → (picks : List Pick) (events : List Event) (s : State SourceProcess)
    → Makes (source_bank_by ByCash program claims) source_step
    (opening (source_bank_by ByCash program claims) (map source_process program.processes)) picks events s
    → ¬ IsSourceDeadlock (source_bank_by ByCash program claims) s

-- if there is enough of each resource for all claims at once, neither is anything that the program comes to by the cash
-- alone
abbrev pub FreeCapitalPreventsDeadlocks : Type 0
FreeCapitalPreventsDeadlocks =
    (tree : ProgramSyntax) (program : Program) (claims : Table) → Resolves tree program → AreClaims program claims
    → AllFree claims (capital_of program)
    → (picks : List Pick) (events : List Event) (s : State SourceProcess)
    → Makes (source_bank_by ByCash program claims) source_step
    (opening (source_bank_by ByCash program claims) (map source_process program.processes)) picks events s
    → ¬ IsSourceDeadlock (source_bank_by ByCash program claims) s
