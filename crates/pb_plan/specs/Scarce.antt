-- Orders of some of the resources, and what an order of the scarce ones is good for: a hold waits for no other one.
use Rattle.std.specs.Prelude.{ℕ, ◌<◌, List, [], map, All}
use Rattle.pb_base.specs.declared.event.Event.{Event}
use Rattle.pb_base.specs.declared.lending.Lending.TheVariants.{ByCash}
use Rattle.pb_base.specs.declared.pick.Pick.{Pick}
use Rattle.pb_base.specs.Steppers.{Bundle, State, Table, Makes, opening}
use Rattle.pb_claims.specs.Fits.{FitCapital}
use Rattle.pb_names.specs.Meaning.{AreClaims, source_bank_by}
use Rattle.pb_names.specs.Program.{Process, Program, capital_of}
use Rattle.pb_names.specs.Resolves.{Resolves}
use Rattle.pb_names.specs.Source.{SourceProcess, source_process, source_step}
use Rattle.pb_plan.specs.Needs.{scarce}
use Rattle.pb_plan.specs.Nests.{IsAmong}
use Rattle.pb_plan.specs.Orders.{EachHold, IsSourceDeadlock, place}
use Rattle.pb_tree.specs.Syntax.{ProgramSyntax}

-- one resource comes later in the order than another, if both are among these
abbrev pub IsLaterAmong : (among order : List ℕ) → (outer inner : ℕ) → Type 0
IsLaterAmong among order outer inner = IsAmong among outer → IsAmong among inner → place order outer < place order inner

-- of these resources, what is asked for comes later in the order than all that is asked for around it
abbrev pub ComesLaterAmong : (among order : List ℕ) → (around asked : Bundle) → Type 0
ComesLaterAmong among order around asked =
    All (λ pair. All (λ outer. IsLaterAmong among order outer.resource pair.resource) around) asked

-- every process follows the order, of these resources
abbrev pub IsFollowedAmong : (among order : List ℕ) → List Process → Type 0
IsFollowedAmong among order processes = All (λ process. EachHold (ComesLaterAmong among order) [] process.body) processes

-- if every process follows an order of the scarce resources, nothing that the program comes to by the cash alone is a
-- deadlock: whoever asks for others alone does not wait
abbrev pub OrdersOfScarcePreventDeadlocks : Type 0
OrdersOfScarcePreventDeadlocks =
    (tree : ProgramSyntax) (program : Program) (claims : Table) (order : List ℕ) → Resolves tree program
    → AreClaims program claims → FitCapital claims (capital_of program)
    → IsFollowedAmong (scarce claims (capital_of program)) order program.processes
    → (picks : List Pick) (events : List Event) (s : State SourceProcess)
    → Makes (source_bank_by ByCash program claims) source_step
    (opening (source_bank_by ByCash program claims) (map source_process program.processes)) picks events s
    → ¬ IsSourceDeadlock (source_bank_by ByCash program claims) s
