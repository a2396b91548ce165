-- Requests that were refused.
use Rattle.std.specs.Prelude.{◌≡◌, Bool, true, false, Option, Some, None}
use Rattle.pb_base.specs.declared.event.Event.{Event}
use Rattle.pb_base.specs.declared.event.Event.TheVariants.{Granted, Returned, Printed, Faulted, Finished}
use Rattle.pb_base.specs.declared.pick.Pick.{Pick}
use Rattle.pb_base.specs.Banker.{IsAllowed}
use Rattle.pb_base.specs.Steppers.{Bundle, Takes, State, Move, banker_state, move_of}
use Rattle.pb_code.specs.Code.{CodeProcess, code_step}
use Rattle.pb_code.specs.Reached.{CodeReaches, CodeMoves}
use Rattle.pb_code.specs.Whole.{Code, bank_of}

-- the arm is at a request that is not allowed now
pub record IsDenied (code : Code) (s : State CodeProcess) (pick : Pick) : Type 0 where
  pub move : Move CodeProcess
  pub bundle : Bundle
  pub asks : move_of (code_step code.processes) s pick ≡ Some move
  pub takes : move.effect ≡ Takes bundle
  pub not_allowed : IsAllowed (banker_state (bank_of code) s.loans) pick.process bundle → ⊥

-- whether an event gives loans back, so that what was refused may be allowed
abbrev pub frees : Option Event → Bool
frees None = false
frees (Some (Granted pick bundle)) = false
frees (Some (Returned pick bundle)) = true
frees (Some (Printed pick value)) = false
frees (Some (Faulted pick kind)) = true
frees (Some (Finished process)) = false

-- a request that was refused stays refused, until loans come back
abbrev pub RefusedStays : Code → Type 0
RefusedStays code =
    (s next : State CodeProcess) (pick refused : Pick) (event : Option Event)
    → CodeReaches code s → CodeMoves code s pick event next → frees event ≡ false
    → IsDenied code s refused → IsDenied code next refused

-- an arm that was refused cannot be picked
abbrev pub RefusedStops : Code → Type 0
RefusedStops code =
    (s next : State CodeProcess) (pick : Pick) (event : Option Event)
    → IsDenied code s pick → CodeMoves code s pick event next → ⊥
