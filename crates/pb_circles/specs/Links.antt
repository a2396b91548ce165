-- Who waits for whom, for want of cash.
use Rattle.std.specs.Prelude.{◌≡◌, ◌≢◌, ℕ, ◌<◌, List, length, Some, slice_get}
use Rattle.pb_base.specs.declared.pick.Pick.{Pick}
use Rattle.pb_base.specs.Banker.{BankerState, cash, loan}
use Rattle.pb_base.specs.Bundle.{amount_in}
use Rattle.pb_base.specs.Lines.{NameTable}
use Rattle.pb_base.specs.Steppers.{Bundle, State, banker_state}
use Rattle.pb_code.specs.Code.{Take, CodeProcess}
use Rattle.pb_code.specs.Whole.{Code, bank_of}
use Rattle.pb_machine.specs.Turns.{StandsIn}
use Rattle.pb_circles.specs.declared.link.Link.{Link}

-- what any lender knows in a state: capital, claims and loans
abbrev pub bank_at : Code → State CodeProcess → BankerState
bank_at code s = banker_state (bank_of code) s.loans

-- an arm is at a request, which needs more of a resource than there is cash of it
pub record LacksCash (code : Code) (s : State CodeProcess) (arm : Pick) (r : ℕ) : Type 0 where
  pub bundle : Bundle
  pub asks : StandsIn code s arm (Take bundle)
  pub over : cash (bank_at code s) r < amount_in bundle r

-- a process waits for another: the arm lacks cash of the resource, of which the holder has some
pub record IsLink (code : Code) (s : State CodeProcess) (link : Link) : Type 0 where
  pub lacks : LacksCash code s (record { process = link.process; arm = link.arm }) link.resource
  pub other : link.holder ≢ link.process
  pub holds : 0 < loan (bank_at code s) link.holder link.resource

-- all that a link speaks of has a name
pub record HasNamesOf (names : NameTable) (link : Link) : Type 0 where
  pub process : link.process < length names.processes
  pub resource : link.resource < length names.resources
  pub holder : link.holder < length names.processes

-- ---- links to some of the processes. No public contract cites what follows

-- the process is one of these
abbrev pub IsAmong : List ℕ → ℕ → Type 0
IsAmong among p = (k : ℕ) × (slice_get among k ≡ Some p)

-- one of these processes, and not p, holds some of the resource
pub record IsHolder (s : BankerState) (among : List ℕ) (p r holder : ℕ) : Type 0 where
  pub other : holder ≢ p
  pub holds : 0 < loan s holder r
  pub member : IsAmong among holder

-- an arm of p that asks for a bundle lacks cash, and waits for one of these
pub record IsLinkOf (s : BankerState) (bundle : Bundle) (among : List ℕ) (p arm : ℕ) (link : Link) : Type 0 where
  pub process_is : p ≡ link.process
  pub arm_is : arm ≡ link.arm
  pub over : cash s link.resource < amount_in bundle link.resource
  pub holder : IsHolder s among p link.resource link.holder

-- p waits for one of these
pub record LinksTo (code : Code) (s : State CodeProcess) (among : List ℕ) (p : ℕ) (link : Link) : Type 0 where
  pub links : IsLink code s link
  pub process_is : link.process ≡ p
  pub member : IsAmong among link.holder
