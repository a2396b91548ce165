-- Why a command is refused, and why a request is not granted.
use Rattle.std.specs.Prelude.{◌≡◌, ℕ, ◌<◌, ⊤, List, [], ◌∷◌, Bool, Result, Ok, Err}
use Rattle.pb_base.specs.Banker.{BankerState, processes, resources, cash}
use Rattle.pb_banker.specs.declared.reason.Reason.{Reason}
use Rattle.pb_banker.specs.declared.reason.Reason.TheVariants.{Allowed, OverClaim, OverCash, Rest}
use Rattle.pb_bank.specs.declared.refusal.Refusal.{Refusal}
use Rattle.pb_bank.specs.declared.request.Request.{Request}
use Rattle.pb_bank.specs.declared.said.Jobs.{Jobs}
use Rattle.pb_bank.specs.declared.said.Said.{Said}
use Rattle.pb_bank.specs.declared.said.Said.TheVariants as told
use Rattle.pb_bank.specs.Desks.{DeskValue}

-- what is said of a refused command, which changes nothing
abbrev pub Refuses : Refusal → DeskValue → List Said → DeskValue → Type 0
Refuses refusal d said next = (said ≡ told.Refused refusal ∷ []) × (next ≡ d)

-- ---- reasons

-- the desk with another state of the bank
abbrev pub with_state : DeskValue → BankerState → DeskValue
with_state d s = record d { bank = record d.bank { state = s } }

-- of the slots that have a row, those that are marked
abbrev pub jobs_of : BankerState → List Bool → Jobs
jobs_of s marks = record { marks = marks; count = processes s }

-- what is said of a reason; of a request that is allowed it is given
abbrev pub reason_said : (when_allowed : Said) → BankerState → Reason → Said
reason_said when_allowed s Allowed = when_allowed
reason_said _ s (OverClaim r) = told.OverClaim r
reason_said _ s (OverCash r) = told.WaitCash r (cash s r)
reason_said _ s (Rest slots) = told.WaitRest (jobs_of s slots)

-- a reason names a resource that is there
abbrev pub IsReasonAmong : ℕ → Reason → Type 0
IsReasonAmong n Allowed = ⊤
IsReasonAmong n (OverClaim r) = r < n
IsReasonAmong n (OverCash r) = r < n
IsReasonAmong n (Rest slots) = ⊤

-- so it is in this state
abbrev pub IsReasonOf : BankerState → Reason → Type 0
IsReasonOf s reason = IsReasonAmong (resources s) reason

-- what is said of a request, if the words say one
abbrev pub OfRequest : (Request → List Said → DeskValue → Type 0) → Result Request Refusal → DeskValue → List Said → DeskValue → Type 0
OfRequest Says (Err refusal) d said next = Refuses refusal d said next
OfRequest Says (Ok w) d said next = Says w said next
