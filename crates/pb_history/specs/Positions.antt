-- Positions in a run: the state of the code after the first picks of a list.
use Rattle.std.specs.Prelude.{◌≡◌, ℕ, List, [], ◌∷◌, length, take, Option, Some, None}
use Rattle.pb_base.specs.declared.event.Event.{Event}
use Rattle.pb_base.specs.declared.lending.Lending.{Lending}
use Rattle.pb_base.specs.declared.lending.Lending.TheVariants.{ByBanker}
use Rattle.pb_base.specs.declared.pick.Pick.{Pick}
use Rattle.pb_base.specs.Steppers.{State, Stepper, Move, Makes, move_of}
use Rattle.pb_code.specs.Code.{CodeProcess, code_step}
use Rattle.pb_code.specs.Whole.{Code, bank_by, code_opening}
use Rattle.pb_history.specs.Entries.{Entry}
use Rattle.pb_history.specs.Replays.{IsReplayBy}
use Rattle.pb_machine.specs.Views.{machine_view, IsMachineBy}
use Rattle.pb_machine.specs.declared.machine.Machine.{Machine}
use Rattle.pb_verifier.specs.Verified.{VerifiedCode}

-- the state that a pick leads to; one that is not enabled changes nothing
abbrev pub next_state : {P : Type 0} → State P → Option (Move P) → State P
next_state s None = s
next_state s (Some move) = move.next

-- the state that picks lead to, one after another
abbrev pub after : {P : Type 0} → Stepper P → State P → List Pick → State P
after step s [] = s
after step s (pick ∷ picks) = after step (next_state s (move_of step s pick)) picks

-- the state of the code at position i: after the first i picks, from the opening
abbrev pub state_after : Code → List Pick → ℕ → State CodeProcess
state_after code picks i = after (code_step code.processes) (code_opening code) (take i picks)

-- a machine of the code under this lending in its state at position i
pub record IsAfterBy (lending : Lending) (v : VerifiedCode) (picks : List Pick) (i : ℕ) (m : Machine) : Type 0 where
  pub machine : IsMachineBy lending v m
  pub state : machine_view m ≡ state_after v.code picks i

-- so it is under the banker
abbrev pub IsAfter : VerifiedCode → List Pick → ℕ → Machine → Type 0
IsAfter v = IsAfterBy ByBanker v

-- each pick is enabled in turn under this lending
pub record AreEnabledBy (lending : Lending) (code : Code) (picks : List Pick) : Type 0 where
  pub events : List Event
  pub end : State CodeProcess
  pub makes : Makes (bank_by lending code) (code_step code.processes) (code_opening code) picks events end

-- so they are under the banker
abbrev pub AreEnabled : Code → List Pick → Type 0
AreEnabled code = AreEnabledBy ByBanker code

-- a replay makes enabled picks, and ends in the state at the position after the last of them
abbrev pub ReplaysReachPositions : Type 0
ReplaysReachPositions =
    (lending : Lending) (code : Code) (picks : List Pick) (entries : List Entry) (end : State CodeProcess)
    → IsReplayBy lending code picks entries end
    → AreEnabledBy lending code picks × (end ≡ state_after code picks (length picks))
