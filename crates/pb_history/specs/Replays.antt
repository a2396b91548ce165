-- Picks made once more, from the start.
use Rattle.std.specs.Prelude.{◌≡◌, ℕ, ◌<◌, ◌≤◌, List, [], ◌∷◌, ◌++◌, replicate, take, Some, slice_get, ⊤}
use Rattle.pb_base.specs.declared.lending.Lending.{Lending}
use Rattle.pb_base.specs.declared.lending.Lending.TheVariants.{ByBanker}
use Rattle.pb_base.specs.declared.pick.Pick.{Pick}
use Rattle.pb_base.specs.declared.step.Step.{Step}
use Rattle.pb_base.specs.declared.step.Step.TheVariants as step
use Rattle.pb_base.specs.Steppers.{State}
use Rattle.pb_code.specs.Code.{CodeProcess}
use Rattle.pb_code.specs.Reached.{CodeMovesBy, CodeStaysBy}
use Rattle.pb_code.specs.Whole.{Code, code_opening}
use Rattle.pb_machine.specs.Views.{machine_view, IsMachineBy}
use Rattle.pb_machine.specs.declared.machine.Machine.{Machine}
use Rattle.pb_verifier.specs.Verified.{VerifiedCode}
use Rattle.pb_history.specs.Entries.{Entry, picks_of, silent_picks}
use Rattle.pb_history.specs.Leads.{LeadsBy}
use Rattle.pb_history.specs.declared.counted.CountedPick.{CountedPick}
use Rattle.pb_history.specs.declared.fault.ReplayFault.{ReplayFault}
use Rattle.pb_history.specs.declared.fault.ReplayFault.TheVariants.{NotEnabled, NoMemory}

-- each pick as often as its count says
abbrev pub spread : List CountedPick → List Pick
spread [] = []
spread (c ∷ counted) = replicate c.count c.pick ++ spread counted

-- all these picks are enabled in turn under this lending, and lead to this state
pub record IsReplayBy (lending : Lending) (code : Code) (picks : List Pick) (entries : List Entry) (end : State CodeProcess)
    : Type 0 where
  pub made : picks_of entries ≡ picks
  pub leads : LeadsBy lending code (code_opening code) entries end

-- so it is under the banker
abbrev pub IsReplay : Code → List Pick → List Entry → State CodeProcess → Type 0
IsReplay code = IsReplayBy ByBanker code

-- the picks before this one are enabled in turn under this lending, and this one is not
pub record StopsAt (lending : Lending) (code : Code) (picks : List Pick) (i : ℕ) : Type 0 where
  pub entries : List Entry
  pub end : State CodeProcess
  pub pick : Pick
  pub replay : IsReplayBy lending code (take i picks) entries end
  pub there : slice_get picks i ≡ Some pick
  pub stays : CodeStaysBy lending code end pick

-- what a fault says
abbrev pub IsStoppedBy : Lending → Code → List Pick → ReplayFault → Type 0
IsStoppedBy lending code picks (NotEnabled i) = StopsAt lending code picks i
IsStoppedBy lending code picks NoMemory = ⊤

-- what it says under the banker
abbrev pub IsStopped : Code → List Pick → ReplayFault → Type 0
IsStopped code = IsStoppedBy ByBanker code

-- after the entries there were, a pick was made at most as often as its count says, and all of them lead to
-- this state
pub record MakesSome (lending : Lending) (code : Code) (before after : List Entry) (counted : CountedPick)
    (end : State CodeProcess) : Type 0 where
  pub done : ℕ
  pub few : done ≤ counted.count
  pub picks : picks_of after ≡ picks_of before ++ replicate done counted.pick
  pub leads : LeadsBy lending code (code_opening code) after end

-- the machine was made from this code under this lending, and the picks of these entries have led it to its state
pub record HaveLed (lending : Lending) (v : VerifiedCode) (entries : List Entry) (m : Machine) : Type 0 where
  pub machine : IsMachineBy lending v m
  pub leads : LeadsBy lending v.code (code_opening v.code) entries (machine_view m)

-- ---- picks of one arm up to the first that is not silent

-- what the pick after the silent ones came to; none was made if those are all
abbrev pub EndsRun : Lending → Code → State CodeProcess → Pick → (max made : ℕ) → Step → State CodeProcess → Type 0
EndsRun lending code between pick max made step.Silent after = (made ≡ max) × (after ≡ between)
EndsRun lending code between pick max made (step.Did event) after =
    (made < max) × CodeMovesBy lending code between pick (Some event) after
EndsRun lending code between pick max made step.NotEnabled after =
    (made < max) × CodeStaysBy lending code between pick × (after ≡ between)

-- the silent picks that were made, and what came after them
pub record IsRun (lending : Lending) (code : Code) (before : State CodeProcess) (pick : Pick) (max made : ℕ) (step : Step)
    (after : State CodeProcess) : Type 0 where
  pub between : State CodeProcess
  pub leads : LeadsBy lending code before (silent_picks pick made) between
  pub ends : EndsRun lending code between pick max made step after
