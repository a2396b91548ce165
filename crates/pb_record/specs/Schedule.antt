-- What comes of a pick. No public contract cites this file.
use Rattle.std.specs.Prelude.{◌≡◌, ◌≤◌, ℕ, Some, ⊤}
use Rattle.pb_base.specs.declared.lending.Lending.{Lending}
use Rattle.pb_base.specs.declared.pick.Pick.{Pick}
use Rattle.pb_base.specs.Steppers.{State, CanGoOn}
use Rattle.pb_code.specs.Code.{CodeProcess, code_step}
use Rattle.pb_code.specs.Reached.{CodeMovesBy, CodeStaysBy}
use Rattle.pb_code.specs.Whole.{Code, bank_by}
use Rattle.pb_record.specs.declared.schedule.Next.{Next}
use Rattle.pb_record.specs.declared.schedule.Next.TheVariants.{Silent, Did, NotEnabled}
use Rattle.pb_machine.specs.Steps.{MovesSilentlyBy}

-- the pick was made under this lending, and if it is silent, with more of its arm; or it is not enabled
abbrev pub StepsArm : Lending → Code → State CodeProcess → Pick → Next → State CodeProcess → Type 0
StepsArm lending code before pick (Silent at made) after =
    (at ≡ pick) × (1 ≤ made) × MovesSilentlyBy lending code pick made before after
StepsArm lending code before pick (Did at event) after = (at ≡ pick) × CodeMovesBy lending code before pick (Some event) after
StepsArm lending code before pick NotEnabled after = CodeStaysBy lending code before pick × (after ≡ before)

-- some pick that is enabled under this lending was made, and if it is silent, with more of its arm; or none is
-- enabled
abbrev pub StepsSome : Lending → Code → State CodeProcess → Next → State CodeProcess → Type 0
StepsSome lending code before (Silent pick made) after = (1 ≤ made) × MovesSilentlyBy lending code pick made before after
StepsSome lending code before (Did pick event) after = CodeMovesBy lending code before pick (Some event) after
StepsSome lending code before NotEnabled after =
    (¬ CanGoOn (bank_by lending code) (code_step code.processes) before) × (after ≡ before)

-- no more silent picks were made than this
abbrev pub MakesAtMost : ℕ → Next → Type 0
MakesAtMost most (Silent pick made) = made ≤ most
MakesAtMost most (Did pick event) = ⊤
MakesAtMost most NotEnabled = ⊤
