-- Stretches: a process lent to one worker, with one arm to step.
use Rattle.std.specs.Prelude.{ℕ, ◌≤◌}
use Rattle.pb_base.specs.declared.pick.Pick.{Pick}
use Rattle.pb_code.specs.Code.{CodeProcess}
use Rattle.pb_code.specs.Whole.{Code}
use Rattle.pb_machine.specs.Steps.{MakesSilently}

-- what contracts see of a stretch: its arm; how many picks it may make, and how many it made; the process as
-- it was lent, and as it is now
pub record Lent : Type 0 where
  pub pick : Pick
  pub allowance : ℕ
  pub made : ℕ
  pub base : CodeProcess
  pub state : CodeProcess

-- the state comes from the base by just the picks that were made, all of the one arm, none of which shows
-- anything; and they are within the allowance
pub record IsSilentRun (code : Code) (lent : Lent) : Type 0 where
  pub within : lent.made ≤ lent.allowance
  pub runs : MakesSilently code lent.pick.process lent.pick.arm lent.made lent.base lent.state
