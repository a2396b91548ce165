-- Runs of code, and when they are over.
use Rattle.std.specs.Prelude.{List}
use Rattle.pb_base.specs.declared.event.Event.{Event}
use Rattle.pb_base.specs.declared.pick.Pick.{Pick}
use Rattle.pb_base.specs.Steppers.{State, Makes, IsFinished}
use Rattle.pb_code.specs.Code.{CodeProcess, code_step, code_over}
use Rattle.pb_code.specs.Whole.{Code, bank_of, code_opening}

-- some picks of the code, each enabled in turn from the start, that make these events and lead to this state
pub record Run (code : Code) (events : List Event) (end : State CodeProcess) : Type 0 where
  pub picks : List Pick
  pub makes : Makes (bank_of code) (code_step code.processes) (code_opening code) picks events end

-- all processes are over
abbrev pub IsDone : State CodeProcess → Type 0
IsDone end = IsFinished code_over end
