-- A machine along a run, and what each pick shows.
use Rattle.std.specs.Prelude.{ℕ, List, Option, Some, None, option_and_then, slice_get}
use Rattle.pb_base.specs.declared.event.Event.{Event}
use Rattle.pb_base.specs.declared.pick.Pick.{Pick}
use Rattle.pb_base.specs.declared.step.Step.{Step}
use Rattle.pb_base.specs.declared.step.Step.TheVariants as step
use Rattle.pb_base.specs.Steppers.{State, Stepper, event_of, move_of}
use Rattle.pb_code.specs.Code.{CodeProcess, code_step}
use Rattle.pb_code.specs.Whole.{Code}
use Rattle.pb_history.specs.Positions.{state_after}

-- the event of what a pick came to
abbrev pub step_event : Step → Option Event
step_event step.Silent = None
step_event (step.Did event) = Some event
step_event step.NotEnabled = None

-- the event that a pick shows in a state, if it shows one
abbrev pub shown_in : Stepper CodeProcess → State CodeProcess → Pick → Option Event
shown_in stepper s pick = option_and_then (λ move. event_of pick move.effect) (move_of stepper s pick)

-- the event that pick i shows, if it shows one
abbrev pub event_at : Code → List Pick → ℕ → Option Event
event_at code picks i =
    option_and_then (shown_in (code_step code.processes) (state_after code picks i)) (slice_get picks i)
