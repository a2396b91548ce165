-- What one pick does, and what something that makes picks returns.
use Rattle.std.specs.Prelude.{◌≡◌, Option, Some, None}
use Rattle.pb_base.specs.declared.event.Event.{Event}
use Rattle.pb_base.specs.declared.pick.Pick.{Pick}
use Rattle.pb_base.specs.declared.step.Step.{Step}
use Rattle.pb_base.specs.declared.step.Step.TheVariants.{Silent, Did, NotEnabled}
use Rattle.pb_base.specs.Steppers.{Bank, Effect, Move, State, Stepper, IsGranted, event_of, move_of}

-- the pick is enabled, and leads to this state with this event or with none
abbrev pub Moves : {P : Type 0} → Bank → Stepper P → State P → Pick → Option Event → State P → Type 0
Moves bank step s pick event next =
    (effect : Effect) × (move_of step s pick ≡ Some (record { next = next; effect = effect }))
    × IsGranted bank s.loans pick.process effect × (event_of pick effect ≡ event)

-- the pick is not enabled
abbrev pub Stays : {P : Type 0} → Bank → Stepper P → State P → Pick → Type 0
Stays {P = P} bank step s pick =
    (move : Move P) → move_of step s pick ≡ Some move → IsGranted bank s.loans pick.process move.effect → ⊥

-- what the result says, and the state after the pick, is what this stepper does
abbrev pub IsStepOf : {P : Type 0} → Bank → Stepper P → State P → Pick → Step → State P → Type 0
IsStepOf bank step before pick Silent after = Moves bank step before pick None after
IsStepOf bank step before pick (Did event) after = Moves bank step before pick (Some event) after
IsStepOf bank step before pick NotEnabled after = Stays bank step before pick × (after ≡ before)
