-- What the steps of expressions, arms and processes return. Of this file public contracts reach AreBelow
-- alone.
use Rattle.std.specs.Prelude.{◌≡◌, ◌⊎◌, ℕ, ◌<◌, ◌≤◌, ℤ, List, Bool, true, false, cond, nat_eq, All, Option, Some}
use Rattle.std.specs.Prelude.{None, Result, ⊤}
use Rattle.pb_base.specs.Banker.{BankerState, IsAllowed, loan, resources, with_loan, without_loan, without_loans}
use Rattle.pb_base.specs.Steppers.{Bundle, Effect, IsGranted, event_of, loans_after}
use Rattle.pb_base.specs.Steppers as effect
use Rattle.pb_base.specs.declared.operators.FaultKind.{FaultKind}
use Rattle.pb_base.specs.declared.event.Event.{Event}
use Rattle.pb_base.specs.declared.event.Event.TheVariants as event
use Rattle.pb_base.specs.declared.pick.Pick.{Pick}
use Rattle.pb_base.specs.declared.step.Step.{Step}
use Rattle.pb_base.specs.declared.step.Step.TheVariants as step
use Rattle.pb_names.specs.Program.{Expr, Number}
use Rattle.pb_names.specs.Source.{from_result, step_expr, Becomes, Fails, ArmStep, Goes, Breaks, Ends, Arm, Ended}
use Rattle.pb_names.specs.Source.{step_arm}
use Rattle.pb_names.specs.Source.{Item, step_items, Running, find, find_among, put, put_among, SourceProcess}
use Rattle.pb_names.specs.Source.{source_step}
use Rattle.pb_rewrite.specs.View.{arm_view, bank_view}
use Rattle.pb_rewrite.specs.declared.stepping.Stepped.{Stepped}
use Rattle.pb_rewrite.specs.declared.expression.Progress.{Progress}
use Rattle.pb_rewrite.specs.declared.expression.Progress.TheVariants as progress
use Rattle.pb_rewrite.specs.declared.stepping.Outcome.{Outcome}
use Rattle.pb_rewrite.specs.declared.stepping.Outcome.TheVariants as outcome

-- the result, and the expression that is left, are those of one step of the expression
abbrev pub IsExprStep : List ℤ → Expr → Progress → Expr → Type 0
IsExprStep vars e (progress.Is v) e' = (e ≡ Number v) × (e' ≡ e)
IsExprStep vars e progress.Becomes e' = step_expr vars e ≡ Becomes e'
IsExprStep vars e (progress.Fails kind) e' = step_expr vars e ≡ Fails kind

-- the result of an operator is in its place
abbrev pub IsReplaced : Result ℤ FaultKind → Progress → Expr → Type 0
IsReplaced made (progress.Is v) e' = ⊥
IsReplaced made progress.Becomes e' = from_result made ≡ Becomes e'
IsReplaced made (progress.Fails kind) e' = from_result made ≡ Fails kind

-- ---- one arm

-- the arm cannot step: its step, if there is one, takes what the banker does not allow
abbrev pub BankerRefuses : BankerState → ℕ → Effect → Type 0
BankerRefuses s p effect.Silent = ⊥
BankerRefuses s p (effect.Prints v) = ⊥
BankerRefuses s p (effect.Takes bundle) = ¬ IsAllowed s p bundle
BankerRefuses s p (effect.Returns bundle) = ⊥
BankerRefuses s p (effect.Faults kind) = ⊥
BankerRefuses s p effect.Finishes = ⊥

abbrev pub CannotStep : BankerState → ℕ → Option ArmStep → Type 0
CannotStep s p None = ⊤
CannotStep s p (Some (Goes vars arm effect)) = BankerRefuses s p effect
CannotStep s p (Some (Breaks kind)) = ⊥
CannotStep s p (Some Ends) = ⊥

-- this outcome is that of a step that asks nothing of the banker
abbrev pub IsFreeStep : List ℤ → Option ArmStep → Outcome → List ℤ → Arm → Type 0
IsFreeStep vars made outcome.Silent vars' arm' = made ≡ Some (Goes vars' arm' effect.Silent)
IsFreeStep vars made (outcome.Prints v) vars' arm' = made ≡ Some (Goes vars' arm' (effect.Prints v))
IsFreeStep vars made (outcome.Takes bundle) vars' arm' = ⊥
IsFreeStep vars made (outcome.Returns bundle) vars' arm' =
    made ≡ Some (Goes vars' arm' (effect.Returns bundle))
IsFreeStep vars made (outcome.Faults kind) vars' arm' = (made ≡ Some (Breaks kind)) × (vars' ≡ vars)
IsFreeStep vars made outcome.Ends vars' arm' = (made ≡ Some Ends) × (arm' ≡ Ended) × (vars' ≡ vars)
IsFreeStep vars made outcome.Waits vars' arm' = ⊥

-- so it is of a list of items, and this arm is what is left
abbrev pub StepsItems : {A : Type 0} → List ℤ → List Item → Stepped A → List ℤ → Type 0
StepsItems vars items s vars' =
    IsFreeStep vars (Some (step_items vars items)) s.outcome vars' (arm_view s.arm)

-- nothing is seen of the step, and this arm is what is left
abbrev pub LeavesArm : {A : Type 0} → Stepped A → Arm → Type 0
LeavesArm s arm = (s.outcome ≡ outcome.Silent) × (arm_view s.arm ≡ arm)

-- this outcome is that of a step of an arm of process p; of the banker it has asked what a hold takes
abbrev pub IsArmStep : BankerState → ℕ → List ℤ → Arm → Outcome → List ℤ → Arm → BankerState → Type 0
IsArmStep s p vars arm outcome.Silent vars' arm' s' =
    IsFreeStep vars (step_arm vars arm) outcome.Silent vars' arm' × (s' ≡ s)
IsArmStep s p vars arm (outcome.Prints v) vars' arm' s' =
    IsFreeStep vars (step_arm vars arm) (outcome.Prints v) vars' arm' × (s' ≡ s)
IsArmStep s p vars arm (outcome.Takes bundle) vars' arm' s' =
    (step_arm vars arm ≡ Some (Goes vars' arm' (effect.Takes bundle))) × IsAllowed s p bundle
    × (s' ≡ with_loan s p bundle)
IsArmStep s p vars arm (outcome.Returns bundle) vars' arm' s' =
    IsFreeStep vars (step_arm vars arm) (outcome.Returns bundle) vars' arm' × (s' ≡ s)
IsArmStep s p vars arm (outcome.Faults kind) vars' arm' s' =
    IsFreeStep vars (step_arm vars arm) (outcome.Faults kind) vars' arm' × (s' ≡ s)
IsArmStep s p vars arm outcome.Ends vars' arm' s' =
    IsFreeStep vars (step_arm vars arm) outcome.Ends vars' arm' × (s' ≡ s)
IsArmStep s p vars arm outcome.Waits vars' arm' s' =
    CannotStep s p (step_arm vars arm) × (vars' ≡ vars) × (arm' ≡ arm) × (s' ≡ s)

-- nothing has changed
abbrev pub IsUnchanged : BankerState → List ℤ → Arm → List ℤ → Arm → BankerState → Type 0
IsUnchanged s vars arm vars' arm' s' = (vars' ≡ vars) × (arm' ≡ arm) × (s' ≡ s)

-- each pair names one of n resources
abbrev pub AreBelow : ℕ → Bundle → Type 0
AreBelow n bundle = All (λ pair. pair.resource < n) bundle

-- what the arm asks for next are some of n resources
abbrev pub AsksBelow : ℕ → List ℤ → Arm → Type 0
AsksBelow n vars arm =
    (vars' : List ℤ) (arm' : Arm) (bundle : Bundle)
    → step_arm vars arm ≡ Some (Goes vars' arm' (effect.Takes bundle))
    → AreBelow n bundle

-- the arm of a number changed places with another, if it is there
abbrev pub IsSwap : ℕ → ℕ → Arm → Arm → Bool → Arm → Arm → Type 0
IsSwap a n arm other true arm' other' = (find a n arm ≡ Some other') × (arm' ≡ put a other n arm)
IsSwap a n arm other false arm' other' = (find a n arm ≡ None) × (arm' ≡ arm) × (other' ≡ other)

-- the same among running arms
abbrev pub IsSwapAmong : ℕ → ℕ → Running → Arm → Bool → Running → Arm → Type 0
IsSwapAmong a n arms other true arms' other' =
    (find_among a n arms ≡ Some other') × (arms' ≡ put_among a other n arms)
IsSwapAmong a n arms other false arms' other' =
    (find_among a n arms ≡ None) × (arms' ≡ arms) × (other' ≡ other)

-- ---- one run

-- the arm of the pick has stepped, if it is there; nothing has changed, if it is not or cannot step
abbrev pub IsRunStep : BankerState → Pick → List ℤ → Arm → Outcome → List ℤ → Arm → BankerState → Type 0
IsRunStep s pick vars run made vars' run' s' =
    ((arm : Arm) × (arm' : Arm) × (find pick.arm 0 run ≡ Some arm)
    × IsArmStep s pick.process vars arm made vars' arm' s' × (run' ≡ put pick.arm arm' 0 run))
    ⊎ ((find pick.arm 0 run ≡ None) × (made ≡ outcome.Waits) × (vars' ≡ vars) × (run' ≡ run) × (s' ≡ s))

-- what the arm of the pick asks for is there
abbrev pub PickAsksBelow : ℕ → Pick → List ℤ → Arm → Type 0
PickAsksBelow n pick vars run = (arm : Arm) → find pick.arm 0 run ≡ Some arm → AsksBelow n vars arm

-- ---- one process

-- the process takes this step, which has this event or none, and the loans are those after it
abbrev pub TakesStep : BankerState → SourceProcess → Pick → Option Event → SourceProcess → BankerState → Type 0
TakesStep s process pick shown process' s' =
    (effect : Effect) × (source_step pick.process process pick.arm ≡ Some (process', effect))
    × IsGranted (bank_view s) s.loans pick.process effect × (event_of pick effect ≡ shown)
    × (s' ≡ record s { loans = loans_after s.loans pick.process effect })

-- what the result says of a process and its state after the pick is what the source does
abbrev pub IsProcessStep : BankerState → SourceProcess → Pick → Step → SourceProcess → BankerState → Type 0
IsProcessStep s process pick step.Silent process' s' = TakesStep s process pick None process' s'
IsProcessStep s process pick (step.Did shown) process' s' = TakesStep s process pick (Some shown) process' s'
IsProcessStep s process pick step.NotEnabled process' s' =
    ((next : SourceProcess) (effect : Effect)
    → source_step pick.process process pick.arm ≡ Some (next, effect)
    → IsGranted (bank_view s) s.loans pick.process effect → ⊥)
    × (process' ≡ process) × (s' ≡ s)

-- what is left to do after a step of an arm: what is given back, or a fault
abbrev pub IsSettled : BankerState → SourceProcess → Pick → Outcome → Step → SourceProcess → BankerState
    → Type 0
IsSettled s q pick outcome.Silent answer q' s' = (answer ≡ step.Silent) × (q' ≡ q) × (s' ≡ s)
IsSettled s q pick (outcome.Prints v) answer q' s' =
    (answer ≡ step.Did (event.Printed pick v)) × (q' ≡ q) × (s' ≡ s)
IsSettled s q pick (outcome.Takes bundle) answer q' s' =
    (answer ≡ step.Did (event.Granted pick bundle)) × (q' ≡ q) × (s' ≡ s)
IsSettled s q pick (outcome.Returns bundle) answer q' s' =
    (answer ≡ step.Did (event.Returned pick bundle)) × (q' ≡ q)
    × (s' ≡ without_loan s pick.process bundle)
IsSettled s q pick (outcome.Faults kind) answer q' s' =
    (answer ≡ step.Did (event.Faulted pick kind)) × (q' ≡ record { vars = q.vars; run = None })
    × (s' ≡ without_loans s pick.process)
IsSettled s q pick outcome.Ends answer q' s' =
    (answer ≡ cond (nat_eq pick.arm 0) (step.Did (event.Finished pick.process)) step.Silent) × (q' ≡ q)
    × (s' ≡ s)
IsSettled s q pick outcome.Waits answer q' s' = (answer ≡ step.NotEnabled) × (q' ≡ q) × (s' ≡ s)

-- what is given back is held
abbrev pub IsHeld : BankerState → ℕ → Outcome → Type 0
IsHeld s p outcome.Silent = ⊤
IsHeld s p (outcome.Prints v) = ⊤
IsHeld s p (outcome.Takes bundle) = ⊤
IsHeld s p (outcome.Returns bundle) =
    AreBelow (resources s) bundle × All (λ pair. pair.amount ≤ loan s p pair.resource) bundle
IsHeld s p (outcome.Faults kind) = ⊤
IsHeld s p outcome.Ends = ⊤
IsHeld s p outcome.Waits = ⊤
