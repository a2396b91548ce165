-- A step of a process, from the step of its arm and what is left to do after it.
use Rattle.std.proofs.Common.{◌≡◌, inl, inr, ℕ, zero, suc, ℤ, cond, nat_eq, List, Option}
use Rattle.std.proofs.Common.{Some, None, option_map, option_and_then, ap, ap₂, subst, refl, sym, ◌∙◌, arith}
use Rattle.std.proofs.lemmas.Bool.{ne_eqb}
use Rattle.pb_base.specs.Banker.{BankerState, without_loan, without_loans}
use Rattle.pb_base.specs.Steppers.{Effect, Silent, Prints, Takes, Returns, Faults, Finishes, ending, IsGranted}
use Rattle.pb_base.specs.Steppers.{event_of, loans_after}
use Rattle.pb_base.specs.declared.event.Event.{Event}
use Rattle.pb_base.specs.declared.event.Event.TheVariants as event
use Rattle.pb_base.specs.declared.operators.FaultKind.{FaultKind}
use Rattle.pb_base.specs.declared.pick.Pick.{Pick}
use Rattle.pb_base.specs.declared.step.Step.{Step}
use Rattle.pb_base.specs.declared.step.Step.TheVariants as step
use Rattle.pb_names.specs.Source.{Arm, Ended, ArmStep, Goes, Breaks, Ends, step_arm, find, put, SourceProcess, settle}
use Rattle.pb_names.specs.Source.{source_step}
use Rattle.pb_rewrite.specs.Sound.{IsSingle}
use Rattle.pb_rewrite.specs.Steps.{CannotStep, IsArmStep, IsProcessStep, IsRunStep, IsSettled}
use Rattle.pb_rewrite.specs.Steps as steps
use Rattle.pb_rewrite.specs.View.{bank_view}
use Rattle.pb_rewrite.specs.declared.stepping.Outcome.{Outcome}
use Rattle.pb_rewrite.specs.declared.stepping.Outcome.TheVariants as outcome
use Rattle.pb_rewrite.proofs.TakenArms.{put_found}

abbrev pub process_of : List ℤ → Option Arm → SourceProcess
process_of vars run = record { vars = vars; run = run }

-- the state of the banker after an effect
abbrev pub after_effect : BankerState → ℕ → Effect → BankerState
after_effect s p effect = record s { loans = loans_after s.loans p effect }

abbrev pub both : SourceProcess → Effect → SourceProcess × Effect
both x e = (x, e)

process_in : SourceProcess → Option (SourceProcess × Effect) → SourceProcess
process_in d None = d
process_in d (Some made) = made.0

effect_in : Effect → Option (SourceProcess × Effect) → Effect
effect_in d None = d
effect_in d (Some made) = made.1

pub first_same : (x y : SourceProcess) (e f : Effect) → Some (both x e) ≡ Some (both y f) → x ≡ y
unfolding process_in
first_same x y e f h = ap (process_in x) h

pub second_same : (x y : SourceProcess) (e f : Effect) → Some (both x e) ≡ Some (both y f) → e ≡ f
unfolding effect_in
second_same x y e f h = ap (effect_in e) h

pub nothing_made : (next : SourceProcess) (effect : Effect) → None ≡ Some (both next effect) → ⊥
nothing_made next effect h = cc

module _ (s : BankerState) (pick : Pick) (vars : List ℤ) (run : Arm) where
  abbrev Process : SourceProcess
  Process = process_of vars (Some run)

  stepped : (arm : Arm) (made : Option ArmStep) → find pick.arm 0 run ≡ Some arm → step_arm vars arm ≡ made
      → source_step pick.process Process pick.arm ≡ option_map (settle vars run pick.arm) made
  stepped arm made there is =
      ap (option_and_then (λ x. option_map (settle vars run pick.arm) (step_arm vars x))) there
      ∙ ap (option_map (settle vars run pick.arm)) is

  shows : (answer : Step) (shown : Step) (q : SourceProcess) (s' : BankerState) → answer ≡ shown
      → IsProcessStep s Process pick shown q s' → IsProcessStep s Process pick answer q s'
  shows answer shown q s' same h = subst (λ a. IsProcessStep s Process pick a q s') (sym same) h

  goes : (arm arm' : Arm) (vars' : List ℤ) (effect : Effect) (shown : Option Event) (q : SourceProcess) (s' : BankerState)
      → find pick.arm 0 run ≡ Some arm → step_arm vars arm ≡ Some (Goes vars' arm' effect)
      → IsGranted (bank_view s) s.loans pick.process effect → event_of pick effect ≡ shown
      → q ≡ process_of vars' (Some (put pick.arm arm' 0 run)) → s' ≡ after_effect s pick.process effect
      → steps.TakesStep s Process pick shown q s'
  goes arm arm' vars' effect shown q s' there is granted same now after =
      (effect, stepped arm (Some (Goes vars' arm' effect)) there is ∙ ap (λ x. Some (x, effect)) (sym now), granted, same, after)

  breaks : (arm : Arm) (kind : FaultKind) (q : SourceProcess) (s' : BankerState) → find pick.arm 0 run ≡ Some arm
      → step_arm vars arm ≡ Some (Breaks kind) → q ≡ process_of vars None → s' ≡ without_loans s pick.process
      → steps.TakesStep s Process pick (Some (event.Faulted pick kind)) q s'
  breaks arm kind q s' there is now after =
      (Faults kind, stepped arm (Some (Breaks kind)) there is ∙ ap (λ x. Some (x, Faults kind)) (sym now), tt, refl, after)

  ends : (a : ℕ) (arm : Arm) (answer : Step) (q : SourceProcess) (s' : BankerState) → pick.arm ≡ a → find pick.arm 0 run ≡ Some arm
      → step_arm vars arm ≡ Some Ends → answer ≡ cond (nat_eq pick.arm 0) (step.Did (event.Finished pick.process)) step.Silent
      → q ≡ process_of vars (Some (put pick.arm Ended 0 run)) → s' ≡ s → IsProcessStep s Process pick answer q s'
  ends zero arm answer q s' number there is told now after =
      let whole = stepped arm (Some Ends) there is ∙ ap (λ k. Some (process_of vars (Some (put pick.arm Ended 0 run)), ending k)) number
      ∙ ap (λ x. Some (x, Finishes)) (sym now) in
      shows answer (step.Did (event.Finished pick.process)) q s'
      (told ∙ ap (λ k. cond (nat_eq k 0) (step.Did (event.Finished pick.process)) step.Silent) number)
      (Finishes, whole, tt, refl, after)
  ends (suc a) arm answer q s' number there is told now after =
      let whole = stepped arm (Some Ends) there is ∙ ap (λ k. Some (process_of vars (Some (put pick.arm Ended 0 run)), ending k)) number
      ∙ ap (λ x. Some (x, Silent)) (sym now) in
      shows answer step.Silent q s'
      (told ∙ ap (λ k. cond (nat_eq k 0) (step.Did (event.Finished pick.process)) step.Silent) number
      ∙ ap (λ b. cond b (step.Did (event.Finished pick.process)) step.Silent) (ne_eqb (suc a) 0 (λ e. absurd (omega arith))))
      (Silent, whole, tt, refl, after)

  abbrev Never : Type 0
  Never = (next : SourceProcess) (effect : Effect) → source_step pick.process Process pick.arm ≡ Some (next, effect)
      → IsGranted (bank_view s) s.loans pick.process effect → ⊥

  never : (made : Option ArmStep) → source_step pick.process Process pick.arm ≡ option_map (settle vars run pick.arm) made
      → CannotStep s pick.process made → Never
  never None is cannot next effect steps granted = nothing_made next effect (sym is ∙ steps)
  never (Some (Goes vs arm Silent)) is cannot next effect steps granted = elim cannot [ ]
  never (Some (Goes vs arm (Prints v))) is cannot next effect steps granted = elim cannot [ ]
  never (Some (Goes vs arm (Takes bundle))) is cannot next effect steps granted =
      let takes = second_same (process_of vs (Some (put pick.arm arm 0 run))) next (Takes bundle) effect (sym is ∙ steps) in
      cannot (subst (IsGranted (bank_view s) s.loans pick.process) (sym takes) granted)
  never (Some (Goes vs arm (Returns bundle))) is cannot next effect steps granted = elim cannot [ ]
  never (Some (Goes vs arm (Faults kind))) is cannot next effect steps granted = elim cannot [ ]
  never (Some (Goes vs arm Finishes)) is cannot next effect steps granted = elim cannot [ ]
  never (Some (Breaks kind)) is cannot next effect steps granted = elim cannot [ ]
  never (Some Ends) is cannot next effect steps granted = elim cannot [ ]

  module _ (vars' : List ℤ) (run' : Arm) (s' : BankerState) (answer : Step) (q : SourceProcess) (s'' : BankerState) where
    found_step : (arm arm' : Arm) (made : Outcome) → IsSingle pick.arm run → find pick.arm 0 run ≡ Some arm
        → IsArmStep s pick.process vars arm made vars' arm' s' → run' ≡ put pick.arm arm' 0 run
        → IsSettled s' (process_of vars' (Some run')) pick made answer q s'' → IsProcessStep s Process pick answer q s''
    found_step arm arm' outcome.Silent single there h now settled =
        shows answer step.Silent q s'' settled.0
        (goes arm arm' vars' Silent None q s'' there h.0 tt refl (settled.1 ∙ ap (λ r. process_of vars' (Some r)) now) (settled.2 ∙ h.1))
    found_step arm arm' (outcome.Prints v) single there h now settled =
        shows answer (step.Did (event.Printed pick v)) q s'' settled.0
        (goes arm arm' vars' (Prints v) (Some (event.Printed pick v)) q s'' there h.0 tt refl (settled.1 ∙ ap (λ r.
        process_of vars' (Some r)) now) (settled.2 ∙ h.1))
    found_step arm arm' (outcome.Takes bundle) single there h now settled =
        shows answer (step.Did (event.Granted pick bundle)) q s'' settled.0
        (goes arm arm' vars' (Takes bundle) (Some (event.Granted pick bundle)) q s'' there h.0 h.1 refl (settled.1 ∙
        ap (λ r. process_of vars' (Some r)) now) (settled.2 ∙ h.2))
    found_step arm arm' (outcome.Returns bundle) single there h now settled =
        shows answer (step.Did (event.Returned pick bundle)) q s'' settled.0
        (goes arm arm' vars' (Returns bundle) (Some (event.Returned pick bundle)) q s'' there h.0 tt refl (settled.1 ∙ ap (λ r. process_of vars' (Some r)) now)
        (settled.2 ∙ ap (λ t. without_loan t pick.process bundle) h.1))
    found_step arm arm' (outcome.Faults kind) single there h now settled =
        shows answer (step.Did (event.Faulted pick kind)) q s'' settled.0
        (breaks arm kind q s'' there h.0.0 (settled.1 ∙ ap (λ vs. process_of vs None) h.0.1) (settled.2 ∙ ap (λ t. without_loans t pick.process) h.1))
    found_step arm arm' outcome.Ends single there h now settled =
        ends pick.arm arm answer q s'' refl there h.0.0 settled.0
        (settled.1 ∙ ap₂ (λ vs r. process_of vs (Some r)) h.0.2 (now ∙ ap (λ x. put pick.arm x 0 run) h.0.1)) (settled.2 ∙ h.1)
    found_step arm arm' outcome.Waits single there h now settled =
        shows answer step.NotEnabled q s'' settled.0 (
          never (step_arm vars arm) (stepped arm (step_arm vars arm) there refl) h.0,
          settled.1 ∙ ap₂ (λ vs r. process_of vs (Some r)) h.1 (now ∙ ap (λ x. put pick.arm x 0 run) h.2 ∙ put_found pick.arm 0 arm run single there),
          settled.2 ∙ h.3,
        )

    pub run_settled : (made : Outcome) → IsSingle pick.arm run → IsRunStep s pick vars run made vars' run' s'
        → IsSettled s' (process_of vars' (Some run')) pick made answer q s'' → IsProcessStep s Process pick answer q s''
    run_settled made single (inl h) settled = found_step h.0 h.1 made single h.2 h.3 h.4 settled
    run_settled made single (inr h) settled =
        let told = subst (λ m. IsSettled s' (process_of vars' (Some run')) pick m answer q s'') h.1 settled in
        let none : source_step pick.process Process pick.arm ≡ None =
        ap (option_and_then (λ x. option_map (settle vars run pick.arm) (step_arm vars x))) h.0 in
        shows answer step.NotEnabled q s'' told.0 (
          never None none tt,
          told.1 ∙ ap₂ (λ vs r. process_of vs (Some r)) h.2 h.3,
          told.2 ∙ h.4,
        )
