-- States in which no pick is enabled.
use Rattle.std.proofs.Common.{◌≡◌, ℕ, ◌<◌, ◌≤◌, length, Option, Some, None, sym}
use Rattle.std.proofs.Common.{◌+◌, ◌⊎◌, subst, inl, inr, arith}
use Rattle.std.proofs.lemmas.Bool.{cases_lt}
use Rattle.std.specs.Prelude.{slice_get}
use Rattle.pb_base.specs.declared.event.Event.{Event}
use Rattle.pb_base.specs.declared.lending.Lending.{Lending}
use Rattle.pb_base.specs.declared.pick.Pick.{Pick}
use Rattle.pb_base.specs.declared.step.Step.{Step}
use Rattle.pb_base.specs.declared.step.Step.TheVariants as answer
use Rattle.pb_machine.specs.Steps.{IsStepBy}
use Rattle.pb_base.specs.Steppers.{State}
use Rattle.pb_code.specs.Code.{CodeProcess}
use Rattle.pb_code.specs.Reached.{CodeMovesBy, CodeStaysBy}
use Rattle.pb_code.specs.Whole.{Code}
use Rattle.pb_code.proofs.StayingPicks.{no_such_arm, no_such_process}
use Rattle.pb_verifier.proofs.Requests.{same_pick}
use Rattle.pb_accept.specs.ReplayLines.{GoesOn}
use Rattle.pb_accept.specs.Stillness.{IsStillAt}

-- ---- arm by arm, and process by process

module _ (lending : Lending) (code : Code) (s : State CodeProcess) where
  -- no pick of the first arms of this process is enabled
  abbrev pub AreStillBelow : (process arm : ℕ) → Type 0
  AreStillBelow process arm = (pick : Pick) → pick.process ≡ process → pick.arm < arm → CodeStaysBy lending code s pick

  -- no pick of the first processes is enabled
  abbrev pub ProcessesAreStill : ℕ → Type 0
  ProcessesAreStill n = (pick : Pick) → pick.process < n → CodeStaysBy lending code s pick

  pub none_below : (process : ℕ) → AreStillBelow process 0
  none_below process pick is less = absurd (omega (arith, less))

  pub one_arm_more : (process arm : ℕ) → AreStillBelow process arm
      → CodeStaysBy lending code s (record { process = process; arm = arm }) → AreStillBelow process (arm + 1)
  one_arm_more process arm below at pick is less = elim (cases_lt pick.arm arm) [
    | inl before ↦ below pick is before
    | inr past ↦
        let last : pick.arm ≡ arm = omega (arith, less, past) in
        subst (CodeStaysBy lending code s) (sym (same_pick pick (record { process = process; arm = arm }) is last)) at
  ]

  pub no_process_yet : ProcessesAreStill 0
  no_process_yet pick less = absurd (omega (arith, less))

  pub all_arms_still : (process : ℕ) (p : CodeProcess) (n : ℕ) → slice_get s.processes process ≡ Some p
      → length p.threads ≤ n → AreStillBelow process n → IsStillAt lending code s process
  all_arms_still process p n there long below pick is = elim (cases_lt pick.arm n) [
    | inl before ↦ below pick is before
    | inr past ↦ no_such_arm lending code s pick p
        (subst (λ (k : ℕ). slice_get s.processes k ≡ Some p) (sym is) there) (omega (arith, long, past))
  ]

  pub one_process_more : (n : ℕ) → ProcessesAreStill n → IsStillAt lending code s n → ProcessesAreStill (n + 1)
  one_process_more n below at pick less = elim (cases_lt pick.process n) [
    | inl before ↦ below pick before
    | inr past ↦ at pick (omega (arith, less, past))
  ]

  pub all_processes_still : (n : ℕ) → length s.processes ≤ n → ProcessesAreStill n → ¬ GoesOn lending code s
  all_processes_still n long below (pick, move, is, granted) = elim (cases_lt pick.process n) [
    | inl before ↦ below pick before move is granted
    | inr past ↦ no_such_process lending code s pick (omega (arith, long, past)) move is granted
  ]

  move_goes : (pick : Pick) (event : Option Event) (next : State CodeProcess) → CodeMovesBy lending code s pick event next
      → GoesOn lending code s
  move_goes pick event next (effect, made, granted, shown) = (pick, record { next = next; effect = effect }, made, granted)

  -- a pick that is made is enabled
  pub step_goes : (next : State CodeProcess) (pick : Pick) (step : Step) → (step ≡ answer.Silent) ⊎ ((event : Event) × (step ≡ answer.Did event))
      → IsStepBy lending code s pick step next → GoesOn lending code s
  step_goes next pick answer.Silent made is = move_goes pick None next is
  step_goes next pick (answer.Did event) made is = move_goes pick (Some event) next is
  step_goes next pick answer.NotEnabled (inl silent) is = absurd cc
  step_goes next pick answer.NotEnabled (inr (event, did)) is = absurd cc
