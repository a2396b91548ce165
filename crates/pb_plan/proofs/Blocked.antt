-- What an arm that could step does not do in a state in which no pick is enabled.
use Rattle.std.proofs.Common.{◌≡◌, ◌∙◌, ℕ, zero, suc, Some, option_map, option_and_then, ap}
use Rattle.std.specs.Prelude.{slice_get}
use Rattle.pb_base.specs.declared.pick.Pick.{Pick}
use Rattle.pb_base.specs.Steppers.{Bank, CanGoOn, IsGranted, State, ending, move_of, moved}
use Rattle.pb_names.specs.Source.{Arm, ArmStep, SourceProcess, find, settle, source_step, step_arm, step_run}

-- the pick of an arm
abbrev pub pick_of : (p a : ℕ) → Pick
pick_of p a = record { process = p; arm = a }

-- what the pick of an arm that steps does
pub enabled_by : (s : State SourceProcess) (p a : ℕ) (process : SourceProcess) (root found : Arm) (st : ArmStep)
    → slice_get s.processes p ≡ Some process → process.run ≡ Some root → find a 0 root ≡ Some found
    → step_arm process.vars found ≡ Some st
    → move_of source_step s (pick_of p a) ≡ Some (moved s (pick_of p a) (settle process.vars root a st))
enabled_by s p a process root found st at runs is_found steps =
    let stepped : source_step p process a ≡ Some (settle process.vars root a st) =
    ap (option_and_then (step_run process.vars a)) runs
    ∙ ap (option_and_then (λ arm. option_map (settle process.vars root a) (step_arm process.vars arm))) is_found
    ∙ ap (option_map (settle process.vars root a)) steps in
    ap (option_and_then (λ x. option_map (moved s (pick_of p a)) (source_step p x a))) at
    ∙ ap (option_map (moved s (pick_of p a))) stepped

-- it is not granted
pub cannot : (bank : Bank) (s : State SourceProcess) → (CanGoOn bank source_step s → ⊥)
    → (p a : ℕ) (process : SourceProcess) (root found : Arm) (st : ArmStep)
    → slice_get s.processes p ≡ Some process → process.run ≡ Some root → find a 0 root ≡ Some found
    → step_arm process.vars found ≡ Some st
    → IsGranted bank s.loans p (settle process.vars root a st).1 → ⊥
cannot bank s still p a process root found st at runs is_found steps granted =
    still (
      pick_of p a,
      moved s (pick_of p a) (settle process.vars root a st),
      enabled_by s p a process root found st at runs is_found steps,
      granted,
    )

-- the end of an arm is always granted
pub ending_granted : (bank : Bank) (s : State SourceProcess) (p a : ℕ) → IsGranted bank s.loans p (ending a)
ending_granted bank s p zero = tt
ending_granted bank s p (suc a) = tt
