-- Picks that are tried.
use Rattle.std.proofs.Common.{◌≡◌, ◌≢◌, ℕ, zero, suc, ◌<◌, ◌≤◌, Option, Some, None}
use Rattle.std.proofs.Common.{option_and_then, option_map, refl, sym, subst, arith}
use Rattle.std.specs.Prelude.{slice_get}
use Rattle.pb_base.specs.declared.lending.Lending.{Lending}
use Rattle.pb_base.specs.declared.pick.Pick.{Pick}
use Rattle.pb_base.specs.Steppers.{Effect, State, moved}
use Rattle.pb_base.specs.Steppers as effect
use Rattle.pb_code.specs.Code.{CodeProcess, code_step}
use Rattle.pb_code.specs.Reached.{CodeStaysBy}
use Rattle.pb_code.specs.Whole.{Code}
use Rattle.pb_code.proofs.StayingPicks.{stays_without_move}
use Rattle.pb_machine.specs.Looks.{look_at, look_of}
use Rattle.pb_machine.specs.Steps.{MovesSilentlyBy}
use Rattle.pb_machine.specs.declared.look.Look.TheVariants as look

-- a pick that looks as if it stays is not enabled
pub looks_staying : (lending : Lending) (code : Code) (s : State CodeProcess) (pick : Pick) → look_at code s pick ≡ look.Stays
    → CodeStaysBy lending code s pick
looks_staying lending code s pick stays = stays_without_move lending code s pick (go (slice_get s.processes pick.process) stays)
  where
    none : (process : CodeProcess) (made : Option (CodeProcess × Effect)) → look_of made ≡ look.Stays
        → option_map (moved s pick) made ≡ None
    none process None same = refl
    none process (Some (after, effect.Silent)) same = cc
    none process (Some (after, effect.Prints v)) same = cc
    none process (Some (after, effect.Takes bundle)) same = cc
    none process (Some (after, effect.Returns bundle)) same = cc
    none process (Some (after, effect.Faults kind)) same = cc
    none process (Some (after, effect.Finishes)) same = cc

    go : (process : Option CodeProcess)
        → look_of (option_and_then (λ p. code_step code.processes pick.process p pick.arm) process) ≡ look.Stays
        → option_and_then (λ p. option_map (moved s pick) (code_step code.processes pick.process p pick.arm)) process ≡ None
    go None same = refl
    go (Some p) same = none p (code_step code.processes pick.process p pick.arm) same

-- a silent run of an arm whose pick looks silent makes one pick at least
pub some_made : (lending : Lending) (code : Code) (s after : State CodeProcess) (pick : Pick) (made max : ℕ) → look_at code s pick ≡ look.Silent → 1 ≤ max
    → MovesSilentlyBy lending code pick made s after → (made < max → look_at code after pick ≢ look.Silent) → 1 ≤ made
some_made lending code s after pick zero max silent some same stops =
    absurd (stops (omega (arith, some)) (subst (λ (t : State CodeProcess). look_at code t pick ≡ look.Silent) (sym same) silent))
some_made lending code s after pick (suc made) max silent some moves stops = omega arith
