-- A pick of an arm, or of a process, that is not there stays.
use Rattle.std.proofs.Common.{◌≡◌, ℕ, ◌≤◌, List, length, Option, Some, None, option_and_then, option_map, refl, sym, ap, ◌∙◌}
use Rattle.std.proofs.lemmas.List.{get_or_past}
use Rattle.std.proofs.lemmas.Option.{slice_get_past}
use Rattle.std.specs.Prelude.{slice_get}
use Rattle.pb_base.specs.declared.lending.Lending.{Lending}
use Rattle.pb_base.specs.declared.pick.Pick.{Pick}
use Rattle.pb_base.specs.Steppers.{State, move_of, moved}
use Rattle.pb_code.specs.Code.{ProcessCode, CodeProcess, Idle, thread, step_thread, code_step}
use Rattle.pb_code.specs.Reached.{CodeStaysBy}
use Rattle.pb_code.specs.Whole.{Code}

-- a pick with no move is not enabled
pub stays_without_move : (lending : Lending) (code : Code) (s : State CodeProcess) (pick : Pick)
    → move_of (code_step code.processes) s pick ≡ None → CodeStaysBy lending code s pick
stays_without_move lending code s pick none move is granted = let both : Some move ≡ None = sym is ∙ none in cc

pub no_such_process : (lending : Lending) (code : Code) (s : State CodeProcess) (pick : Pick) → length s.processes ≤ pick.process
    → CodeStaysBy lending code s pick
no_such_process lending code s pick long =
    stays_without_move lending code s pick
    (ap (option_and_then (λ p. option_map (moved s pick) (code_step code.processes pick.process p pick.arm)))
    (slice_get_past s.processes pick.process long))

pub no_step_beyond : (codes : List ProcessCode) (p : ℕ) (process : CodeProcess) (a : ℕ) → length process.threads ≤ a
    → code_step codes p process a ≡ None
no_step_beyond codes p process a long = go (slice_get codes p)
  where
    go : (code : Option ProcessCode) → option_and_then (λ c. step_thread c process a (thread process.threads a)) code ≡ None
    go None = refl
    go (Some c) = ap (step_thread c process a) (get_or_past process.threads a Idle long)

-- an arm that is not there
pub no_such_arm : (lending : Lending) (code : Code) (s : State CodeProcess) (pick : Pick) (process : CodeProcess)
    → slice_get s.processes pick.process ≡ Some process
    → length process.threads ≤ pick.arm → CodeStaysBy lending code s pick
no_such_arm lending code s pick process there long =
    stays_without_move lending code s pick (
    ap (option_and_then (λ p. option_map (moved s pick) (code_step code.processes pick.process p pick.arm))) there
    ∙ ap (option_map (moved s pick)) (no_step_beyond code.processes pick.process process pick.arm long)
    )
