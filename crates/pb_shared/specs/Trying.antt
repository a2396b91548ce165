-- Trying a visible pick, on the fields of a book. No public contract cites this file.
use Rattle.std.specs.Prelude.{◌≡◌, ◌≢◌, ℕ, ◌-◌, List, [], ◌∷◌, ◌++◌, map, Bool, true, false, slice_set, Some, cond}
use Rattle.pb_base.specs.declared.event.Event.{Event}
use Rattle.pb_base.specs.declared.pick.Pick.{Pick}
use Rattle.pb_base.specs.Steppers.{State}
use Rattle.pb_code.specs.Code.{CodeProcess}
use Rattle.pb_code.specs.Reached.{CodeMoves}
use Rattle.pb_code.specs.Whole.{Code}
use Rattle.pb_history.specs.Entries.{Entry}
use Rattle.pb_machine.specs.Looks.{look_at}
use Rattle.pb_machine.specs.declared.look.Look.TheVariants.{Visible}
use Rattle.pb_verifier.specs.Requests.{IsDenied, frees}
use Rattle.pb_shared.specs.Ledgers.{mark_place}
use Rattle.pb_shared.specs.declared.answer.Answer.{Answer}
use Rattle.pb_shared.specs.declared.answer.Answer.TheVariants.{Did, Refused, Silent}

-- the same as `Tries`, of machine, picks, picks left and marks
abbrev pub TriesOn : Code → State CodeProcess → List Entry → ℕ → List Bool → Pick → Answer → State CodeProcess → List Entry → ℕ → List Bool → Type 0
TriesOn code s entries left refused pick Did s' entries' left' refused' =
    (event : Event) × CodeMoves code s pick (Some event) s'
    × (entries' ≡ entries ++ record { pick = pick; event = Some event } ∷ []) × (left' ≡ left - 1)
    × (refused' ≡ cond (frees (Some event)) (map (λ _. false) refused) refused)
TriesOn code s entries left refused pick Refused s' entries' left' refused' =
    IsDenied code s pick × (s' ≡ s) × (entries' ≡ entries) × (left' ≡ left) × (refused' ≡ slice_set refused (mark_place pick) true)
TriesOn code s entries left refused pick Silent s' entries' left' refused' =
    (look_at code s pick ≢ Visible) × (s' ≡ s) × (entries' ≡ entries) × (left' ≡ left) × (refused' ≡ refused)
