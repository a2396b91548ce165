-- What the picks speak of has names.
use Rattle.std.proofs.Common.{◌≡◌, inl, inr, ℕ, ◌+◌, ◌<◌, List, Some, None, length, slice_get, sym, ap, ◌∙◌, arith}
use Rattle.std.proofs.lemmas.Bool.{cases_lt}
use Rattle.std.proofs.lemmas.List.{get_or_past}
use Rattle.std.proofs.lemmas.Option.{slice_get_within}
use Rattle.pb_base.specs.declared.lending.Lending.{Lending}
use Rattle.pb_base.specs.declared.event.Event.{Event}
use Rattle.pb_base.specs.declared.pick.Pick.{Pick}
use Rattle.pb_base.specs.Lines.{HasNames}
use Rattle.pb_base.specs.Steppers.{Effect}
use Rattle.pb_code.specs.Code.{CodeProcess, Idle, ProcessCode, code_step, step_process, step_thread}
use Rattle.pb_code.specs.Whole.{bank_by, code_opening}
use Rattle.pb_history.proofs.Positions.{enabled_at, position_reached}
use Rattle.pb_history.specs.Positions.{AreEnabledBy, state_after}
use Rattle.pb_machine.proofs.NeverStuck.{events_have_names}
use Rattle.pb_debug_positions.specs.Searches.{Shows}
use Rattle.pb_debug_positions.proofs.Walks.{moves_at}
use Rattle.pb_verifier.proofs.States.{code_move}
use Rattle.pb_verifier.specs.Verified.{VerifiedCode, IsVerified}
use Rattle.pb_verifier.specs.declared.fault.VerifyFault.TheVariants.{OutOfLimits}

-- all that an event of the picks speaks of has a name
pub shown_named : {lending : Lending} (v : VerifiedCode) (picks : List Pick) (k : ℕ) (event : Event) → IsVerified v → AreEnabledBy lending v.code picks
    → Shows v.code picks k event → HasNames v.code.names event
shown_named {lending = lending} v picks k event verified all s =
    events_have_names lending v verified (state_after v.code picks k) (position_reached v.code picks k all) s.pick event (state_after v.code picks (k + 1))
    (moves_at v.code picks k (Some event) all s)

-- the process of each of the picks has a name
pub pick_named : {lending : Lending} (v : VerifiedCode) (picks : List Pick) (k : ℕ) (pick : Pick) → IsVerified v → AreEnabledBy lending v.code picks → slice_get picks k ≡ Some pick
    → pick.process < length v.code.names.processes
pick_named {lending = lending} v picks k pick verified all there =
    let e = enabled_at (bank_by lending v.code) (code_step v.code.processes) (code_opening v.code) all.end picks all.events k pick all.makes there in
    let m = code_move v.code.processes (state_after v.code picks k) pick e.move e.moves in
    let within = slice_get_within v.code.processes pick.process m.code m.at in
    let many = (verified.faultless OutOfLimits).process_names.all in
    omega (arith, within, many)

-- an arm that steps is there
arm_within : (code : ProcessCode) (process : CodeProcess) (a : ℕ) (made : CodeProcess × Effect) → step_process code process a ≡ Some made
    → a < length process.threads
arm_within code process a made h = elim (cases_lt a (length process.threads)) [
  | inl lt ↦ lt
  | inr le ↦ (
      let none : step_process code process a ≡ None = ap (step_thread code process a) (get_or_past process.threads a Idle le) in
      let both : Some made ≡ None = sym h ∙ none in
      cc)
]

-- the process and the arm of a pick are there just before it
pub pick_stands : {lending : Lending} (v : VerifiedCode) (picks : List Pick) (k : ℕ) (pick : Pick) → AreEnabledBy lending v.code picks
    → slice_get picks k ≡ Some pick
    → (code : ProcessCode) × (process : CodeProcess) × (slice_get v.code.processes pick.process ≡ Some code)
    × (slice_get (state_after v.code picks k).processes pick.process ≡ Some process) × (pick.arm < length process.threads)
pick_stands {lending = lending} v picks k pick all there =
    let e = enabled_at (bank_by lending v.code) (code_step v.code.processes) (code_opening v.code) all.end picks all.events k pick all.makes there in
    let m = code_move v.code.processes (state_after v.code picks k) pick e.move e.moves in
    (m.code, m.before, m.at, m.here, arm_within m.code m.before pick.arm (m.after, m.effect) m.steps)
