-- Machines that walk along a trace, and what its picks show.
use Rattle.std.proofs.Common.{◌≡◌, ℕ, List, Option, Some, None, refl, sym, ap, ◌∙◌, subst}
use Rattle.std.specs.Prelude.{option_and_then, slice_get}
use Rattle.pb_base.specs.Banker.{cash}
use Rattle.pb_base.specs.Steppers.{State, Move, banker_state, event_of}
use Rattle.pb_base.specs.declared.event.Event.{Event}
use Rattle.pb_base.specs.declared.pick.Pick.{Pick}
use Rattle.pb_base.specs.declared.step.Step.{Step}
use Rattle.pb_base.specs.declared.step.Step.TheVariants as answer
use Rattle.pb_code.specs.Code.{CodeProcess, code_step}
use Rattle.pb_base.specs.declared.lending.Lending.{Lending}
use Rattle.pb_code.specs.Reached.{CodeMovesBy}
use Rattle.pb_code.specs.Whole.{Code, bank_of}
use Rattle.pb_draw.specs.Cash.{cash_after}
use Rattle.pb_draw.specs.Lanes.{IsStanding, IsStandingAfter}
use Rattle.pb_draw.specs.declared.drawing.Standing.{Standing}
use Rattle.pb_history.specs.Positions.{IsAfterBy, AreEnabledBy, state_after}
use Rattle.pb_draw.specs.Walks.{event_at, shown_in, step_event}
use Rattle.pb_history.proofs.Positions.{not_refused}
use Rattle.pb_machine.specs.Steps.{IsStepBy}
use Rattle.pb_machine.specs.Views.{machine_view, IsMachineBy}
use Rattle.pb_machine.specs.declared.machine.Machine.{Machine}
use Rattle.pb_verifier.specs.Verified.{VerifiedCode}

-- a pick that is made shows its event
moved_event : (lending : Lending) (code : Code) (picks : List Pick) (i : ℕ) (pick : Pick) (event : Option Event) (next : State CodeProcess)
    → slice_get picks i ≡ Some pick → CodeMovesBy lending code (state_after code picks i) pick event next → event_at code picks i ≡ event
moved_event lending code picks i pick event next there m =
    ap (λ (o : Option Pick). option_and_then (shown_in (code_step code.processes) (state_after code picks i)) o) there
    ∙ (ap (λ (o : Option (Move CodeProcess)). option_and_then (λ move. event_of pick move.effect) o) m.1 ∙ m.3)

pub shows_event : (lending : Lending) (v : VerifiedCode) (picks : List Pick) (i : ℕ) (pick : Pick) (m m' : Machine) (result : Step) → AreEnabledBy lending v.code picks
    → slice_get picks i ≡ Some pick → IsAfterBy lending v picks i m → IsStepBy lending v.code (machine_view m) pick result (machine_view m')
    → step_event result ≡ event_at v.code picks i
shows_event lending v picks i pick m m' answer.Silent all there at h =
    sym (moved_event lending v.code picks i pick None (machine_view m') there
    (subst (λ (s : State CodeProcess). CodeMovesBy lending v.code s pick None (machine_view m')) at.state h))
shows_event lending v picks i pick m m' (answer.Did event) all there at h =
    sym (moved_event lending v.code picks i pick (Some event) (machine_view m') there
    (subst (λ (s : State CodeProcess). CodeMovesBy lending v.code s pick (Some event) (machine_view m')) at.state h))
shows_event lending v picks i pick m m' answer.NotEnabled all there at h =
    absurd (not_refused v.code picks all i pick answer.NotEnabled (machine_view m') there
    (subst (λ (s : State CodeProcess). IsStepBy lending v.code s pick answer.NotEnabled (machine_view m')) at.state h) refl)

-- the cash of a machine is that at its position
pub cash_here : (lending : Lending) (v : VerifiedCode) (picks : List Pick) (i r : ℕ) (m : Machine) → IsAfterBy lending v picks i m
    → cash (banker_state (bank_of v.code) (machine_view m).loans) r ≡ cash_after v.code picks r i
cash_here lending v picks i r m h = ap (λ (s : State CodeProcess). cash (banker_state (bank_of v.code) s.loans) r) h.state

-- what an arm is doing in a machine it is doing at its position
pub standing_here : (lending : Lending) (v : VerifiedCode) (picks : List Pick) (i : ℕ) (arm : Pick) (standing : Standing) (m : Machine)
    → IsAfterBy lending v picks i m → ((lends : Lending) → IsMachineBy lends v m → IsStanding lends v.code (machine_view m) arm standing)
    → IsStandingAfter lending v.code picks arm i standing
standing_here lending v picks i arm standing m h is =
    subst (λ (s : State CodeProcess). IsStanding lending v.code s arm standing) h.state (is lending h.machine)
