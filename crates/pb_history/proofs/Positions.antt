-- The state at each position of a replay, from the one before.
use Rattle.std.proofs.Common.{◌≡◌, ℕ, zero, suc, ◌+◌, List, [], ◌∷◌, ◌++◌, length, take, Option, Some, None}
use Rattle.std.proofs.Common.{option_to_list, refl, sym, ap, ◌∙◌, subst, arith}
use Rattle.std.specs.Prelude.{slice_get}
use Rattle.std.proofs.lemmas.List.{take_all}
use Rattle.pb_base.specs.declared.event.Event.{Event}
use Rattle.pb_base.specs.declared.lending.Lending.{Lending}
use Rattle.pb_base.specs.declared.pick.Pick.{Pick}
use Rattle.pb_base.specs.declared.step.Step.{Step}
use Rattle.pb_base.specs.declared.step.Step.TheVariants as answer
use Rattle.pb_base.specs.Steppers.{Bank, State, Stepper, Move, IsGranted, Makes, event_of, move_of}
use Rattle.pb_base.proofs.Lists.{take_next}
use Rattle.pb_code.specs.Code.{CodeProcess, code_step}
use Rattle.pb_code.specs.Reached.{CodeReachesBy, CodeMovesBy, CodeStaysBy}
use Rattle.pb_code.specs.Whole.{Code, bank_by, code_opening}
use Rattle.pb_machine.specs.Steps.{IsStepBy}
use Rattle.pb_history.specs.Entries.{Entry, events_of, picks_of}
use Rattle.pb_history.specs.Leads.{LeadsBy}
use Rattle.pb_history.proofs.TraceSteps.{traces_make}
use Rattle.pb_history.specs.Positions.{next_state, after, state_after, AreEnabledBy, ReplaysReachPositions, IsAfterBy}
use Rattle.pb_machine.specs.Views.{machine_view, IsMachineBy}
use Rattle.pb_machine.specs.declared.machine.Machine.{Machine}
use Rattle.pb_verifier.specs.Verified.{VerifiedCode}

pub after-append : {P : Type 0} (step : Stepper P) (s : State P) (xs ys : List Pick)
    → after step s (xs ++ ys) ≡ after step (after step s xs) ys
after-append step s [] ys = refl
after-append step s (x ∷ xs) ys = after-append step (next_state s (move_of step s x)) xs ys

-- picks that are enabled lead to where they are said to lead
pub makes_after : {P : Type 0} (bank : Bank) (step : Stepper P) (s end : State P) (picks : List Pick) (events : List Event)
    → Makes bank step s picks events end → after step s picks ≡ end
makes_after bank step s end [] events h = sym h.1
makes_after {P = P} bank step s end (pick ∷ picks) events h =
    ap (λ (o : Option (Move P)). after step (next_state s o) picks) h.1
    ∙ makes_after bank step h.0.next end picks h.3 h.5

-- what is known of a pick that is enabled in a state
pub record Enabled {P : Type 0} (bank : Bank) (step : Stepper P) (s : State P) (pick : Pick) : Type 0 where
  pub move : Move P
  pub moves : move_of step s pick ≡ Some move
  pub granted : IsGranted bank s.loans pick.process move.effect

-- each of them is enabled where those before it lead
pub enabled_at : {P : Type 0} (bank : Bank) (step : Stepper P) (s end : State P) (picks : List Pick) (events : List Event)
    (i : ℕ) (pick : Pick) → Makes bank step s picks events end → slice_get picks i ≡ Some pick
    → Enabled bank step (after step s (take i picks)) pick
enabled_at bank step s end [] events i pick h at = absurd cc
enabled_at bank step s end (first ∷ picks) events zero pick h at =
    let same : first ≡ pick = cc in
    subst (Enabled bank step s) same (record { move = h.0; moves = h.1; granted = h.2 })
enabled_at {P = P} bank step s end (first ∷ picks) events (suc i) pick h at =
    subst (λ (o : Option (Move P)). Enabled bank step (after step (next_state s o) (take i picks)) pick) (sym h.1)
    (enabled_at bank step h.0.next end picks h.3 i pick h.5 at)

module _ (code : Code) (picks : List Pick) where
  abbrev step : Stepper CodeProcess
  step = code_step code.processes

  pub state_more : (i : ℕ) (pick : Pick) → slice_get picks i ≡ Some pick
      → state_after code picks (i + 1) ≡ next_state (state_after code picks i) (move_of step (state_after code picks i) pick)
  state_more i pick at =
      ap (after step (code_opening code)) (take_next picks i pick at)
      ∙ after-append step (code_opening code) (take i picks) (pick ∷ [])

  -- a pick that was made leads to the next position
  pub moved_more : (lending : Lending) (i : ℕ) (pick : Pick) (event : Option Event) (next : State CodeProcess)
      → slice_get picks i ≡ Some pick → CodeMovesBy lending code (state_after code picks i) pick event next
      → next ≡ state_after code picks (i + 1)
  moved_more lending i pick event next at m =
      sym (state_more i pick at ∙ ap (next_state (state_after code picks i)) m.1)

  -- so the next position was reached, unless the pick is not enabled
  pub stepped_more : (lending : Lending) (i : ℕ) (pick : Pick) (result : Step) (next : State CodeProcess)
      → slice_get picks i ≡ Some pick → IsStepBy lending code (state_after code picks i) pick result next
      → (result ≡ answer.NotEnabled → ⊥) → next ≡ state_after code picks (i + 1)
  stepped_more lending i pick answer.Silent next at h not = moved_more lending i pick None next at h
  stepped_more lending i pick (answer.Did event) next at h not = moved_more lending i pick (Some event) next at h
  stepped_more lending i pick answer.NotEnabled next at h not = absurd (not refl)

  pub never_stays : {lending : Lending} → AreEnabledBy lending code picks → (i : ℕ) (pick : Pick) → slice_get picks i ≡ Some pick
      → CodeStaysBy lending code (state_after code picks i) pick → ⊥
  never_stays {lending = lending} all i pick at stays =
      let e = enabled_at (bank_by lending code) step (code_opening code) all.end picks all.events i pick all.makes at in
      stays e.move e.moves e.granted

  -- if all are enabled, no pick is refused
  pub not_refused : {lending : Lending} → AreEnabledBy lending code picks → (i : ℕ) (pick : Pick) (result : Step) (next : State CodeProcess)
      → slice_get picks i ≡ Some pick → IsStepBy lending code (state_after code picks i) pick result next
      → result ≡ answer.NotEnabled → ⊥
  not_refused {lending = lending} all i pick answer.Silent next at h e = cc
  not_refused {lending = lending} all i pick (answer.Did event) next at h e = cc
  not_refused {lending = lending} all i pick answer.NotEnabled next at h e = never_stays all i pick at h.0

abbrev no_picks : List Pick
no_picks = []

take_none : (i : ℕ) → take i no_picks ≡ no_picks
take_none zero = refl
take_none (suc i) = refl

-- some first picks of enabled ones are enabled, and lead to where they are said to lead
pub makes_prefix : {P : Type 0} (bank : Bank) (steps : Stepper P) (s end : State P) (picks : List Pick) (events : List Event) (i : ℕ)
    → Makes bank steps s picks events end
    → (first : List Event) × Makes bank steps s (take i picks) first (after steps s (take i picks))
makes_prefix bank steps s end [] events i h =
    subst (λ (ps : List Pick). (first : List Event) × Makes bank steps s ps first (after steps s ps)) (sym (take_none i)) ([], (refl, refl))
makes_prefix bank steps s end (pick ∷ picks) events zero h = ([], (refl, refl))
makes_prefix {P = P} bank steps s end (pick ∷ picks) events (suc i) h =
    let rest = makes_prefix bank steps h.0.next end picks h.3 i h.5 in
    let one = option_to_list (event_of pick h.0.effect) in
    let ends : after steps h.0.next (take i picks) ≡ after steps s (pick ∷ take i picks) =
    ap (λ (o : Option (Move P)). after steps (next_state s o) (take i picks)) (sym h.1) in (
      one ++ rest.0,
      (
        h.0,
        h.1,
        h.2,
        rest.0,
        refl,
        subst (λ (e : State P). Makes bank steps h.0.next (take i picks) rest.0 e) ends rest.1,
      ),
    )

-- so the code reaches each position
pub position_reached : {lending : Lending} (code : Code) (picks : List Pick) (i : ℕ) → AreEnabledBy lending code picks → CodeReachesBy lending code (state_after code picks i)
position_reached {lending = lending} code picks i all =
    let p = makes_prefix (bank_by lending code) (code_step code.processes) (code_opening code) all.end picks all.events i all.makes in
    (take i picks, p.0, p.1)

-- ---- entries that lead somewhere

pub leads_enabled : {lending : Lending} (code : Code) (entries : List Entry) (end : State CodeProcess) → LeadsBy lending code (code_opening code) entries end
    → AreEnabledBy lending code (picks_of entries)
leads_enabled {lending = lending} code entries end h = record {
  events = events_of entries;
  end = end;
  makes = traces_make lending code (code_opening code) end entries h;
}

-- they lead to the position after the last of their picks
pub leads_to : (lending : Lending) (code : Code) (entries : List Entry) (end : State CodeProcess) → LeadsBy lending code (code_opening code) entries end
    → end ≡ state_after code (picks_of entries) (length (picks_of entries))
leads_to lending code entries end h =
    let step = code_step code.processes in
    let makes = traces_make lending code (code_opening code) end entries h in
    let all = take_all (length (picks_of entries)) (picks_of entries) (omega arith) in
    sym (ap (after step (code_opening code)) all ∙ makes_after (bank_by lending code) step (code_opening code) end (picks_of entries) (events_of entries) makes)

pub replays_reach : ReplaysReachPositions
replays_reach lending code picks entries end h =
    subst (λ (ps : List Pick). AreEnabledBy lending code ps × (end ≡ state_after code ps (length ps))) h.made
    (leads_enabled code entries end h.leads, leads_to lending code entries end h.leads)

-- an enabled pick leads to the next position
pub stands_next : {lending : Lending} (v : VerifiedCode) (picks : List Pick) (i : ℕ) (pick : Pick) (m m' : Machine) (result : Step) → AreEnabledBy lending v.code picks
    → slice_get picks i ≡ Some pick → IsAfterBy lending v picks i m → IsStepBy lending v.code (machine_view m) pick result (machine_view m') → IsMachineBy lending v m'
    → IsAfterBy lending v picks (i + 1) m'
stands_next {lending = lending} v picks i pick m m' result all there at h of =
    let here = subst (λ (s : State CodeProcess). IsStepBy lending v.code s pick result (machine_view m')) at.state h in
    let not = not_refused v.code picks all i pick result (machine_view m') there here in
    record { machine = of; state = stepped_more v.code picks lending i pick result (machine_view m') there here not }
