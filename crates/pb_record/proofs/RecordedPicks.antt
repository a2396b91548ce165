-- Picks of a run, made one after another, and that each can be said.
use Rattle.std.proofs.Common.{◌≡◌, ℕ, zero, suc, ◌+◌, ◌-◌, ◌<◌, ◌≤◌, List, [], ◌∷◌, ◌++◌, length, replicate}
use Rattle.std.proofs.Common.{Option, Some, None, IfSome, refl, sym, ap, subst, ◌∙◌, append-nil}
use Rattle.std.proofs.Common.{append_assoc, length-append, inl, inr, arith}
use Rattle.std.specs.Prelude.{slice_get}
use Rattle.std.proofs.lemmas.Bool.{cases_lt}
use Rattle.std.proofs.lemmas.List.{length-replicate}
use Rattle.std.proofs.lemmas.List.Elements.{All-cons, All-nil}
use Rattle.pb_base.specs.declared.lending.Lending.{Lending}
use Rattle.pb_base.specs.declared.event.Event.{Event}
use Rattle.pb_base.specs.declared.pick.Pick.{Pick}
use Rattle.pb_base.specs.Steppers.{CanGoOn, Makes, State, event_of}
use Rattle.pb_base.proofs.Lists.{get_some}
use Rattle.pb_code.specs.Code.{CodeProcess, ProcessCode, code_step}
use Rattle.pb_code.specs.Reached.{CodeMovesBy, CodeReachesBy}
use Rattle.pb_code.specs.Whole.{Code, bank_by, code_opening}
use Rattle.pb_history.specs.Replays.{spread}
use Rattle.pb_history.specs.declared.counted.CountedPick.{CountedPick}
use Rattle.pb_history.proofs.TraceSteps.{replicate_more}
use Rattle.pb_machine.proofs.EitherLending.{good_reached}
use Rattle.pb_machine.proofs.OneMorePick.{reaches_on}
use Rattle.pb_machine.specs.Steps.{MovesSilentlyBy}
use Rattle.pb_picks.specs.Counted.{AreApart}
use Rattle.pb_picks.specs.Laws.{CanBeSaid}
use Rattle.pb_picks.specs.PickLines.{SpellsPick, pick_line}
use Rattle.pb_verifier.specs.Verified.{IsFaultless}
use Rattle.pb_record.specs.Draws.{IsDrawnRun}
use Rattle.pb_record.specs.Schedule.{MakesAtMost, StepsSome}
use Rattle.pb_record.specs.declared.schedule.Next.{Next}
use Rattle.pb_record.specs.declared.schedule.Next.TheVariants.{Silent, Did, NotEnabled}
use Rattle.pb_record.specs.Recorded.{IsRecorded}
use Rattle.pb_picks.proofs.CountedOnce.{apart_rest, some_first}
use Rattle.pb_record.proofs.RunLemmas.{CodeMakes, makes_last}
use Rattle.pb_code.proofs.StayingPicks.{no_such_arm, no_such_process}

-- ---- picks that are made

-- these counted picks lead to this state
pub record LeadTo (lending : Lending) (code : Code) (picks : List CountedPick) (state : State CodeProcess) : Type 0 where
  pub events : List Event
  pub makes : CodeMakes lending code (spread picks) events state

pub lead_first : (lending : Lending) (code : Code) (picks : List CountedPick) (state : State CodeProcess) → picks ≡ [] → state ≡ code_opening code → LeadTo lending code picks state
lead_first lending code picks state none opening = record {
  events = [];
  makes = subst (λ (cs : List CountedPick). CodeMakes lending code (spread cs) [] state) (sym none) (refl, opening);
}

-- picks of a run, and n silent ones of one arm
silent_on : (lending : Lending) (code : Code) (picks : List Pick) (events : List Event) (before after : State CodeProcess) (pick : Pick) (n : ℕ)
    → CodeMakes lending code picks events before → MovesSilentlyBy lending code pick n before after → CodeMakes lending code (picks ++ replicate n pick) events after
silent_on lending code picks events before after pick zero makes same =
    subst (λ (ps : List Pick). CodeMakes lending code ps events after) (sym (append-nil picks)) (subst (CodeMakes lending code picks events) (sym same) makes)
silent_on lending code picks events before after pick (suc n) makes (between, so_far, last) =
    let h = silent_on lending code picks events before between pick n makes so_far in
    let one = makes_last lending code (picks ++ replicate n pick) events between after pick None h last in
    let all : (picks ++ replicate n pick) ++ pick ∷ [] ≡ picks ++ replicate (suc n) pick =
    append_assoc picks (replicate n pick) (pick ∷ []) ∙ ap (λ (ps : List Pick). picks ++ ps) (sym (replicate_more n pick)) in
    subst (λ (ps : List Pick). CodeMakes lending code ps events after) all
    (subst (λ (es : List Event). CodeMakes lending code ((picks ++ replicate n pick) ++ pick ∷ []) es after) (append-nil events) one)

pub lead_silent : (lending : Lending) (code : Code) (picks more : List CountedPick) (before after : State CodeProcess) (pick : Pick) (n : ℕ)
    → LeadTo lending code picks before → spread more ≡ spread picks ++ replicate n pick → MovesSilentlyBy lending code pick n before after → LeadTo lending code more after
lead_silent lending code picks more before after pick n lead same moves = record {
  events = lead.events;
  makes = subst (λ (ps : List Pick). CodeMakes lending code ps lead.events after) (sym same)
      (silent_on lending code (spread picks) lead.events before after pick n lead.makes moves);
}

pub lead_shown : (lending : Lending) (code : Code) (picks more : List CountedPick) (before after : State CodeProcess) (pick : Pick) (event : Event)
    → LeadTo lending code picks before → spread more ≡ spread picks ++ replicate 1 pick → CodeMovesBy lending code before pick (Some event) after → LeadTo lending code more after
lead_shown lending code picks more before after pick event lead same moves =
    record {
      events = lead.events ++ event ∷ [];
      makes = subst (λ (ps : List Pick). CodeMakes lending code ps (lead.events ++ event ∷ []) after) (sym same)
          (makes_last lending code (spread picks) lead.events before after pick (Some event) lead.makes moves);
    }

-- n more picks
pub more_picks : (picks more : List CountedPick) (pick : Pick) (n : ℕ) → spread more ≡ spread picks ++ replicate n pick
    → length (spread more) ≡ length (spread picks) + n
more_picks picks more pick n same =
    let l = ap (λ (ps : List Pick). length ps) same in
    let a = length-append (spread picks) (replicate n pick) in
    let r = length-replicate n pick in
    omega (arith, l, a, r)

-- if one pick is left, a single one is within what is left
pub within_left : (left : ℕ) (next : Next) → 0 < left → MakesAtMost 1 next → MakesAtMost left next
within_left left (Silent pick made) some within = omega (arith, some, within)
within_left left (Did pick event) some within = tt
within_left left NotEnabled some within = tt

-- silent picks that were made and counted
pub silent_more : (lending : Lending) (code : Code) (picks more : List CountedPick) (before after : State CodeProcess) (next : Next) (pick : Pick) (made left steps : ℕ)
    → next ≡ Silent pick made → StepsSome lending code before next after → MakesAtMost left next → LeadTo lending code picks before
    → length (spread picks) + left ≡ steps → spread more ≡ spread picks ++ replicate made pick
    → LeadTo lending code more after × (length (spread more) + (left - made) ≡ steps)
silent_more lending code picks more before after next pick made left steps same step within lead many counted =
    let moves : StepsSome lending code before (Silent pick made) after = subst (λ (n : Next). StepsSome lending code before n after) same step in
    let few : MakesAtMost left (Silent pick made) = subst (MakesAtMost left) same within in
    let all = more_picks picks more pick made counted in
    (lead_silent lending code picks more before after pick made lead counted moves.1, omega (arith, all, few, many))

-- a pick that shows an event, made and counted
pub shown_more : (lending : Lending) (code : Code) (picks more : List CountedPick) (before after : State CodeProcess) (next : Next) (pick : Pick) (event : Event) (left steps : ℕ)
    → next ≡ Did pick event → StepsSome lending code before next after → 0 < left → LeadTo lending code picks before
    → length (spread picks) + left ≡ steps → spread more ≡ spread picks ++ replicate 1 pick
    → LeadTo lending code more after × (length (spread more) + (left - 1) ≡ steps)
shown_more lending code picks more before after next pick event left steps same step some lead many counted =
    let moves : StepsSome lending code before (Did pick event) after = subst (λ (n : Next). StepsSome lending code before n after) same step in
    let all = more_picks picks more pick 1 counted in
    (lead_shown lending code picks more before after pick event lead counted moves, omega (arith, all, some, many))

pub is_recorded : (lending : Lending) (code : Code) (steps left : ℕ) (seed : Option ℕ) (picks : List CountedPick) (state : State CodeProcess) → LeadTo lending code picks state
    → length (spread picks) + left ≡ steps → AreApart picks → (CanGoOn (bank_by lending code) (code_step code.processes) state → left ≡ 0)
    → IfSome seed (λ number. IsDrawnRun lending code number (spread picks)) → IsRecorded lending code steps seed picks state
is_recorded lending code steps left seed picks state lead many apart used drawn = record {
  events = lead.events;
  makes = lead.makes;
  few = omega (arith, many);
  all = λ on. let none = used on in omega (arith, many, none);
  drawn = drawn;
  apart = apart;
}

-- a silent run makes a pick
pub some_silent : (lending : Lending) (code : Code) (before after : State CodeProcess) (next : Next) (pick : Pick) (made : ℕ) → next ≡ Silent pick made
    → StepsSome lending code before next after → 1 ≤ made
some_silent lending code before after next pick made same step =
    let moves : StepsSome lending code before (Silent pick made) after = subst (λ (n : Next). StepsSome lending code before n after) same step in
    moves.0

-- the picks of a run after which none is enabled
pub stopped_is_recorded : (lending : Lending) (code : Code) (steps left : ℕ) (seed : Option ℕ) (picks : List CountedPick) (before after : State CodeProcess)
    (next : Next) → next ≡ NotEnabled → StepsSome lending code before next after → LeadTo lending code picks before
    → length (spread picks) + left ≡ steps → AreApart picks → IfSome seed (λ number. IsDrawnRun lending code number (spread picks))
    → IsRecorded lending code steps seed picks after
stopped_is_recorded lending code steps left seed picks before after next same step lead many apart drawn =
    let stops : StepsSome lending code before NotEnabled after = subst (λ (n : Next). StepsSome lending code before n after) same step in
    subst (IsRecorded lending code steps seed picks) (sym stops.1)
    (is_recorded lending code steps left seed picks before lead many apart (λ on. absurd (stops.0 on)) drawn)

-- ---- each pick can be said

-- the process and the arm of a pick are there
abbrev IsThere : Code → Pick → Type 0
IsThere code pick = (process : ProcessCode) × (slice_get code.processes pick.process ≡ Some process) × (pick.arm < length process.entries)

module _ (lending : Lending) (code : Code) (faultless : IsFaultless code) where
  enabled_is_there : (s next : State CodeProcess) (pick : Pick) (event : Option Event) → CodeReachesBy lending code s →
      CodeMovesBy lending code s pick event next → IsThere code pick
  enabled_is_there s next pick event reached moves = elim (cases_lt pick.process (length s.processes)) [
    | inr le ↦ absurd (no_such_process lending code s pick le (record { next = next; effect = moves.0 }) moves.1 moves.2)
    | inl lt ↦
        let good = (good_reached code faultless lending s reached) in
        let count = good.count in
        let state = get_some s.processes pick.process lt in
        let process = get_some code.processes pick.process (omega (arith, lt, count)) in
        let threads = (good.fit pick.process process.0 state.0 process.1 state.1).threads in
        elim (cases_lt pick.arm (length state.0.threads)) [
          | inl arm ↦ (process.0, process.1, omega (arith, arm, threads))
          | inr past ↦ absurd (no_such_arm lending code s pick state.0 state.1 past (record { next = next; effect = moves.0 }) moves.1 moves.2)
        ]
  ]

  -- after some picks of one arm the others are made
  abbrev Behind : List Pick → State CodeProcess → Type 0
  Behind picks end =
      (mid : State CodeProcess) × (events : List Event) × CodeReachesBy lending code mid
      × Makes (bank_by lending code) (code_step code.processes) mid picks events end

  one_on : (s end : State CodeProcess) (pick : Pick) (picks : List Pick) (events : List Event) → CodeReachesBy lending code s
      → Makes (bank_by lending code) (code_step code.processes) s (pick ∷ picks) events end
      → IsThere code pick × Behind picks end
  one_on s end pick picks events reached (move, is, granted, later, same, rest) =
      let moves : CodeMovesBy lending code s pick (event_of pick move.effect) move.next = (move.effect, is, granted, refl) in (
        enabled_is_there s move.next pick (event_of pick move.effect) reached moves,
        (move.next, later, reaches_on lending code s move.next pick (event_of pick move.effect) reached moves, rest),
      )

  behind : (n : ℕ) (s end : State CodeProcess) (pick : Pick) (picks : List Pick) (events : List Event) → CodeReachesBy lending code s
      → Makes (bank_by lending code) (code_step code.processes) s (replicate n pick ++ picks) events end → Behind picks end
  behind zero s end pick picks events reached makes = (s, events, reached, makes)
  behind (suc n) s end pick picks events reached makes =
      let on = (one_on s end pick (replicate n pick ++ picks) events reached makes).1 in
      behind n on.0 end pick picks on.1 on.2 on.3

  first_is_there : (n : ℕ) (s end : State CodeProcess) (pick : Pick) (picks : List Pick) (events : List Event) → 0 < n → CodeReachesBy lending code s
      → Makes (bank_by lending code) (code_step code.processes) s (replicate n pick ++ picks) events end → IsThere code pick
  first_is_there zero s end pick picks events some reached makes = absurd (omega (arith, some))
  first_is_there (suc n) s end pick picks events some reached makes = (one_on s end pick (replicate n pick ++ picks) events reached makes).0

  said_from : (s end : State CodeProcess) (picks : List CountedPick) (events : List Event) → AreApart picks → length (spread picks) ≤ 10000000
      → CodeReachesBy lending code s → Makes (bank_by lending code) (code_step code.processes) s (spread picks) events end → CanBeSaid code picks
  said_from s end [] events apart few reached makes = All-nil (λ (c : CountedPick). SpellsPick code (pick_line code.names.processes c) c)
  said_from s end (c ∷ picks) events apart few reached makes =
      let some = some_first c picks apart in
      let there = first_is_there c.count s end c.pick (spread picks) events some reached makes in
      let rest = behind c.count s end c.pick (spread picks) events reached makes in
      let all = length-append (replicate c.count c.pick) (spread picks) in
      let count = length-replicate c.count c.pick in
      let says : SpellsPick code (pick_line code.names.processes c) c = record {
        process = there.0;
        there = there.1;
        arm = there.2;
        some = some;
        most = omega (arith, all, count, few);
        spelled = refl;
      } in
      All-cons (λ (d : CountedPick). SpellsPick code (pick_line code.names.processes d) d) c picks says
      (said_from rest.0 end picks rest.1 (apart_rest c picks apart) (omega (arith, all, few)) rest.2 rest.3)

  pub recorded_can_be_said : (steps : ℕ) (seed : Option ℕ) (picks : List CountedPick) (end : State CodeProcess) → steps ≤ 10000000
      → IsRecorded lending code steps seed picks end → CanBeSaid code picks
  recorded_can_be_said steps seed picks end most recorded =
      let few = recorded.few in
      said_from (code_opening code) end picks recorded.events recorded.apart (omega (arith, few, most))
      ([], [], (refl, refl)) recorded.makes
