-- A process has faulted exactly if a fault was shown.
use Rattle.std.proofs.Common.{◌≡◌, ◌⊎◌, ℕ, zero, suc, List, [], ◌∷◌, ◌++◌, Option, Some, None, true, false, map}
use Rattle.std.proofs.Common.{option_to_list, refl, sym, ap, ◌∙◌, subst, inl, inr}
use Rattle.std.specs.Prelude.{slice_get, slice_set}
use Rattle.pb_base.specs.declared.lending.Lending.TheVariants.{ByBanker}
use Rattle.pb_base.specs.declared.event.Event.{Event}
use Rattle.pb_base.specs.declared.event.Event.TheVariants.{Faulted}
use Rattle.pb_base.specs.declared.operators.FaultKind.{FaultKind}
use Rattle.pb_base.specs.declared.pick.Pick.{Pick}
use Rattle.pb_base.specs.Steppers.{Effect, Faults, State, event_of}
use Rattle.pb_base.specs.Steppers as effect
use Rattle.pb_base.proofs.Cases.{same_or_not}
use Rattle.pb_code.specs.Code.{CodeProcess, ProcessCode, code_process}
use Rattle.pb_code.specs.Reached.{CodeMoves, CodeReaches}
use Rattle.pb_code.specs.Whole.{code_opening}
use Rattle.pb_history.specs.Entries.{Entry, events_of}
use Rattle.pb_history.specs.Leads.{Leads}
use Rattle.pb_machine.proofs.OneMorePick.{reaches_on}
use Rattle.pb_verifier.proofs.LoansWithinClaims.{kept_reached}
use Rattle.pb_verifier.proofs.States.{checked, code_move, slice_set_other, slice_set_same}
use Rattle.pb_verifier.proofs.ThreadTurns.{turned}
use Rattle.pb_verifier.specs.Verified.{VerifiedCode, IsVerified}
use Rattle.pb_engines.specs.Outcomes.{ShowsFault}
use Rattle.pb_accept.specs.ToldEvents.{HasFault}
use Rattle.pb_verifier.proofs.Requests.{slice_set_here}

-- ---- effects

-- an effect is a fault, or is none
fault_or_not : (e : Effect) → ((kind : FaultKind) × (e ≡ Faults kind)) ⊎ ((kind : FaultKind) → e ≡ Faults kind → ⊥)
fault_or_not effect.Silent = inr (λ kind is. cc)
fault_or_not (effect.Prints v) = inr (λ kind is. cc)
fault_or_not (effect.Takes bundle) = inr (λ kind is. cc)
fault_or_not (effect.Returns bundle) = inr (λ kind is. cc)
fault_or_not (effect.Faults kind) = inl (kind, refl)
fault_or_not effect.Finishes = inr (λ kind is. cc)

-- only a fault shows one
shown_fault : (pick other : Pick) (kind : FaultKind) (e : Effect) → event_of pick e ≡ Some (Faulted other kind)
    → (k : FaultKind) × (e ≡ Faults k)
shown_fault pick other kind effect.Silent is = absurd cc
shown_fault pick other kind (effect.Prints v) is = absurd cc
shown_fault pick other kind (effect.Takes bundle) is = absurd cc
shown_fault pick other kind (effect.Returns bundle) is = absurd cc
shown_fault pick other kind (effect.Faults k) is = (k, refl)
shown_fault pick other kind effect.Finishes is = absurd cc

-- ---- one pick

module _ (v : VerifiedCode) (verified : IsVerified v) where
  -- after a pick some process has faulted exactly if one had, or if the pick shows a fault
  now_faulted : (s next : State CodeProcess) (pick : Pick) (event : Option Event) → CodeReaches v.code s → CodeMoves v.code s pick event next
      → HasFault next → HasFault s ⊎ ((kind : FaultKind) × (event ≡ Some (Faulted pick kind)))
  now_faulted s next pick event reached made (p, process, there, faulted) =
      let m = code_move v.code.processes s pick _ made.1 in
      let kept = kept_reached v.code verified.faultless s reached in
      let turn = turned m.code (checked v.code verified.faultless pick.process m.code m.at) m.before m.after pick.arm m.effect
      (kept.good.fit pick.process m.code m.before m.at m.here) m.steps in
      let same : m.effect ≡ made.0 = ap (λ x. x.effect) m.is in
      let processes : slice_set s.processes pick.process m.after ≡ next.processes = ap (λ x. x.next.processes) m.is in
      let here : slice_get (slice_set s.processes pick.process m.after) p ≡ Some process =
      subst (λ (ps : List CodeProcess). slice_get ps p ≡ Some process) (sym processes) there in
      elim (same_or_not p pick.process) [
        | inr other ↦ inl (p, process, sym (slice_set_other s.processes pick.process p m.after other) ∙ here, faulted)
        | inl is ↦
            let after : m.after ≡ process =
            slice_set_same s.processes pick.process m.after process (subst (λ (i : ℕ). slice_get (slice_set
            s.processes pick.process m.after) i ≡ Some process) is here) in
            elim (fault_or_not m.effect) [
              | inl (kind, fault) ↦ inr (kind, sym made.3 ∙ ap (event_of pick) (sym same ∙ fault))
              | inr none ↦ inl (pick.process, m.before, m.here, sym (turn.stays none) ∙ (ap (λ (q : CodeProcess). q.faulted) after ∙ faulted))
            ]
      ]

  -- a process that has faulted stays so
  still_faulted : (s next : State CodeProcess) (pick : Pick) (event : Option Event) → CodeReaches v.code s → CodeMoves v.code s pick event next
      → HasFault s → HasFault next
  still_faulted s next pick event reached made (p, process, there, faulted) =
      let m = code_move v.code.processes s pick _ made.1 in
      let kept = kept_reached v.code verified.faultless s reached in
      let turn = turned m.code (checked v.code verified.faultless pick.process m.code m.at) m.before m.after pick.arm m.effect
      (kept.good.fit pick.process m.code m.before m.at m.here) m.steps in
      let processes : slice_set s.processes pick.process m.after ≡ next.processes = ap (λ x. x.next.processes) m.is in
      let at : (q : CodeProcess) (i : ℕ) → slice_get (slice_set s.processes pick.process m.after) i ≡ Some q → slice_get next.processes i ≡ Some q =
      λ q i found. subst (λ (ps : List CodeProcess). slice_get ps i ≡ Some q) processes found in
      elim (same_or_not p pick.process) [
        | inr other ↦ (p, process, at process p (slice_set_other s.processes pick.process p m.after other ∙ there), faulted)
        | inl is ↦
            let first : Some process ≡ Some m.before = sym there ∙ (ap (slice_get s.processes) is ∙ m.here) in
            let before : process ≡ m.before = cc in
            elim (fault_or_not m.effect) [
              | inl (kind, fault) ↦ (
                pick.process,
                m.after,
                at m.after pick.process (slice_set_here s.processes
                    pick.process m.after m.before m.here),
                turn.fails kind fault,
              )
              | inr none ↦ (
                pick.process,
                m.after,
                at m.after pick.process (slice_set_here s.processes pick.process m.after
                    m.before m.here),
                turn.stays none ∙ (ap (λ (q : CodeProcess). q.faulted) (sym before) ∙
                    faulted),
              )
            ]
      ]

  -- a fault that is shown
  has_faulted : (s next : State CodeProcess) (pick other : Pick) (kind : FaultKind) → CodeReaches v.code s
      → CodeMoves v.code s pick (Some (Faulted other kind)) next → HasFault next
  has_faulted s next pick other kind reached made =
      let m = code_move v.code.processes s pick _ made.1 in
      let kept = kept_reached v.code verified.faultless s reached in
      let turn = turned m.code (checked v.code verified.faultless pick.process m.code m.at) m.before m.after pick.arm m.effect
      (kept.good.fit pick.process m.code m.before m.at m.here) m.steps in
      let same : m.effect ≡ made.0 = ap (λ x. x.effect) m.is in
      let fault = shown_fault pick other kind made.0 made.3 in
      let processes : slice_set s.processes pick.process m.after ≡ next.processes = ap (λ x. x.next.processes) m.is in (
        pick.process,
        m.after,
        subst (λ (ps : List CodeProcess). slice_get ps pick.process ≡ Some m.after) processes
            (slice_set_here s.processes pick.process m.after m.before m.here),
        turn.fails fault.0 (same ∙ fault.1),
      )

  -- ---- picks one after another

  shown_later : (event : Option Event) (later : List Event) → ShowsFault later → ShowsFault (option_to_list event ++ later)
  shown_later None later shown = shown
  shown_later (Some event) later (i, pick, kind, there) = (suc i, pick, kind, there)

  shown_at_once : (event : Option Event) (later : List Event) (pick : Pick) (kind : FaultKind) → event ≡ Some (Faulted pick kind)
      → ShowsFault (option_to_list event ++ later)
  shown_at_once None later pick kind is = absurd cc
  shown_at_once (Some event) later pick kind is = (0, pick, kind, is)

  -- a fault that is shown in the end, or before, was shown
  pub fault_was_shown : (s end : State CodeProcess) (entries : List Entry) → CodeReaches v.code s → Leads v.code s entries end
      → HasFault end → HasFault s ⊎ ShowsFault (events_of entries)
  fault_was_shown s end [] reached leads fault = inl (subst HasFault leads fault)
  fault_was_shown s end (e ∷ entries) reached (next, moves, rest) fault =
      elim (fault_was_shown next end entries (reaches_on ByBanker v.code s next e.pick e.event reached moves) rest fault) [
        | inr shown ↦ inr (shown_later e.event (events_of entries) shown)
        | inl before ↦ elim (now_faulted s next e.pick e.event reached moves before) [
          | inl earlier ↦ inl earlier
          | inr (kind, is) ↦ inr (shown_at_once e.event (events_of entries) e.pick kind is)
        ]
      ]

  stays_faulted : (s end : State CodeProcess) (entries : List Entry) → CodeReaches v.code s → Leads v.code s entries end → HasFault s → HasFault end
  stays_faulted s end [] reached leads fault = subst HasFault (sym leads) fault
  stays_faulted s end (e ∷ entries) reached (next, moves, rest) fault =
      stays_faulted next end entries (reaches_on ByBanker v.code s next e.pick e.event reached moves) rest (still_faulted s next e.pick e.event reached moves fault)

  -- a fault that was shown is there
  pub shown_fault_is_there : (s end : State CodeProcess) (entries : List Entry) → CodeReaches v.code s → Leads v.code s entries end
      → ShowsFault (events_of entries) → HasFault end
  shown_fault_is_there s end [] reached leads (i, pick, kind, there) = absurd cc
  shown_fault_is_there s end (e ∷ entries) reached (next, moves, rest) shown =
      go e.event moves (shown_fault_is_there next end entries (reaches_on ByBanker v.code s next e.pick e.event reached moves) rest) shown
    where
      on : CodeReaches v.code next
      on = reaches_on ByBanker v.code s next e.pick e.event reached moves

      go : (event : Option Event) → CodeMoves v.code s e.pick event next → (ShowsFault (events_of entries) → HasFault end)
          → ShowsFault (option_to_list event ++ events_of entries) → HasFault end
      go None made later shown = later shown
      go (Some event) made later (zero, pick, kind, there) =
          let is : event ≡ Faulted pick kind = cc in
          stays_faulted next end entries on rest
          (has_faulted s next e.pick pick kind reached (subst (λ (x : Event). CodeMoves v.code s e.pick (Some x) next) is made))
      go (Some event) made later (suc i, pick, kind, there) = later (i, pick, kind, there)

  -- at the start nothing has faulted
  opening_faultless : HasFault (code_opening v.code) → ⊥
  opening_faultless (p, process, there, faulted) = go v.code.processes p there
    where
      go : (codes : List ProcessCode) (p : ℕ) → slice_get (map code_process codes) p ≡ Some process → ⊥
      go [] p there = absurd cc
      go (c ∷ codes) zero there =
          let is : code_process c ≡ process = cc in
          let no : false ≡ true = ap (λ (q : CodeProcess). q.faulted) is ∙ faulted in
          cc
      go (c ∷ codes) (suc p) there = go codes p there

  -- in a run some process has faulted exactly if a fault was shown
  pub faults_are_shown : (end : State CodeProcess) (entries : List Entry) → Leads v.code (code_opening v.code) entries end
      → HasFault end → ShowsFault (events_of entries)
  faults_are_shown end entries leads fault = elim (fault_was_shown (code_opening v.code) end entries ([], [], (refl, refl)) leads fault) [
    | inl first ↦ absurd (opening_faultless first)
    | inr shown ↦ shown
  ]

  pub shown_faults_are : (end : State CodeProcess) (entries : List Entry) → Leads v.code (code_opening v.code) entries end
      → ShowsFault (events_of entries) → HasFault end
  shown_faults_are end entries leads shown = shown_fault_is_there (code_opening v.code) end entries ([], [], (refl, refl)) leads shown
