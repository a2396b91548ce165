-- One step of all processes, from one step of one of them.
use Rattle.std.proofs.Common.{◌≡◌, ◌≢◌, inl, inr, ℕ, zero, suc, ◌+◌, ◌<◌, ◌≤◌, ℤ, List, [], ◌∷◌, length, map, set}
use Rattle.std.proofs.Common.{get_or, Result, Ok, Err, Option, Some, None, option_map, option_and_then, ap, ap₂}
use Rattle.std.proofs.Common.{subst, refl, sym, ◌∙◌, arith}
use Rattle.std.specs.Prelude.{slice_get, IfOk, OnErr}
use Rattle.std.proofs.lemmas.Bool.Decides.{eqb_tells}
use Rattle.std.proofs.lemmas.List.{length-set, get_or-set_same, get_or-set_other, set-get_or}
use Rattle.std.proofs.lemmas.Option.{get_or_from_slice_get, slice_get_within, slice_get-map}
use Rattle.std.proofs.lemmas.Option.{slice_get_past}
use Rattle.pb_base.specs.Banker.{BankerState, row_of, processes, resources, IsWellFormed}
use Rattle.pb_base.specs.Bundle.{lend, give_back}
use Rattle.pb_base.specs.Steppers.{Table, Effect, Silent, Prints, Takes, Returns, Faults, Finishes, ending}
use Rattle.pb_base.specs.Steppers.{loans_after, State, Move, IsGranted, move_of, moved}
use Rattle.pb_base.specs.Steps.{IsStepOf, Moves, Stays}
use Rattle.pb_base.specs.declared.event.Event.{Event}
use Rattle.pb_base.specs.declared.pick.Pick.{Pick}
use Rattle.pb_base.specs.declared.step.Step.{Step}
use Rattle.pb_base.specs.declared.step.Step.TheVariants as step
use Rattle.pb_base.proofs.LoanRows.{get_or-lend, get_or-give_back}
use Rattle.pb_names.specs.Claims.{held}
use Rattle.pb_names.specs.Source.{Arm, Ended, ArmStep, Goes, Breaks, Ends, step_arm, find, put, SourceProcess, settle}
use Rattle.pb_names.specs.Source.{step_run, source_step}
use Rattle.pb_rewrite.specs.Sound.{AreSound, IsSoundRun}
use Rattle.pb_rewrite.specs.Steps.{IsProcessStep}
use Rattle.pb_rewrite.specs.Steps as steps
use Rattle.pb_rewrite.specs.View.{bank_view, process_view}
use Rattle.pb_rewrite.specs.declared.process.SourceProcess.{SourceProcess as GivenProcess}
use Rattle.pb_rewrite.proofs.ArmHoldings.{LendsBy, goes_lends, ends_hold, held_put}
use Rattle.pb_rewrite.proofs.ArmNumbers.{owned_single, found_owned, owned_put, keeps_owned, owned_le}
use Rattle.pb_rewrite.proofs.Processes.{process_of, both, first_same, second_same, nothing_made}
use Rattle.pb_base.proofs.Lists.{item_at}

-- ---- the row of a process after an effect

abbrev pub row_after : List ℕ → Effect → List ℕ
row_after row Silent = row
row_after row (Prints v) = row
row_after row (Takes bundle) = lend row bundle
row_after row (Returns bundle) = give_back row bundle
row_after row (Faults kind) = map (λ _. 0) row
row_after row Finishes = row

row_here : (loans : Table) (p : ℕ) (effect : Effect) → p < length loans → row_of (loans_after loans p effect) p ≡ row_after (row_of loans p) effect
row_here loans p Silent l = refl
row_here loans p (Prints v) l = refl
row_here loans p (Takes bundle) l = get_or-set_same loans p (lend (row_of loans p) bundle) [] l
row_here loans p (Returns bundle) l = get_or-set_same loans p (give_back (row_of loans p) bundle) [] l
row_here loans p (Faults kind) l = get_or-set_same loans p (map (λ _. 0) (row_of loans p)) [] l
row_here loans p Finishes l = refl

row_there : (loans : Table) (p q : ℕ) (effect : Effect) → q ≢ p → row_of (loans_after loans p effect) q ≡ row_of loans q
row_there loans p q Silent d = refl
row_there loans p q (Prints v) d = refl
row_there loans p q (Takes bundle) d = get_or-set_other loans p q (lend (row_of loans p) bundle) [] d
row_there loans p q (Returns bundle) d = get_or-set_other loans p q (give_back (row_of loans p) bundle) [] d
row_there loans p q (Faults kind) d = get_or-set_other loans p q (map (λ _. 0) (row_of loans p)) [] d
row_there loans p q Finishes d = refl

-- ---- what is lent stays what is held

lent_after : (n r whole old new k : ℕ) (row : List ℕ) (effect : Effect) → length row ≡ n → LendsBy n r old new effect
    → get_or row r 0 ≡ whole → k + old ≡ whole + new → get_or (row_after row effect) r 0 ≡ k
lent_after n r whole old new k row Silent width h lent same = omega arith
lent_after n r whole old new k row (Prints v) width h lent same = omega arith
lent_after n r whole old new k row (Takes bundle) width h lent same =
    let more = get_or-lend row bundle r (rw width h.0) in
    let now = h.1 in
    omega arith
lent_after n r whole old new k row (Returns bundle) width h lent same =
    let less = get_or-give_back row bundle r (rw width h.0) in
    let now = h.1 in
    omega arith
lent_after n r whole old new k row (Faults kind) width h lent same = elim h [ ]
lent_after n r whole old new k row Finishes width h lent same = elim h [ ]

module _ (n : ℕ) (row : List ℕ) (width : length row ≡ n) (a : ℕ) (vars : List ℤ) (run : Arm) (sound : IsSoundRun n row (Some run)) (arm : Arm)
    (there : find a 0 run ≡ Some arm) where
  goes_on : (vars' : List ℤ) (arm' : Arm) (effect : Effect) → step_arm vars arm ≡ Some (Goes vars' arm' effect)
      → IsSoundRun n (row_after row effect) (Some (put a arm' 0 run))
  goes_on vars' arm' effect is =
      let single = owned_single n 1 sound.0.0 a run sound.0.1 in
      let owned = found_owned n 0 1 sound.0.0 a run arm sound.0.1 there in (
        (sound.0.0, owned_put n 0 1 sound.0.0 a arm arm' run sound.0.1 single there (λ lo hi o. keeps_owned n lo hi vars vars' arm arm' effect o is)),
        λ r l. lent_after n r (held r run) (held r arm) (held r arm') (held r (put a arm' 0 run)) row effect width
            (goes_lends n r owned.0 owned.1 vars vars' arm arm' effect owned.2 is) (sound.1 r l) (held_put r a 0 arm arm' run single there),
      )

  comes_to_end : step_arm vars arm ≡ Some Ends → IsSoundRun n row (Some (put a Ended 0 run))
  comes_to_end is =
      let single = owned_single n 1 sound.0.0 a run sound.0.1 in
      let owned = found_owned n 0 1 sound.0.0 a run arm sound.0.1 there in (
        (sound.0.0, owned_put n 0 1 sound.0.0 a arm Ended run sound.0.1 single there (λ lo hi o. owned_le n lo hi arm o)),
        λ r l.
            let none = ends_hold n r owned.0 owned.1 vars arm owned.2 is in
            let whole = held_put r a 0 arm Ended run single there in
            let lent = sound.1 r l in
            omega arith,
      )

row_ending : (row : List ℕ) (a : ℕ) → row_after row (ending a) ≡ row
row_ending row zero = refl
row_ending row (suc a) = refl

module _ (n : ℕ) (row : List ℕ) (width : length row ≡ n) (a : ℕ) (vars : List ℤ) (q : SourceProcess) (effect : Effect) where
  from_step : (run : Arm) → IsSoundRun n row (Some run) → (arm : Arm) → find a 0 run ≡ Some arm → (made : Option ArmStep)
      → step_arm vars arm ≡ made → option_map (settle vars run a) made ≡ Some (both q effect) → IsSoundRun n (row_after row effect) q.run
  from_step run sound arm there None is h = absurd (nothing_made q effect h)
  from_step run sound arm there (Some (Goes vars' arm' e)) is h =
      let next = process_of vars' (Some (put a arm' 0 run)) in
      let on = goes_on n row width a vars run sound arm there vars' arm' e is in
      subst (λ f. IsSoundRun n (row_after row f) q.run) (second_same next q e effect h)
      (subst (λ x. IsSoundRun n (row_after row e) x.run) (first_same next q e effect h) on)
  from_step run sound arm there (Some (Breaks kind)) is h =
      let next = process_of vars None in
      subst (λ x. IsSoundRun n (row_after row effect) x.run) (first_same next q (Faults kind) effect h) tt
  from_step run sound arm there (Some Ends) is h =
      let next = process_of vars (Some (put a Ended 0 run)) in
      let on = comes_to_end n row width a vars run sound arm there is in
      let same : row_after row effect ≡ row = ap (row_after row) (sym (second_same next q (ending a) effect h)) ∙ row_ending row a in
      subst (λ x. IsSoundRun n (row_after row effect) x.run) (first_same next q (ending a) effect h)
      (subst (λ rs. IsSoundRun n rs (Some (put a Ended 0 run))) (sym same) on)

  from_found : (run : Arm) → IsSoundRun n row (Some run) → (found : Option Arm) → find a 0 run ≡ found
      → option_and_then (λ arm. option_map (settle vars run a) (step_arm vars arm)) found ≡ Some (both q effect)
      → IsSoundRun n (row_after row effect) q.run
  from_found run sound None there h = absurd (nothing_made q effect h)
  from_found run sound (Some arm) there h = from_step run sound arm there (step_arm vars arm) refl h

  from_run : (run : Option Arm) → IsSoundRun n row run → option_and_then (step_run vars a) run ≡ Some (both q effect)
      → IsSoundRun n (row_after row effect) q.run
  from_run None sound h = absurd (nothing_made q effect h)
  from_run (Some run) sound h = from_found run sound (find a 0 run) refl h

-- ---- the state

set_there : {X : Type 0} (xs : List X) (i : ℕ) (y : X) → i < length xs → slice_get (set xs i y) i ≡ Some y
set_there [] i y l = absurd (omega arith)
set_there (x ∷ xs) zero y l = refl
set_there (x ∷ xs) (suc i) y l = set_there xs i y (omega arith)

pub some_same : {X : Type 0} (x y : X) → Some x ≡ Some y → x ≡ y
some_same x y h = cc

set_here : {X : Type 0} (xs : List X) (i : ℕ) (y x : X) → i < length xs → slice_get (set xs i y) i ≡ Some x → y ≡ x
set_here xs i y x l h = some_same y x (sym (set_there xs i y l) ∙ h)

set_other : {X : Type 0} (xs : List X) (i j : ℕ) (y : X) → j ≢ i → slice_get (set xs i y) j ≡ slice_get xs j
set_other [] i j y d = refl
set_other (x ∷ xs) zero zero y d = absurd (d refl)
set_other (x ∷ xs) zero (suc j) y d = refl
set_other (x ∷ xs) (suc i) zero y d = refl
set_other (x ∷ xs) (suc i) (suc j) y d = set_other xs i j y (λ e. d (ap suc e))

abbrev pub state_with : List SourceProcess → Table → State SourceProcess
state_with ps loans = record { processes = ps; loans = loans }

abbrev move_to : State SourceProcess → Effect → Move SourceProcess
move_to next effect = record { next = next; effect = effect }

effect_of : Effect → Option (Move SourceProcess) → Effect
effect_of d None = d
effect_of d (Some move) = move.effect

same_effect : (one two : Move SourceProcess) → Some one ≡ Some two → one.effect ≡ two.effect
unfolding effect_of
same_effect one two h = ap (effect_of one.effect) h

no_move : (move : Move SourceProcess) → None ≡ Some move → ⊥
no_move move h = cc

module _ (s s' : BankerState) (ps : List SourceProcess) (pick : Pick) (process q : SourceProcess)
    (there : slice_get ps pick.process ≡ Some process) where
  made : (o : Option (SourceProcess × Effect)) → source_step pick.process process pick.arm ≡ o
      → move_of source_step (state_with ps s.loans) pick ≡ option_map (moved (state_with ps s.loans) pick) o
  made o h =
      ap (option_and_then (λ x. option_map (moved (state_with ps s.loans) pick) (source_step pick.process x pick.arm))) there
      ∙ ap (option_map (moved (state_with ps s.loans) pick)) h

  moves : (shown : Option Event) → steps.TakesStep s process pick shown q s'
      → Moves (bank_view s) source_step (state_with ps s.loans) pick shown (state_with (set ps pick.process q) s'.loans)
  moves shown h = (
    h.0,
    made (Some (both q h.0)) h.1
        ∙ ap (λ t. Some (move_to (state_with (set ps pick.process q) t.loans) h.0)) (sym h.4),
    h.2,
    h.3,
  )

  stays : (o : Option (SourceProcess × Effect)) → source_step pick.process process pick.arm ≡ o
      → ((next : SourceProcess) (effect : Effect) → o ≡ Some (both next effect) → IsGranted (bank_view s) s.loans pick.process effect → ⊥)
      → Stays (bank_view s) source_step (state_with ps s.loans) pick
  stays None is never move m granted = no_move move (sym (made None is) ∙ m)
  stays (Some next) is never move m granted =
      let same = same_effect (moved (state_with ps s.loans) pick next) move (sym (made (Some next) is) ∙ m) in
      never next.0 next.1 refl (subst (IsGranted (bank_view s) s.loans pick.process) (sym same) granted)

  process_stays : q ≡ process → set ps pick.process q ≡ ps
  process_stays same =
      ap (set ps pick.process) (same ∙ sym (get_or_from_slice_get ps pick.process process process there)) ∙ set-get_or ps pick.process process

  pub steps_so : (answer : Step) → IsProcessStep s process pick answer q s'
      → IsStepOf (bank_view s) source_step (state_with ps s.loans) pick answer (state_with (set ps pick.process q) s'.loans)
  steps_so step.Silent h = moves None h
  steps_so (step.Did shown) h = moves (Some shown) h
  steps_so step.NotEnabled h = (
    stays (source_step pick.process process pick.arm) refl h.0,
    ap₂ state_with (process_stays h.1) (ap (λ t. t.loans) h.2),
  )

  -- ---- each run stays sound

  module _ (formed : IsWellFormed s) (sound : AreSound s ps) where
    within : pick.process < processes s
    within = omega (arith, slice_get_within ps pick.process process there, sound.number)

    takes_sound : (shown : Option Event) → steps.TakesStep s process pick shown q s' → AreSound s' (set ps pick.process q)
    takes_sound shown h =
        subst (λ t. AreSound t (set ps pick.process q)) (sym h.4) (record {
          number = length-set ps pick.process q ∙ sound.number;
          each = λ j x at. elim (eqb_tells j pick.process) [
            | inl e ↦
                (let same : q ≡ x = set_here ps pick.process q x (slice_get_within ps pick.process process there)
                (subst (λ k. slice_get (set ps pick.process q) k ≡ Some x) e.1 at) in
                let row = row_of s.loans pick.process in
                let on = from_run (resources s) row (formed.loan_width pick.process within) pick.arm process.vars q h.0 process.run
                (sound.each pick.process process there) h.1 in
                subst (λ k. IsSoundRun (resources s) (row_of (loans_after s.loans pick.process h.0) k) x.run) (sym e.1)
                (subst (λ y. IsSoundRun (resources s) (row_of (loans_after s.loans pick.process h.0) pick.process) y.run) same
                (subst (λ rs. IsSoundRun (resources s) rs q.run) (sym (row_here s.loans pick.process h.0 (omega (arith, within, formed.all_loans)))) on)))
            | inr e ↦
                subst (λ rs. IsSoundRun (resources s) rs x.run) (sym (row_there s.loans pick.process j h.0 e.1))
                (sound.each j x (sym (set_other ps pick.process j q e.1) ∙ at))
          ];
        })

    pub stays_sound : (answer : Step) → IsProcessStep s process pick answer q s' → AreSound s' (set ps pick.process q)
    stays_sound step.Silent h = takes_sound None h
    stays_sound (step.Did shown) h = takes_sound (Some shown) h
    stays_sound step.NotEnabled h = subst (λ t. AreSound t (set ps pick.process q)) (sym h.2) (subst (AreSound s) (sym (process_stays h.1)) sound)

-- a process that is not there
pub nowhere : (s : BankerState) (ps : List SourceProcess) (pick : Pick) → length ps ≤ pick.process
    → Stays (bank_view s) source_step (state_with ps s.loans) pick
nowhere s ps pick past move m granted =
    no_move move (sym (ap (option_and_then (λ x. option_map (moved (state_with ps s.loans) pick) (source_step
    pick.process x pick.arm))) (slice_get_past ps pick.process past)) ∙ m)

-- ---- the same of a result that may be refused

module _ {E : Type 0} (s s' : BankerState) (ps : List SourceProcess) (pick : Pick) (process q : SourceProcess)
    (there : slice_get ps pick.process ≡ Some process) where
  pub answer_so : (r : Result Step E) → IfOk r (λ answer. IsProcessStep s process pick answer q s')
      → IfOk r (λ answer. IsStepOf (bank_view s) source_step (state_with ps s.loans) pick answer (state_with (set ps pick.process q) s'.loans))
  answer_so (Ok answer) h = steps_so s s' ps pick process q there answer h
  answer_so (Err error) h = tt

  pub refused_so : (r : Result Step E) → OnErr r (q ≡ process) → OnErr r (s' ≡ s)
      → OnErr r (state_with (set ps pick.process q) s'.loans ≡ state_with ps s.loans)
  refused_so (Ok answer) same same_loans = tt
  refused_so (Err error) same same_loans =
      ap₂ state_with (process_stays s s' ps pick process q there same) (ap (λ t. t.loans) same_loans)

  pub bank_stays : (r : Result Step E) → IfOk r (λ answer. IsProcessStep s process pick answer q s') → OnErr r (s' ≡ s)
      → bank_view s' ≡ bank_view s
  bank_stays (Ok step.Silent) h same = ap bank_view h.4
  bank_stays (Ok (step.Did shown)) h same = ap bank_view h.4
  bank_stays (Ok step.NotEnabled) h same = ap bank_view h.2
  bank_stays (Err error) h same = ap bank_view same

  pub sound_so : IsWellFormed s → AreSound s ps → (r : Result Step E) → IfOk r (λ answer. IsProcessStep s process pick answer q s')
      → OnErr r (q ≡ process) → OnErr r (s' ≡ s) → AreSound s' (set ps pick.process q)
  sound_so formed sound (Ok answer) h same same_loans = stays_sound s s' ps pick process q there formed sound answer h
  sound_so formed sound (Err error) h same same_loans =
      subst (λ t. AreSound t (set ps pick.process q)) (sym same_loans)
      (subst (AreSound s) (sym (process_stays s s' ps pick process q there same)) sound)

pub view_at : {A : Type 0} (items : List (GivenProcess A)) (i : ℕ) (x : GivenProcess A) → i < length items → x ≡ get_or items i x
    → slice_get (map process_view items) i ≡ Some (process_view x)
view_at items i x lt at = slice_get-map process_view items i ∙ ap (option_map process_view) (item_at items i x lt at)
