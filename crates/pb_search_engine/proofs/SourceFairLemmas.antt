-- A fair run of a program that never ends is one of its code.
use Rattle.std.proofs.Common.{◌≡◌, ◌⊎◌, inl, inr, ℕ, zero, suc, ◌+◌, ◌-◌, ◌≤◌, List, [], ◌∷◌, length, map}
use Rattle.std.proofs.Common.{Option, Some, None, refl, sym, ap, ◌∙◌, subst, arith, false, true≢false}
use Rattle.pb_base.specs.declared.lending.Lending.{Lending}
use Rattle.pb_base.specs.declared.pick.Pick.{Pick}
use Rattle.pb_base.specs.Steppers.{Bank, IsGranted, Move, State, Table, opening}
use Rattle.pb_code.specs.Code.{CodeProcess, code_process, code_step}
use Rattle.pb_code.specs.Shadows.{is_skipped}
use Rattle.pb_code.specs.Whole.{Code}
use Rattle.pb_codegen.specs.Correct.{generated}
use Rattle.pb_codegen.proofs.SimulationRuns.{PicksAlike, StatesAlike, code_alone, not_enabled, opening_alike, picks_alike, together}
use Rattle.pb_generator.specs.Generate.{program_code}
use Rattle.pb_names.specs.Meaning.{source_bank_by}
use Rattle.pb_names.specs.Program.{AllWellNumbered, Program}
use Rattle.pb_names.specs.Source.{SourceProcess, source_process}
use Rattle.pb_search_fair.specs.CodeRuns.{HasFairRun}
use Rattle.pb_search_fair.specs.FairRuns.{IsEnabled}
use Rattle.pb_search_stages.proofs.EitherLending.{granted}
use Rattle.pb_search_stages.specs.Configurations.{Comes}
use Rattle.pb_search_stages.specs.Reaching.{CodeLeads, Configuration}
use Rattle.pb_search_stages.specs.Reduction.{LeadsTo}
use Rattle.pb_search_stages.specs.Traces.{Trace}
use Rattle.pb_search_stages.specs.declared.print.Mode.{Mode}
use Rattle.pb_search_stages.proofs.Traces.{plain_step, quiet_step}
use Rattle.pb_search_engine.specs.SourceFair.{HasFairRunOfProgram}
use Rattle.pb_search_engine.specs.SourceOutcomes.{SourceLeads, without_prints}
use Rattle.pb_search_engine.proofs.Skips.{catches_up}
use Rattle.pb_search_engine.proofs.SourceOutcomeLemmas.{lent}

no_rest : {X : Type 0} (xs : List X) → length xs ≡ 0 → xs ≡ []
no_rest [] e = refl
no_rest (x ∷ xs) e = absurd (omega (arith, e))

module _ (lending : Lending) (program : Program) (claims : Table) (numbered : AllWellNumbered program.processes) where
  abbrev bank : Bank
  bank = source_bank_by lending program claims

  abbrev code : Code
  code = program_code program claims

  abbrev code_opens : State CodeProcess
  code_opens = opening bank (map code_process (generated program.processes))

  abbrev source_opens : State SourceProcess
  source_opens = opening bank (map source_process program.processes)

  abbrev Leads : State CodeProcess → Pick → State CodeProcess → Type 0
  Leads = LeadsTo (IsGranted bank) (code_step (generated program.processes))

  abbrev Sees : State SourceProcess → Pick → State SourceProcess → Type 0
  Sees = SourceLeads lending program claims

  -- ---- one pick, where the source sees all that the code can do

  module _ (cs : State CodeProcess) (ss : State SourceProcess) (h : StatesAlike program.processes cs ss)
      (none : (pick : Pick) → is_skipped (generated program.processes) cs pick ≡ false) where
    by_code : (pick : Pick) (next : State SourceProcess) → Sees ss pick next
        → (after : State CodeProcess) × Leads cs pick after × StatesAlike program.processes after next
    by_code pick next (effect, moves, leave) = go (picks_alike program.processes cs ss pick h)
      where
        go : PicksAlike program.processes cs ss pick → (after : State CodeProcess) × Leads cs pick after × StatesAlike program.processes after next
        go (not_enabled c s) = let w : ◌≡◌ {A = Option (Move SourceProcess)} None (Some (record { next = next; effect = effect })) = sym s ∙ moves in cc
        go (code_alone cs' skips c alike on) = elim (true≢false (sym skips ∙ none pick)) [ ]
        go (together cs' ss' by stays c s alike) =
            let same : ◌≡◌ {A = Option (Move SourceProcess)} (Some (record { next = ss'; effect = by })) (Some (record { next = next; effect = effect })) = sym s ∙ moves in
            let same' : ◌≡◌ {A = Move SourceProcess} (record { next = ss'; effect = by }) (record { next = next; effect = effect }) = cc in
            let is : ss' ≡ next = ap (λ m. m.next) same' in
            let by_is : effect ≡ by = sym (ap (λ m. m.effect) same') in
            let leave' : IsGranted bank cs.loans pick.process by =
            subst (λ e. IsGranted bank cs.loans pick.process e) by_is (subst (λ l. IsGranted bank l pick.process effect) (sym h.loans) leave) in
            (cs', (by, c, leave'), subst (λ x. StatesAlike program.processes cs' x) is alike)

    by_source : (pick : Pick) (next : State CodeProcess) → Leads cs pick next → IsEnabled Sees ss pick
    by_source pick next (effect, moves, leave) = go (picks_alike program.processes cs ss pick h)
      where
        go : PicksAlike program.processes cs ss pick → IsEnabled Sees ss pick
        go (not_enabled c s) = let w : ◌≡◌ {A = Option (Move CodeProcess)} None (Some (record { next = next; effect = effect })) = sym c ∙ moves in cc
        go (code_alone cs' skips c alike on) = elim (true≢false (sym skips ∙ none pick)) [ ]
        go (together cs' ss' by stays c s alike) =
            let same : ◌≡◌ {A = Option (Move CodeProcess)} (Some (record { next = cs'; effect = by })) (Some (record { next = next; effect = effect })) = sym c ∙ moves in
            let same' : ◌≡◌ {A = Move CodeProcess} (record { next = cs'; effect = by }) (record { next = next; effect = effect }) = cc in
            let by_is : effect ≡ by = sym (ap (λ m. m.effect) same') in
            let leave' : IsGranted bank ss.loans pick.process by =
            subst (λ e. IsGranted bank ss.loans pick.process e) by_is (subst (λ l. IsGranted bank l pick.process effect) h.loans leave) in
            (ss', (by, s, leave'))

  -- ---- the run of the code: after each pick of the source all those that it does not see

  module _ (run : HasFairRunOfProgram lending program claims) where
    -- where the code is: these picks, which the source does not see, lead to where the source is after so many of its own
    record Position : Type 0 where
      pub index : ℕ
      pub state : State CodeProcess
      pub rest : List Pick
      pub end : State CodeProcess
      pub comes : Comes Leads state rest end
      pub alike : StatesAlike program.processes end (run.at index)
      pub none : (pick : Pick) → is_skipped (generated program.processes) end pick ≡ false

    -- after a pick of the source
    abbrev behind : (index : ℕ) (state : State CodeProcess) → StatesAlike program.processes state (run.at index) → Position
    behind index state alike = record {
      index = index;
      state = state;
      rest = (catches_up bank program.processes (run.at index) state alike).picks;
      end = (catches_up bank program.processes (run.at index) state alike).last;
      comes = (catches_up bank program.processes (run.at index) state alike).comes;
      alike = (catches_up bank program.processes (run.at index) state alike).alike;
      none = (catches_up bank program.processes (run.at index) state alike).none;
    }

    -- the pick that is made here, and where it leads: the next that is left, or else the next of the source
    record Step (p : Position) : Type 0 where
      pub pick : Pick
      pub next : Position
      pub leads : Leads p.state pick next.state
      pub how : ((next.index ≡ p.index) × (length p.rest ≡ suc (length next.rest)))
          ⊎ ((length p.rest ≡ 0) × (next.index ≡ suc p.index) × (pick ≡ run.pick p.index))

    step : (p : Position) → Step p
    step p = go p.rest refl
      where
        go : (rest : List Pick) → p.rest ≡ rest → Step p
        go [] e =
            let here : p.end ≡ p.state = subst (λ (r : List Pick). Comes Leads p.state r p.end) e p.comes in
            let on = by_code p.end (run.at p.index) p.alike p.none (run.pick p.index) (run.at (suc p.index)) (run.goes p.index) in
            record {
              pick = run.pick p.index;
              next = behind (suc p.index) on.0 on.2;
              leads = subst (λ (s : State CodeProcess). Leads s (run.pick p.index) on.0) here on.1;
              how = inr (ap (λ (r : List Pick). length r) e, refl, refl);
            }
        go (pick ∷ rest) e =
            let c = subst (λ (r : List Pick). Comes Leads p.state r p.end) e p.comes in
            record {
              pick = pick;
              next = record { index = p.index; state = c.0; rest = rest; end = p.end; comes = c.2; alike = p.alike; none = p.none };
              leads = c.1;
              how = inl (refl, ap (λ (r : List Pick). length r) e);
            }

    abbrev first : Position
    first = behind 0 code_opens
        (subst (λ (s : State SourceProcess). StatesAlike program.processes code_opens s) (sym run.begins)
        (opening_alike bank program.processes numbered))

    abbrev position : ℕ → Position
    position zero = first
    position (suc k) = (step (position k)).next

    -- a later position at which nothing is left, after so many picks of the source
    record Settled (k index : ℕ) : Type 0 where
      pub at : ℕ
      pub later : k ≤ at
      pub index_is : (position at).index ≡ index
      pub none_left : length (position at).rest ≡ 0

    settled : (left k : ℕ) → length (position k).rest ≡ left → Settled k (position k).index
    settled zero k e = record { at = k; later = omega arith; index_is = refl; none_left = e }
    settled (suc left) k e = elim (step (position k)).how [
      | inl on ↦
          let fewer = on.1 in
          let left_is : length (step (position k)).next.rest ≡ left = omega (arith, fewer, e) in
          let more = settled left (suc k) left_is in
          let later = more.later in
          record { at = more.at; later = omega (arith, later); index_is = more.index_is ∙ on.0; none_left = more.none_left }
      | inr over ↦ (let none = over.0 in absurd (omega (arith, none, e)))
    ]

    settled_at : (more k index : ℕ) → (position k).index + more ≡ index → Settled k index
    settled_at zero k index e =
        let here = settled (length (position k).rest) k refl in
        let is = here.index_is in
        record { at = here.at; later = here.later; index_is = omega (arith, is, e); none_left = here.none_left }
    settled_at (suc more) k index e =
        let here = settled (length (position k).rest) k refl in
        let none = here.none_left in
        elim (step (position here.at)).how [
          | inl on ↦ (let fewer = on.1 in absurd (omega (arith, fewer, none)))
          | inr over ↦
              let is = here.index_is in
              let next = over.1 in
              let behind_is : (step (position here.at)).next.index + more ≡ index = omega (arith, is, next, e) in
              let there = settled_at more (suc here.at) index behind_is in
              let later = there.later in
              let so_far = here.later in
              record { at = there.at; later = omega (arith, later, so_far); index_is = there.index_is; none_left = there.none_left }
        ]

    -- what is enabled there is enabled in the source
    enabled_there : (k index : ℕ) (arm : Pick) → (position k).index ≡ index → length (position k).rest ≡ 0
        → IsEnabled Leads (position k).state arm → IsEnabled Sees (run.at index) arm
    enabled_there k index arm is none (next, leads) =
        let p = position k in
        let here : p.end ≡ p.state = subst (λ (r : List Pick). Comes Leads p.state r p.end) (no_rest p.rest none) p.comes in
        subst (λ (i : ℕ). IsEnabled Sees (run.at i) arm) is
        (by_source p.end (run.at p.index) p.alike p.none arm next
        (subst (λ (s : State CodeProcess). Leads s arm next) (sym here) leads))

    -- and the pick that is made there is that of the source
    picked_there : (k index : ℕ) → (position k).index ≡ index → length (position k).rest ≡ 0
        → (step (position k)).pick ≡ run.pick index
    picked_there k index is none = elim (step (position k)).how [
      | inl on ↦ (let fewer = on.1 in absurd (omega (arith, fewer, none)))
      | inr over ↦ over.2 ∙ ap run.pick is
    ]

    is_fair : (arm : Pick) (k : ℕ)
        → (m : ℕ) × (k ≤ m) × (((step (position m)).pick ≡ arm) ⊎ (IsEnabled Leads (position m).state arm → ⊥))
    is_fair arm k =
        let f = run.fair arm (position k).index in
        let later = f.1 in
        let s = settled_at (f.0 - (position k).index) k f.0 (omega (arith, later)) in (
          s.at,
          s.later,
          elim f.2 [
            | inl picked ↦ inl (picked_there s.at f.0 s.index_is s.none_left ∙ picked)
            | inr idle ↦ inr (λ enabled. idle (enabled_there s.at f.0 arm s.index_is s.none_left enabled))
          ],
        )

    -- ---- with the prints, of which none is kept

    abbrev mode : Mode
    mode = without_prints lending

    abbrev trace_at : ℕ → Trace
    trace_at k = record { state = (position k).state; prints = [] }

    code_leads : (s : State CodeProcess) (pick : Pick) (next : State CodeProcess) → Leads s pick next → CodeLeads lending code s pick next
    code_leads s pick next (effect, moves, leave) = (effect, moves, lent lending code s.loans pick.process effect leave)

    bank_leads : (s : State CodeProcess) (pick : Pick) (next : Configuration) → CodeLeads lending code s pick next → Leads s pick next
    bank_leads s pick next (effect, moves, leave) = (effect, moves, granted lending code s.loans pick.process effect leave)

    pub fair_run_of_code : HasFairRun mode code
    fair_run_of_code = record {
      at = trace_at;
      pick = λ k. (step (position k)).pick;
      begins = refl;
      goes = λ k.
          quiet_step mode code refl (trace_at k) (position (suc k)).state (step (position k)).pick
          (code_leads (position k).state (step (position k)).pick (position (suc k)).state (step (position k)).leads);
      fair = λ arm k.
          let f = is_fair arm k in (
            f.0,
            f.1,
            elim f.2 [
              | inl picked ↦ inl picked
              | inr idle ↦ inr (λ enabled.
                  idle (
                    enabled.0.state,
                    bank_leads (position f.0).state arm enabled.0.state
                        (plain_step mode code (trace_at f.0) enabled.0 arm enabled.1),
                  ))
            ],
          );
    }
