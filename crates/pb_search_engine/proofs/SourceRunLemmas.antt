-- The runs of code are those of its program: its deadlocks, and whether they end.
use Rattle.std.proofs.Common.{◌≡◌, ◌⊎◌, inl, inr, ℕ, zero, suc, ◌+◌, ◌<◌, ◌≤◌, List, [], ◌∷◌, ◌++◌, length, length-append, map}
use Rattle.std.proofs.Common.{Option, Some, None, refl, sym, ap, ◌∙◌, subst, arith, false, true≢false}
use Rattle.pb_base.specs.declared.lending.Lending.{Lending}
use Rattle.pb_base.specs.declared.pick.Pick.{Pick}
use Rattle.pb_base.specs.Steppers.{Bank, Silent, IsGranted, Move, State, Table, opening}
use Rattle.pb_code.specs.Code.{CodeProcess, code_process, code_step}
use Rattle.pb_code.specs.Shadows.{is_skipped}
use Rattle.pb_code.specs.Whole.{Code}
use Rattle.pb_codegen.specs.Correct.{generated}
use Rattle.pb_codegen.proofs.SimulationBack.{followed}
use Rattle.pb_codegen.proofs.SimulationRuns.{PicksAlike, StatesAlike, code_alone, not_enabled, opening_alike, picks_alike, together}
use Rattle.pb_generator.specs.Generate.{program_code}
use Rattle.pb_names.specs.Meaning.{source_bank_by}
use Rattle.pb_names.specs.Program.{AllWellNumbered, Process, Program}
use Rattle.pb_names.specs.Source.{SourceProcess, source_process, source_step}
use Rattle.pb_search.specs.Outcomes.{HasEndlessRun, IsBounded}
use Rattle.pb_search_stages.proofs.EitherLending.{granted}
use Rattle.pb_search_stages.specs.Configurations.{Comes}
use Rattle.pb_search_stages.specs.Reaching.{CodeLeads, Configuration, IsDeadlock, outcome_of}
use Rattle.pb_search_stages.specs.Reduction.{LeadsTo}
use Rattle.pb_search_stages.specs.Traces.{Trace, TraceLeads, TraceReaches, trace_opening}
use Rattle.pb_search_stages.specs.declared.print.Mode.{Mode}
use Rattle.pb_search_stages.proofs.ClosedSets.{comes_on}
use Rattle.pb_search_stages.proofs.ReachedByBanker.{come, make}
use Rattle.pb_search_stages.proofs.Traces.{dead_plain, dead_traced, plain_comes, traced_step}
use Rattle.pb_search_engine.specs.SourceOutcomes.{SourceComes, SourceLeads, source_outcome_of}
use Rattle.pb_search_engine.specs.SourceRuns.{HasRunsOf, IsDeadlockOfCode, IsDeadlockOfProgram, IsSourceDeadlock, SourceIsBounded}
use Rattle.pb_search_engine.specs.SourceRuns.{SourceIsEndless, Stuck}
use Rattle.pb_search_engine.proofs.Skips.{catches_up, rank, skips_on}
use Rattle.pb_search_engine.proofs.SourceOutcomeLemmas.{code_finished, granted_comes, lent, lent_comes, same_outcomes, source_finished}

-- the prints on the way
traced : (mode : Mode) (code : Code) (s : Trace) (end : Configuration) (picks : List Pick) → Comes (CodeLeads mode.lending code) s.state picks end
    → (last : Trace) × Comes (TraceLeads mode code) s picks last × (last.state ≡ end)
traced mode code s end [] h = (s, refl, sym h)
traced mode code s end (pick ∷ picks) h =
    let on = traced_step mode code s h.0 pick h.1 in
    let next : Trace = record { state = h.0; prints = on.0 } in
    let more = traced mode code next end picks h.2 in
    (more.0, (next, on.1, more.1), more.2)

-- ---- what the source does meanwhile

-- the source makes the picks that it sees: one at least, or as many skips were made as the picks are
record Mirrored (bank : Bank) (program : List Process) (cs : State CodeProcess) (ss : State SourceProcess) (picks : List Pick)
    (end : State CodeProcess) : Type 0 where
  pub made : List Pick
  pub last : State SourceProcess
  pub comes : Comes (LeadsTo (IsGranted bank) source_step) ss made last
  pub alike : StatesAlike program end last
  pub counts : (0 < length made) ⊎ (rank (generated program) end.processes + length picks ≡ rank (generated program) cs.processes)

mirrored : (bank : Bank) (program : List Process) (cs : State CodeProcess) (ss : State SourceProcess) (picks : List Pick)
    (end : State CodeProcess) → StatesAlike program cs ss
    → Comes (LeadsTo (IsGranted bank) (code_step (generated program))) cs picks end → Mirrored bank program cs ss picks end
mirrored bank program cs ss [] end h comes =
    record {
      made = [];
      last = ss;
      comes = refl;
      alike = subst (λ s. StatesAlike program s ss) (sym comes) h;
      counts = inr (let same = ap (λ (s : State CodeProcess). rank (generated program) s.processes) comes in omega (arith, same));
    }
mirrored bank program cs ss (pick ∷ picks) end h (next, (effect, moves, leave), comes) =
    go (picks_alike program cs ss pick h) (λ ss' alike. mirrored bank program next ss' picks end alike comes)
  where
    go : PicksAlike program cs ss pick → ((ss' : State SourceProcess) → StatesAlike program next ss' → Mirrored bank program next ss' picks end)
        → Mirrored bank program cs ss (pick ∷ picks) end
    go (not_enabled c s) rest = let w : ◌≡◌ {A = Option (Move CodeProcess)} None (Some (record { next = next; effect = effect })) = sym c ∙ moves in cc
    go (code_alone cs' skips c alike on) rest =
        let skip = skips_on program cs ss pick h skips in
        let same : ◌≡◌ {A = Option (Move CodeProcess)} (Some (record { next = skip.next; effect = Silent })) (Some (record { next = next; effect = effect })) = sym skip.moves ∙ moves in
        let same' : ◌≡◌ {A = Move CodeProcess} (record { next = skip.next; effect = Silent }) (record { next = next; effect = effect }) = cc in
        let is : skip.next ≡ next = ap (λ m. m.next) same' in
        let more = rest ss (subst (λ s. StatesAlike program s ss) is skip.alike) in
        let falls : rank (generated program) next.processes + 1 ≡ rank (generated program) cs.processes =
        subst (λ (s : State CodeProcess). rank (generated program) s.processes + 1 ≡ rank (generated program) cs.processes) is skip.falls in
        record {
          made = more.made;
          last = more.last;
          comes = more.comes;
          alike = more.alike;
          counts = elim more.counts [
            | inl some ↦ inl some
            | inr none ↦ inr (omega (arith, none, falls))
          ];
        }
    go (together cs' ss' by stays c s alike) rest =
        let same : ◌≡◌ {A = Option (Move CodeProcess)} (Some (record { next = cs'; effect = by })) (Some (record { next = next; effect = effect })) = sym c ∙ moves in
        let same' : ◌≡◌ {A = Move CodeProcess} (record { next = cs'; effect = by }) (record { next = next; effect = effect }) = cc in
        let is : cs' ≡ next = ap (λ m. m.next) same' in
        let by_is : effect ≡ by = sym (ap (λ m. m.effect) same') in
        let more = rest ss' (subst (λ x. StatesAlike program x ss') is alike) in
        let leave' : IsGranted bank ss.loans pick.process by =
        subst (λ e. IsGranted bank ss.loans pick.process e) by_is (subst (λ l. IsGranted bank l pick.process effect) h.loans leave) in
        record {
          made = pick ∷ more.made;
          last = more.last;
          comes = (ss', (by, s, leave'), more.comes);
          alike = more.alike;
          counts = inl (omega arith);
        }

-- ---- the code of a program

module _ (mode : Mode) (program : Program) (claims : Table) (numbered : AllWellNumbered program.processes) where
  abbrev lending : Lending
  lending = mode.lending

  abbrev bank : Bank
  bank = source_bank_by lending program claims

  abbrev code : Code
  code = program_code program claims

  abbrev code_opens : State CodeProcess
  code_opens = opening bank (map code_process (generated program.processes))

  abbrev source_opens : State SourceProcess
  source_opens = opening bank (map source_process program.processes)

  -- where the source is when the code is there
  by_source : (picks : List Pick) (s : Trace) → TraceReaches mode code picks s
      → Mirrored bank program.processes code_opens source_opens picks s.state
  by_source picks s reaches =
      mirrored bank program.processes code_opens source_opens picks s.state (opening_alike bank program.processes numbered)
      (granted_comes lending code code_opens s.state picks (plain_comes mode code (trace_opening code) s picks reaches))

  -- where the code is when the source is there
  record ByCode (picks : List Pick) (ss : State SourceProcess) : Type 0 where
    pub made : List Pick
    pub last : State CodeProcess
    pub comes : Comes (LeadsTo (IsGranted bank) (code_step (generated program.processes))) code_opens made last
    pub alike : StatesAlike program.processes last ss
    pub long : length picks ≤ length made

  by_code : (picks : List Pick) (ss : State SourceProcess) → SourceComes lending program claims picks ss → ByCode picks ss
  by_code picks ss comes =
      let made = make bank source_step source_opens ss picks comes in
      let f = followed bank program.processes code_opens source_opens picks made.0 ss (opening_alike bank program.processes numbered) made.1 in
      record {
        made = f.code_picks;
        last = f.last;
        comes = come bank (code_step (generated program.processes)) code_opens f.last f.code_picks made.0 f.makes;
        alike = f.alike;
        long = f.long;
      }

  -- the code comes there, with its prints
  reached : (picks : List Pick) (s : State CodeProcess) → Comes (LeadsTo (IsGranted bank) (code_step (generated program.processes))) code_opens picks s
      → (last : Trace) × TraceReaches mode code picks last × (last.state ≡ s)
  reached picks s comes = traced mode code (trace_opening code) s picks (lent_comes lending code code_opens s picks comes)

  -- ---- deadlocks

  module _ (cs : State CodeProcess) (ss : State SourceProcess) (h : StatesAlike program.processes cs ss) where
    stuck_source : IsDeadlock lending code cs → IsSourceDeadlock lending program claims ss
    stuck_source dead = (
      λ over. dead.0 (code_finished program.processes cs ss h over),
      λ goes. go goes.0 goes.1.next (goes.1.effect, goes.2, goes.3) (picks_alike program.processes cs ss goes.0 h),
    )
      where
        go : (pick : Pick) (next : State SourceProcess) → SourceLeads lending program claims ss pick next
            → PicksAlike program.processes cs ss pick → ⊥
        go pick next (effect, moves, leave) (not_enabled c s) = let w : ◌≡◌ {A = Option (Move SourceProcess)} None (Some (record { next = next; effect = effect })) = sym s ∙ moves in cc
        go pick next (effect, moves, leave) (code_alone cs' skips c alike on) =
            dead.1 pick cs' (Silent, c, lent lending code cs.loans pick.process Silent tt)
        go pick next (effect, moves, leave) (together cs' ss' by stays c s alike) =
            let same : ◌≡◌ {A = Option (Move SourceProcess)} (Some (record { next = ss'; effect = by })) (Some (record { next = next; effect = effect })) = sym s ∙ moves in
            let same' : ◌≡◌ {A = Move SourceProcess} (record { next = ss'; effect = by }) (record { next = next; effect = effect }) = cc in
            let by_is : effect ≡ by = sym (ap (λ m. m.effect) same') in
            let leave' : IsGranted bank cs.loans pick.process by =
            subst (λ e. IsGranted bank cs.loans pick.process e) by_is (subst (λ l. IsGranted bank l pick.process effect) (sym h.loans) leave) in
            dead.1 pick cs' (by, c, lent lending code cs.loans pick.process by leave')

    stuck_code : ((pick : Pick) → is_skipped (generated program.processes) cs pick ≡ false) → IsSourceDeadlock lending program claims ss
        → IsDeadlock lending code cs
    stuck_code none dead = (
      λ over. dead.0 (source_finished program.processes cs ss h over),
      λ pick next leads. go pick next leads (picks_alike program.processes cs ss pick h),
    )
      where
        go : (pick : Pick) (next : Configuration) → CodeLeads lending code cs pick next → PicksAlike program.processes cs ss pick → ⊥
        go pick next (effect, moves, leave) (not_enabled c s) = let w : ◌≡◌ {A = Option (Move CodeProcess)} None (Some (record { next = next; effect = effect })) = sym c ∙ moves in cc
        go pick next (effect, moves, leave) (code_alone cs' skips c alike on) = elim (true≢false (sym skips ∙ none pick)) [ ]
        go pick next (effect, moves, leave) (together cs' ss' by stays c s alike) =
            let same : ◌≡◌ {A = Option (Move CodeProcess)} (Some (record { next = cs'; effect = by })) (Some (record { next = next; effect = effect })) = sym c ∙ moves in
            let same' : ◌≡◌ {A = Move CodeProcess} (record { next = cs'; effect = by }) (record { next = next; effect = effect }) = cc in
            let by_is : effect ≡ by = sym (ap (λ m. m.effect) same') in
            let leave' : IsGranted bank ss.loans pick.process by =
            subst (λ e. IsGranted bank ss.loans pick.process e) by_is
            (subst (λ l. IsGranted bank l pick.process effect) h.loans (granted lending code cs.loans pick.process effect leave)) in
            dead.1 (pick, record { next = ss'; effect = by }, s, leave')

    -- what is there is the same
    stuck_alike : ◌≡◌ {A = Stuck} (record { processes = outcome_of cs; loans = cs.loans }) (record { processes = source_outcome_of ss; loans = ss.loans })
    stuck_alike =
        let processes = same_outcomes program.processes cs.processes ss.processes h.processes in
        let loans = h.loans in
        (λ i. record { processes = processes i; loans = loans i })

  deadlock_of_program : (stuck : Stuck) → IsDeadlockOfCode mode code stuck → IsDeadlockOfProgram lending program claims stuck
  deadlock_of_program stuck (picks, s, (reaches, dead), is) =
      let m = by_source picks s reaches in (
        m.made,
        m.last,
        m.comes,
        stuck_source s.state m.last m.alike (dead_plain mode code s dead),
        is ∙ stuck_alike s.state m.last m.alike,
      )

  deadlock_of_code : (stuck : Stuck) → IsDeadlockOfProgram lending program claims stuck → IsDeadlockOfCode mode code stuck
  deadlock_of_code stuck (picks, ss, comes, dead, is) =
      let f = by_code picks ss comes in
      let up = catches_up bank program.processes ss f.last f.alike in
      let all = comes_on (LeadsTo (IsGranted bank) (code_step (generated program.processes))) code_opens f.last up.last f.made up.picks f.comes up.comes in
      let to = reached (f.made ++ up.picks) up.last all in
      let still : IsDeadlock lending code up.last = stuck_code up.last ss up.alike up.none dead in (
        f.made ++ up.picks,
        to.0,
        (to.1, dead_traced mode code to.0 (subst (IsDeadlock lending code) (sym to.2) still)),
        is ∙ (sym (stuck_alike up.last ss up.alike)
            ∙ ap (λ (c : Configuration). record { processes = outcome_of c; loans = c.loans }) (sym to.2)),
      )

  -- ---- runs that end, and one that does not

  bounded : IsBounded mode code → SourceIsBounded lending program claims
  bounded all = record {
    most = all.most;
    none_longer = λ picks ss comes.
        let f = by_code picks ss comes in
        let to = reached f.made f.last f.comes in
        let few = all.none_longer f.made to.0 to.1 in
        let long = f.long in
        omega (arith, few, long);
  }

  module _ (cs : State CodeProcess) (first : Pick) (others : List Pick)
      (cycle : Comes (LeadsTo (IsGranted bank) (code_step (generated program.processes))) cs (first ∷ others) cs) where
    -- as many turns of the cycle, and at least as many picks of the source
    turns : (n : ℕ) (ss : State SourceProcess) → StatesAlike program.processes cs ss
        → (picks : List Pick) × (last : State SourceProcess) × Comes (SourceLeads lending program claims) ss picks last × (n ≤ length picks)
    turns zero ss h = ([], ss, refl, omega arith)
    turns (suc n) ss h =
        let m = mirrored bank program.processes cs ss (first ∷ others) cs h cycle in
        let some : 0 < length m.made = elim m.counts [
          | inl some ↦ some
          | inr none ↦ absurd (omega (arith, none))
        ] in
        let more = turns n m.last m.alike in
        let size = length-append m.made more.0 in
        let enough = more.3 in (
          m.made ++ more.0,
          more.1,
          comes_on (SourceLeads lending program claims) ss m.last more.1 m.made more.0 m.comes more.2,
          omega (arith, size, some, enough),
        )

  endless : HasEndlessRun mode code → SourceIsEndless lending program claims
  endless (picks, s, reaches, (first, others, comes)) n =
      let m = by_source picks s reaches in
      let cycle = granted_comes lending code s.state s.state (first ∷ others) (plain_comes mode code s s (first ∷ others) comes) in
      let more = turns s.state first others cycle (suc n) m.last m.alike in
      let size = length-append m.made more.0 in
      let enough = more.3 in (
        m.made ++ more.0,
        more.1,
        comes_on (SourceLeads lending program claims) source_opens m.last more.1 m.made more.0 m.comes more.2,
        omega (arith, size, enough),
      )

  pub has_runs : HasRunsOf program mode code
  has_runs = record {
    deadlocks = λ stuck. (deadlock_of_program stuck, deadlock_of_code stuck);
    bounded = bounded;
    endless = endless;
  }
