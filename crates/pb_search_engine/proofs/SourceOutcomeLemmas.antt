-- The outcomes of code are those of its program.
use Rattle.std.proofs.Common.{◌≡◌, ◌↔◌, ◌⊎◌, inl, inr, ℤ, Bool, true, false, List, [], ◌∷◌, map, Option, Some}
use Rattle.std.proofs.Common.{None, option_map, refl, sym, ap, ◌∙◌, subst, ℕ}
use Rattle.std.proofs.lemmas.Option.{get_or_from_slice_get, slice_get-map, slice_get_within}
use Rattle.std.specs.Prelude.{slice_get}
use Rattle.pb_base.proofs.Lists.{get_mapped}
use Rattle.pb_search.proofs.OutcomeLists.{index_of}
use Rattle.pb_search_stages.proofs.Traces.{plain_comes, quiet_comes}
use Rattle.pb_search_stages.specs.Traces.{Outcome, Trace, trace_opening, trace_outcome}
use Rattle.pb_search_engine.specs.SourceOutcomes.{without_prints}
use Rattle.std.specs.Prelude.{Contains, is_none, slice_index_or}
use Rattle.std.proofs.lemmas.List.Elements.{All-contains, All-map}
use Rattle.pb_base.specs.declared.lending.Lending.{Lending}
use Rattle.pb_base.specs.declared.lending.Lending.TheVariants.{ByBanker, ByCash}
use Rattle.pb_base.specs.declared.pick.Pick.{Pick}
use Rattle.pb_base.specs.Steppers.{Bank, Effect, Silent, Prints, Takes, Returns, Faults, Finishes, IsGranted, State, Table, IsFinished, opening}
use Rattle.pb_names.specs.Program.{AllWellNumbered, Process, Program}
use Rattle.pb_names.specs.Source.{Arm, Doing, Ended, SourceProcess, Waiting, source_over, source_process, source_step}
use Rattle.pb_code.specs.Code.{Thread, CodeProcess, Live, code_over, code_process, code_step, thread}
use Rattle.pb_code.specs.Whole.{Code, bank_by, bank_of}
use Rattle.pb_codegen.specs.Correct.{generated}
use Rattle.pb_generator.specs.Generate.{program_code}
use Rattle.pb_names.specs.Meaning.{source_bank_by}
use Rattle.pb_codegen.proofs.SimulationBack.{followed}
use Rattle.pb_codegen.proofs.SimulationPlaces.{listing_of}
use Rattle.pb_codegen.proofs.SimulationProcesses.{Alike, RunAlike}
use Rattle.pb_codegen.proofs.SimulationRuns.{AllAlike, AtProcess, StatesAlike, absent, at_process, opening_alike}
use Rattle.pb_codegen.proofs.SimulationRuns.{present, shadowed}
use Rattle.pb_codegen.proofs.SimulationListings.{Listing}
use Rattle.pb_search_stages.specs.Configurations.{Comes}
use Rattle.pb_search_stages.specs.Reaching.{CodeLeads, Configuration, IsLent, ProcessOutcome, process_outcome}
use Rattle.pb_search_stages.specs.Reduction.{LeadsTo}
use Rattle.pb_search.specs.Outcomes.{AreOutcomes, Found}
use Rattle.pb_search_engine.specs.SourceOutcomes.{IsOutcomeOfCode, IsOutcomeOfProgram}
use Rattle.pb_search_engine.specs.SourceOutcomes.{source_outcome}
use Rattle.pb_search_stages.proofs.EitherLending.{granted}
use Rattle.pb_search_stages.proofs.ReachedByBanker.{come, make}

-- ---- states that are alike: the same outcome, and both are endings or neither is

module _ (listing : Listing) (cp : CodeProcess) (sp : SourceProcess) where
  run_faulted : (run : Option Arm) → RunAlike listing cp.threads cp.faulted run → cp.faulted ≡ is_none run
  run_faulted None h = h.0
  run_faulted (Some arm) h = h.0

  same_process : Alike listing cp sp → process_outcome cp ≡ source_outcome sp
  same_process h =
      let integers = h.vars in
      let faulted = run_faulted sp.run h.run in
      ap (λ (v : List ℤ). record { integers = v; faulted = cp.faulted }) integers
      ∙ ap (λ (f : Bool). record { integers = sp.vars; faulted = f }) faulted

  over_as : (run : Option Arm) → RunAlike listing cp.threads cp.faulted run
      → (cp.faulted ≡ true) ⊎ (thread cp.threads 0 ≡ Thread.Ended) ↔ (run ≡ None) ⊎ (run ≡ Some Ended)
  over_as None h = (λ o. inl refl, λ o. inl h.0)
  over_as (Some (Doing items)) h = (
    elim [
      | inl f ↦ (let w : false ≡ true = sym h.0 ∙ f in cc)
      | inr t ↦ (let w : Thread.Ended ≡ Live h.2.0 h.2.1 = sym t ∙ h.2.2 in cc)
    ],
    elim [ inl n ↦ cc | inr n ↦ cc ],
  )
  over_as (Some (Waiting line first arms rest)) h = (
    elim [
      | inl f ↦ (let w : false ≡ true = sym h.0 ∙ f in cc)
      | inr t ↦ (let w : Thread.Ended ≡ Live h.2.0 [] = sym t ∙ h.2.1 in cc)
    ],
    elim [ inl n ↦ cc | inr n ↦ cc ],
  )
  over_as (Some Ended) h = (λ o. inr refl, λ o. inr h.2.0)

pub same_outcomes : (program : List Process) (cps : List CodeProcess) (sps : List SourceProcess)
    → AllAlike program cps sps → map process_outcome cps ≡ map source_outcome sps
same_outcomes [] [] [] h = refl
same_outcomes (process ∷ program) (cp ∷ cps) (sp ∷ sps) h =
    ap (λ (o : ProcessOutcome). o ∷ map process_outcome cps) (same_process (listing_of process) cp sp h.0)
    ∙ ap (λ (os : List ProcessOutcome). source_outcome sp ∷ os) (same_outcomes program cps sps h.1)
same_outcomes [] [] (sp ∷ sps) h = elim h [ ]
same_outcomes [] (cp ∷ cps) [] h = elim h [ ]
same_outcomes [] (cp ∷ cps) (sp ∷ sps) h = elim h [ ]
same_outcomes (process ∷ program) [] [] h = elim h [ ]
same_outcomes (process ∷ program) [] (sp ∷ sps) h = elim h [ ]
same_outcomes (process ∷ program) (cp ∷ cps) [] h = elim h [ ]

module _ (program : List Process) (cs : State CodeProcess) (ss : State SourceProcess) (h : StatesAlike program cs ss) where
  pub source_finished : IsFinished code_over cs → IsFinished source_over ss
  source_finished f p sp in_source = go (at_process program cs.processes ss.processes h.processes p)
    where
      go : AtProcess program cs.processes ss.processes p → source_over sp
      go (absent c s) = let w : None ≡ Some sp = sym s ∙ in_source in cc
      go (present process cp sp' in_program at c s alike change keep) =
          let e : Some sp' ≡ Some sp = sym s ∙ in_source in
          let e' : sp' ≡ sp = cc in
          subst source_over e' ((over_as (listing_of process) cp sp' sp'.run alike.run).0 (f p cp c))

  pub code_finished : IsFinished source_over ss → IsFinished code_over cs
  code_finished f p cp in_code = go (at_process program cs.processes ss.processes h.processes p)
    where
      go : AtProcess program cs.processes ss.processes p → code_over cp
      go (absent c s) = let w : None ≡ Some cp = sym c ∙ in_code in cc
      go (present process cp' sp in_program at c s alike change keep) =
          let e : Some cp' ≡ Some cp = sym c ∙ in_code in
          let e' : cp' ≡ cp = cc in
          subst code_over e' ((over_as (listing_of process) cp' sp sp.run alike.run).1 (f p sp s))

-- ---- picks of code, whoever lends

-- leave is the same in both words
pub lent : (lending : Lending) (code : Code) (loans : Table) (p : ℕ) (effect : Effect) → IsGranted (bank_by lending code) loans p effect
    → IsLent lending (bank_of code) loans p effect
lent ByBanker code loans p effect leave = leave
lent ByCash code loans p Silent leave = tt
lent ByCash code loans p (Prints v) leave = tt
lent ByCash code loans p (Takes bundle) leave = leave
lent ByCash code loans p (Returns bundle) leave = tt
lent ByCash code loans p (Faults kind) leave = tt
lent ByCash code loans p Finishes leave = tt

module _ (lending : Lending) (code : Code) where
  pub granted_comes : (s end : Configuration) (picks : List Pick) → Comes (CodeLeads lending code) s picks end
      → Comes (LeadsTo (IsGranted (bank_by lending code)) (code_step code.processes)) s picks end
  granted_comes s end [] h = h
  granted_comes s end (pick ∷ picks) h =
      (h.0, (h.1.0, h.1.1, granted lending code s.loans pick.process h.1.0 h.1.2), granted_comes h.0 end picks h.2)

  pub lent_comes : (s end : Configuration) (picks : List Pick)
      → Comes (LeadsTo (IsGranted (bank_by lending code)) (code_step code.processes)) s picks end
      → Comes (CodeLeads lending code) s picks end
  lent_comes s end [] h = h
  lent_comes s end (pick ∷ picks) h =
      (h.0, (h.1.0, h.1.1, lent lending code s.loans pick.process h.1.0 h.1.2), lent_comes h.0 end picks h.2)

-- ---- the outcomes of a program's code

module _ (lending : Lending) (program : Program) (claims : Table) (numbered : AllWellNumbered program.processes)
    (outcome : List ProcessOutcome) where
  abbrev bank : Bank
  bank = source_bank_by lending program claims

  abbrev code : Code
  code = program_code program claims

  abbrev code_opens : State CodeProcess
  code_opens = opening bank (map code_process (generated program.processes))

  abbrev source_opens : State SourceProcess
  source_opens = opening bank (map source_process program.processes)

  to_program : IsOutcomeOfCode lending code outcome → IsOutcomeOfProgram lending program claims outcome
  to_program is =
      let end = is.1 in
      let made = make bank (code_step (generated program.processes)) code_opens end is.0 (granted_comes lending code code_opens end is.0 is.2.0) in
      let s = shadowed bank program.processes code_opens source_opens is.0 made.0 end
      (opening_alike bank program.processes numbered) made.1 in (
        _,
        s.last,
        (come bank source_step source_opens s.last _ made.0 s.makes, source_finished program.processes end s.last s.alike is.2.1),
        is.3 ∙ same_outcomes program.processes end.processes s.last.processes s.alike.processes,
      )

  to_code : IsOutcomeOfProgram lending program claims outcome → IsOutcomeOfCode lending code outcome
  to_code is =
      let end = is.1 in
      let made = make bank source_step source_opens end is.0 is.2.0 in
      let f = followed bank program.processes code_opens source_opens is.0 made.0 end
      (opening_alike bank program.processes numbered) made.1 in (
        f.code_picks,
        f.last,
        (
          lent_comes lending code code_opens f.last f.code_picks
              (come bank (code_step (generated program.processes)) code_opens f.last f.code_picks made.0 f.makes),
          code_finished program.processes f.last end f.alike is.2.1,
        ),
        is.3 ∙ sym (same_outcomes program.processes f.last.processes end.processes f.alike.processes),
      )

  pub same_outcome : IsOutcomeOfCode lending code outcome ↔ IsOutcomeOfProgram lending program claims outcome
  same_outcome = (to_program, to_code)

-- ---- a list of outcomes

-- what a list has is seen of it
contains_mapped : {A B C : Type 0} (f : A → B) (g : B → C) (xs : List A) (y : B) → Contains (map f xs) y
    → Contains (map (λ x. g (f x)) xs) (g y)
contains_mapped f g xs y c =
    let at = index_of (map f xs) y c in
    let found = get_mapped f xs at.0 y at.1 in
    let there : slice_get (map (λ x. g (f x)) xs) at.0 ≡ Some (g y) =
    slice_get-map (λ x. g (f x)) xs at.0 ∙ (ap (option_map (λ x. g (f x))) found.1 ∙ ap (λ z. Some (g z)) found.2) in (
      at.0,
      slice_get_within (map (λ x. g (f x)) xs) at.0 (g y) there,
      get_or_from_slice_get (map (λ x. g (f x)) xs) at.0 (g y) (g y) there,
    )

pub listed_is : (lending : Lending) (code : Code) (found : List Found) → AreOutcomes (without_prints lending) code found → (outcome : List ProcessOutcome)
    → Contains (map (λ f. f.outcome.processes) found) outcome ↔ IsOutcomeOfCode lending code outcome
listed_is lending code found are outcome = (
  All-contains (IsOutcomeOfCode lending code) (map (λ f. f.outcome.processes) found) outcome
      (All-map (IsOutcomeOfCode lending code) (λ (f : Found). f.outcome.processes) found
      (λ k d within.
      let e = are.some.each k d within in (
        (slice_index_or found k d).picks,
        e.0.state,
        (plain_comes (without_prints lending) code (trace_opening code) e.0 (slice_index_or found k d).picks e.1.0, e.1.1),
        ap (λ (o : Outcome). o.processes) e.2,
      ))),
  λ is.
      let end : Trace = record { state = is.1; prints = [] } in
      let comes = quiet_comes (without_prints lending) code refl (trace_opening code) is.1 is.0 is.2.0 in
      let there : Contains (map (λ f. f.outcome) found) (trace_outcome end) = are.none_missing is.0 end (comes, is.2.1) in
      subst (Contains (map (λ f. f.outcome.processes) found)) (sym is.3)
      (contains_mapped (λ (f : Found). f.outcome) (λ (o : Outcome). o.processes) found (trace_outcome end) there),
)
