-- The outcomes of code with their prints are those of its program.
use Rattle.std.proofs.Common.{◌≡◌, ◌↔◌, List, [], ◌∷◌, ◌++◌, append_assoc, append-nil, map, option_to_list, refl, sym, ap, ◌∙◌, subst}
use Rattle.std.specs.Prelude.{Contains, slice_index_or}
use Rattle.std.proofs.lemmas.List.Elements.{All-contains, All-map}
use Rattle.pb_base.specs.declared.event.Event.{Event}
use Rattle.pb_base.specs.declared.pick.Pick.{Pick}
use Rattle.pb_base.specs.Steppers.{Bank, Effect, Silent, Prints, Takes, Returns, Faults, Finishes, Makes, State, Table, event_of, opening}
use Rattle.pb_base.specs.declared.lending.Lending.{Lending}
use Rattle.pb_code.specs.Code.{CodeProcess, code_process, code_step}
use Rattle.pb_code.specs.Whole.{Code, bank_by}
use Rattle.pb_codegen.specs.Correct.{generated}
use Rattle.pb_codegen.proofs.SimulationBack.{followed}
use Rattle.pb_codegen.proofs.SimulationRuns.{opening_alike, shadowed}
use Rattle.pb_generator.specs.Generate.{program_code}
use Rattle.pb_names.specs.Meaning.{source_bank_by}
use Rattle.pb_names.specs.Program.{AllWellNumbered, Program}
use Rattle.pb_names.specs.Source.{SourceProcess, source_process}
use Rattle.pb_search.specs.Outcomes.{AreOutcomes, Found}
use Rattle.pb_search_stages.proofs.EitherLending.{granted}
use Rattle.pb_search_stages.specs.Configurations.{Comes}
use Rattle.pb_search_stages.specs.Traces.{Configuration, Outcome, Trace, TraceLeads, prints_of, trace_opening}
use Rattle.pb_search_stages.specs.declared.print.Print.{Print}
use Rattle.pb_search_engine.specs.Expected.{printing}
use Rattle.pb_search_engine.specs.SourceOutcomes.{IsPrintedByCodeBy, IsPrintedBySource, prints_in}
use Rattle.pb_search_engine.proofs.SourceOutcomeLemmas.{code_finished, lent, same_outcomes, source_finished}

-- the event of an effect prints what the effect does
prints_split : (pick : Pick) (effect : Effect) (later : List Event)
    → prints_in (option_to_list (event_of pick effect) ++ later) ≡ prints_of pick effect ++ prints_in later
prints_split pick Silent later = refl
prints_split pick (Prints v) later = refl
prints_split pick (Takes bundle) later = refl
prints_split pick (Returns bundle) later = refl
prints_split pick (Faults kind) later = refl
prints_split pick Finishes later = refl

module _ (lending : Lending) (code : Code) where
  -- what picks print is what their events print
  prints_on : (s : Trace) (pick : Pick) (effect : Effect) (events later : List Event)
      → events ≡ option_to_list (event_of pick effect) ++ later
      → (s.prints ++ prints_of pick effect) ++ prints_in later ≡ s.prints ++ prints_in events
  prints_on s pick effect events later are =
      append_assoc s.prints (prints_of pick effect) (prints_in later)
      ∙ ap (λ (l : List Print). s.prints ++ l) (sym (ap prints_in are ∙ prints_split pick effect later))

  makes_traced : (s : Trace) (end : Configuration) (picks : List Pick) (events : List Event)
      → Makes (bank_by lending code) (code_step code.processes) s.state picks events end
      → Comes (TraceLeads (printing lending) code) s picks (record { state = end; prints = s.prints ++ prints_in events })
  makes_traced s end [] events h =
      let state = h.1 in
      let prints = ap (λ (es : List Event). s.prints ++ prints_in es) h.0 ∙ append-nil s.prints in
      (λ i. record { state = state i; prints = prints i })
  makes_traced s end (pick ∷ picks) events h =
      let next : Trace = record { state = h.0.next; prints = s.prints ++ prints_of pick h.0.effect } in (
        next,
        (h.0.effect, h.1, lent lending code s.state.loans pick.process h.0.effect h.2, refl),
        subst (λ (ps : List Print). Comes (TraceLeads (printing lending) code) next picks (record { state = end; prints = ps }))
            (prints_on s pick h.0.effect events h.3 h.4) (makes_traced next end picks h.3 h.5),
      )

  traced_makes : (s end : Trace) (picks : List Pick) → Comes (TraceLeads (printing lending) code) s picks end
      → (events : List Event) × Makes (bank_by lending code) (code_step code.processes) s.state picks events end.state
      × (end.prints ≡ s.prints ++ prints_in events)
  traced_makes s end [] h =
      ([], (refl, ap (λ (x : Trace). x.state) h), ap (λ (x : Trace). x.prints) h ∙ sym (append-nil s.prints))
  traced_makes s end (pick ∷ picks) h =
      let next = h.0 in
      let effect = h.1.0 in
      let more = traced_makes next end picks h.2 in
      let events = option_to_list (event_of pick effect) ++ more.0 in (
        events,
        (record { next = next.state; effect = effect }, h.1.1, granted lending code s.state.loans pick.process effect h.1.2, more.0, refl, more.1),
        more.2
            ∙ (ap (λ (ps : List Print). ps ++ prints_in more.0) h.1.3 ∙ prints_on s pick effect events more.0 refl),
      )

module _ (lending : Lending) (program : Program) (claims : Table) (numbered : AllWellNumbered program.processes) (outcome : Outcome) where
  abbrev bank : Bank
  bank = source_bank_by lending program claims

  abbrev code : Code
  code = program_code program claims

  abbrev code_opens : State CodeProcess
  code_opens = opening bank (map code_process (generated program.processes))

  abbrev source_opens : State SourceProcess
  source_opens = opening bank (map source_process program.processes)

  to_program : IsPrintedByCodeBy lending code outcome → IsPrintedBySource lending program claims outcome
  to_program is =
      let end = is.1 in
      let made = traced_makes lending code (trace_opening code) end is.0 is.2.0 in
      let s = shadowed bank program.processes code_opens source_opens is.0 made.0 end.state
      (opening_alike bank program.processes numbered) made.1 in
      let processes = same_outcomes program.processes end.state.processes s.last.processes s.alike.processes in
      let prints = made.2 in
      let same : ◌≡◌ {A = Outcome} _ _ = (λ i. record { processes = processes i; prints = prints i }) in
      (_, made.0, s.last, s.makes, source_finished program.processes end.state s.last s.alike is.2.1, is.3 ∙ same)

  to_code : IsPrintedBySource lending program claims outcome → IsPrintedByCodeBy lending code outcome
  to_code (picks, events, end, makes, over, is) =
      let f = followed bank program.processes code_opens source_opens picks events end
      (opening_alike bank program.processes numbered) makes in
      let processes = same_outcomes program.processes f.last.processes end.processes f.alike.processes in
      let last : Trace = record { state = f.last; prints = prints_in events } in
      let same : ◌≡◌ {A = Outcome} _ _ = ap (λ ps. record { processes = ps; prints = prints_in events }) (sym processes) in (
        f.code_picks,
        last,
        (makes_traced lending code (trace_opening code) f.last f.code_picks events f.makes, code_finished program.processes f.last end f.alike over),
        is ∙ same,
      )

  pub same_printed : IsPrintedByCodeBy lending code outcome ↔ IsPrintedBySource lending program claims outcome
  same_printed = (to_program, to_code)

pub listed_printed : (lending : Lending) (code : Code) (found : List Found) → AreOutcomes (printing lending) code found → (outcome : Outcome)
    → Contains (map (λ f. f.outcome) found) outcome ↔ IsPrintedByCodeBy lending code outcome
listed_printed lending code found are outcome = (
  All-contains (IsPrintedByCodeBy lending code) (map (λ f. f.outcome) found) outcome
      (All-map (IsPrintedByCodeBy lending code) (λ (f : Found). f.outcome) found
      (λ k d within. let e = are.some.each k d within in ((slice_index_or found k d).picks, e.0, e.1, e.2))),
  λ is. subst (Contains (map (λ f. f.outcome) found)) (sym is.3) (are.none_missing is.0 is.1 is.2),
)
