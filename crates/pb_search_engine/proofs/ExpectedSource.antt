-- What is said of the runs of the code of a text is right of its program.
use Rattle.std.proofs.Common.{◌≡◌, ◌↔◌, ◌⊎◌, inl, inr, ℕ, Bool, true, false, List, Some, refl, sym, subst}
use Rattle.std.specs.Prelude.{slice_get}
use Rattle.std.proofs.lemmas.Option.{get_or_from_slice_get, slice_get_within}
use Rattle.pb_base.specs.declared.lending.Lending.{Lending}
use Rattle.pb_code.specs.Whole.{Code, ProcessLabels}
use Rattle.pb_codegen.proofs.VerifiedProcesses.{well_numbered}
use Rattle.pb_command_io.specs.declared.status.Status.{Status}
use Rattle.pb_command_io.specs.declared.status.Status.TheVariants.{Done, Limit, Memory, Unexpected}
use Rattle.pb_generator.specs.Generate.{program_code}
use Rattle.pb_names.specs.Program.{Program}
use Rattle.pb_names.specs.Resolves.{resource_names}
use Rattle.pb_search.specs.Deadlocks.{AreSomeDeadlocks, FoundDeadlock, IsFoundAt}
use Rattle.pb_search.specs.Outcomes.{AreSomeOutcomes, Found}
use Rattle.pb_search.proofs.ToldLists.{some_of}
use Rattle.pb_search.specs.declared.found.Until.TheVariants.{FirstDeadlock}
use Rattle.pb_search_stages.specs.Reaching.{outcome_of}
use Rattle.pb_search_stages.specs.Traces.{Outcome, Trace, TraceEnds, trace_outcome}
use Rattle.pb_search_stages.specs.declared.print.Print.{Print}
use Rattle.pb_search_engine.specs.Expected.{IsWanted, printing}
use Rattle.pb_search_engine.specs.ExpectedLaws.{AnswersAreRightOfPrograms, DoesAsExpected, EndsOtherwise, HasDeadlock, IsAsExpectedBy, SourceEnds}
use Rattle.pb_search_engine.specs.Items.{Item}
use Rattle.pb_search_engine.specs.Requirements.{AreMet}
use Rattle.pb_search_engine.specs.SaysExpected.{SaysOfAsked, SaysOfRuns, as_expected, deadlock, endless, long, many, met, outcome, unmet}
use Rattle.pb_search_engine.specs.declared.requirements.Requirement.{Requirement}
use Rattle.pb_search_engine.specs.SaysOfTexts.{found as are_found, no_memory}
use Rattle.pb_search_engine.specs.Sayings.{Saying}
use Rattle.pb_search_engine.specs.SourceFair.{FairRunsEnd}
use Rattle.pb_search_engine.specs.SourceOutcomes.{IsPrintedByCodeBy, IsPrintedBySource}
use Rattle.pb_search_engine.specs.SourceRequirements.{AreMetBy}
use Rattle.pb_search_engine.specs.SourceRuns.{HasRunsOf, IsDeadlockOfCode, SourceIsEndless, Stuck}
use Rattle.pb_search_engine.proofs.ExpectedLaw.{ends_too, required, runs_are_right}
use Rattle.pb_search_engine.proofs.OutcomeLemmas.{each_at}
use Rattle.pb_search_engine.proofs.PrintedOutcomes.{same_printed}
use Rattle.pb_search_engine.proofs.SourceLaw.{fair_end}
use Rattle.pb_search_engine.proofs.SourceRequirementLemmas.{all_met_back, all_met_too}
use Rattle.pb_search_engine.proofs.SourceRunLemmas.{has_runs}

-- an outcome that is found is one of the code
found_by_code : (lending : Lending) (code : Code) (found : List Found) → AreSomeOutcomes (printing lending) code found → (at : ℕ) (f : Found)
    → slice_get found at ≡ Some f → IsPrintedByCodeBy lending code f.outcome
found_by_code lending code found some at f there =
    let one = subst (λ (g : Found). (end : Trace) × TraceEnds (printing lending) code g.picks end × (g.outcome ≡ trace_outcome end))
    (get_or_from_slice_get found at f f there) (some.each at f (slice_get_within found at f there)) in
    (f.picks, one.0, one.1, one.2)

-- a deadlock that is found is one of the code
found_stuck : (lending : Lending) (code : Code) (deadlocks : List FoundDeadlock) → AreSomeDeadlocks (printing lending) code deadlocks
    → (d : FoundDeadlock) → slice_get deadlocks 0 ≡ Some d → (stuck : Stuck) × IsDeadlockOfCode (printing lending) code stuck
found_stuck lending code deadlocks some d there =
    let one = subst (λ (g : FoundDeadlock). (s : Trace) × IsFoundAt (printing lending) code g s) (get_or_from_slice_get deadlocks 0 d d there)
    (each_at (printing lending) code deadlocks some.stuck some.each 0 d (slice_get_within deadlocks 0 d there)) in
    (record { processes = outcome_of one.0.state; loans = one.0.state.loans }, (d.picks, one.0, one.1.0, refl))

-- each run of the source that counts ends
source_ends : (fair : Bool) (lending : Lending) (any_order : Bool) (wanted : List Print) (program : Program) (code : Code)
    → HasRunsOf program (printing lending) code → FairRunsEnd program lending code → IsAsExpectedBy fair lending any_order wanted code
    → SourceEnds fair lending program code
source_ends false lending any_order wanted program code runs ends all = runs.bounded all.all_end
source_ends true lending any_order wanted program code runs ends all = λ run. all.1 (ends.kept run)

module _ (fair : Bool) (lending : Lending) (any_order : Bool) (wanted : List Print) (program : Program) (code : Code) (labels : List ProcessLabels)
    (states : ℕ)
    (same : (outcome : Outcome) → IsPrintedByCodeBy lending code outcome ↔ IsPrintedBySource lending program code.claims outcome)
    (runs : HasRunsOf program (printing lending) code) (fair_ends : FairRunsEnd program lending code) where
  all_as_expected : (items : List Item) (status : Status) → SaysOfRuns fair lending any_order wanted code states items status → status ≡ Done
      → DoesAsExpected fair lending any_order wanted program code
  all_as_expected items status says done =
      let right = (runs_are_right fair lending any_order wanted code states items status says).0 done in
      let each = ends_too fair lending any_order wanted code right in
      record {
        ends = λ o printed.
            let by = (same o).1 printed in
            subst (λ (x : Outcome). IsWanted any_order wanted x) (sym by.3) (each.ends by.0 by.1 by.2);
        no_deadlock = λ dead. let by = (runs.deadlocks dead.0).1 dead.1 in each.no_deadlock by.0 by.1 by.2;
        all_end = source_ends fair lending any_order wanted program code runs fair_ends right;
      }

  not_all : (items : List Item) (status : Status) → SaysOfRuns fair lending any_order wanted code states items status → status ≡ Unexpected
      → EndsOtherwise lending any_order wanted program code ⊎ HasDeadlock lending program code ⊎ SourceIsEndless lending program code.claims
  not_all _ _ (as_expected all) is = absurd (let e : Done ≡ Unexpected = is in cc)
  not_all _ _ (outcome found deadlocks extent told at first f there picks counted what said) is =
      let some = (some_of (printing lending) code FirstDeadlock states found deadlocks extent told).0 in
      inl (f.outcome, (same f.outcome).0 (found_by_code lending code found some at f there), first.other f there)
  not_all _ _ (deadlock found deadlocks extent told each d there picks counted) is =
      let some = (some_of (printing lending) code FirstDeadlock states found deadlocks extent told).1 in
      let dead = found_stuck lending code deadlocks some d there in
      inr (inl (dead.0, (runs.deadlocks dead.0).0 dead.1))
  not_all _ _ (endless ends run said given says) is = inr (inr (runs.endless run))
  not_all _ _ (many found told each) is = absurd (let e : Limit ≡ Unexpected = is in cc)
  not_all _ _ (long found told each) is = absurd (let e : Limit ≡ Unexpected = is in cc)

  -- with what is required beside
  module _ (requirements : List Requirement) (generated : code ≡ program_code program code.claims) where
    met_by : AreMet code requirements → AreMetBy program code.claims requirements
    met_by all =
        all_met_too program code.claims requirements (subst (λ (c : Code). AreMet c requirements) generated all)

    met_in : AreMetBy program code.claims requirements → AreMet code requirements
    met_in all =
        subst (λ (c : Code). AreMet c requirements) (sym generated) (all_met_back program code.claims requirements all)

    asked_done : (said : List Saying) (status : Status)
        → SaysOfAsked fair lending any_order requirements wanted code labels states said status → status ≡ Done
        → AreMetBy program code.claims requirements × DoesAsExpected fair lending any_order wanted program code
    asked_done _ _ (unmet r first) is = absurd (let e : Unexpected ≡ Done = is in cc)
    asked_done _ _ (met all _ _ (are_found items status says)) is = (met_by all, all_as_expected items status says is)
    asked_done _ _ (met all _ _ no_memory) is = absurd (let e : Memory ≡ Done = is in cc)

    asked_unexpected : (said : List Saying) (status : Status)
        → SaysOfAsked fair lending any_order requirements wanted code labels states said status → status ≡ Unexpected
        → (¬ AreMetBy program code.claims requirements) ⊎ EndsOtherwise lending any_order wanted program code
        ⊎ HasDeadlock lending program code ⊎ SourceIsEndless lending program code.claims
    asked_unexpected _ _ (unmet r first) is =
        inl (λ all. first.unmet (required code requirements (met_in all) first.at r first.there))
    asked_unexpected _ _ (met all _ _ (are_found items status says)) is = inr (not_all items status says is)
    asked_unexpected _ _ (met all _ _ no_memory) is = absurd (let e : Memory ≡ Unexpected = is in cc)

pub right_of_programs : AnswersAreRightOfPrograms
right_of_programs text code labels is =
    let program = is.program in
    let arms = well_numbered (resource_names program) is.numbered.tree.processes program.processes is.numbered.numbered.processes in (
      program,
      is.numbered,
      λ fair lending any_order requirements wanted states said status says.
          let same : (o : Outcome) → IsPrintedByCodeBy lending code o ↔ IsPrintedBySource lending program code.claims o =
          λ o. subst (λ c. IsPrintedByCodeBy lending c o ↔ IsPrintedBySource lending program code.claims o) (sym is.generated)
          (same_printed lending program code.claims arms o) in
          let runs : HasRunsOf program (printing lending) code =
          subst (HasRunsOf program (printing lending)) (sym is.generated) (has_runs (printing lending) program code.claims arms) in
          let fair_ends : FairRunsEnd program lending code =
          subst (FairRunsEnd program lending) (sym is.generated) (fair_end lending program code.claims arms) in
          record {
            done = asked_done fair lending any_order wanted program code labels states same runs fair_ends requirements is.generated said status says;
            unexpected = asked_unexpected fair lending any_order wanted program code labels states same runs fair_ends requirements is.generated said status says;
          },
    )
