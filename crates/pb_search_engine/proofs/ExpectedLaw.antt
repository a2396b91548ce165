-- What is said of the runs of code is right: they are as expected, or they are not.
use Rattle.std.proofs.Common.{◌≡◌, ◌∙◌, ℕ, suc, Bool, true, false, List, ◌++◌, length-append, Some, sym, subst, arith}
use Rattle.std.specs.Prelude.{slice_get}
use Rattle.std.proofs.lemmas.Option.{get_or_from_slice_get, slice_get_within}
use Rattle.pb_base.specs.declared.lending.Lending.{Lending}
use Rattle.pb_code.specs.Whole.{Code}
use Rattle.pb_command_io.specs.declared.status.Status.{Status}
use Rattle.pb_command_io.specs.declared.status.Status.TheVariants.{Done, Limit, Memory, Unexpected}
use Rattle.pb_search.specs.Deadlocks.{AreSomeDeadlocks, FoundDeadlock, IsFoundAt}
use Rattle.pb_search.specs.Outcomes.{AreSomeOutcomes, Found, HasEndlessRun, IsBounded}
use Rattle.pb_search.proofs.ToldLists.{some_of}
use Rattle.pb_search.specs.declared.found.Until.TheVariants.{FirstDeadlock}
use Rattle.pb_search_fair.specs.declared.runs.FairRuns.TheVariants.{AllEnd, SomeDoNotEnd, TooMany}
use Rattle.pb_search_stages.proofs.ClosedSets.{comes_on, round}
use Rattle.pb_search_stages.specs.Traces.{Outcome, Trace, TraceEnds, TraceLeads, trace_opening, trace_outcome}
use Rattle.pb_search_stages.specs.declared.print.Print.{Print}
use Rattle.pb_search_engine.specs.Expected.{EndsAsExpected, IsAsExpected, IsFirstOther, IsWanted, printing}
use Rattle.pb_search_engine.specs.ExpectedLaws.{AnswersAreRight, IsAsExpectedBy}
use Rattle.pb_search_engine.specs.Items.{Item}
use Rattle.pb_search_engine.specs.Requirements.{AreMet, IsMet}
use Rattle.pb_search_engine.specs.SaysExpected.{SaysOfEndless, SaysOfRuns, as_expected, deadlock, endless, long, many, met, outcome, unmet}
use Rattle.pb_search_engine.specs.SaysOfTexts.{found as are_found, no_memory}
use Rattle.pb_search_engine.specs.declared.requirements.Requirement.{Requirement}
use Rattle.pb_search_engine.proofs.FairLemmas.{bounded_ends}
use Rattle.pb_search_engine.proofs.OutcomeLemmas.{each_at}

module _ (lending : Lending) (any_order : Bool) (wanted : List Print) (code : Code) (all : EndsAsExpected lending any_order wanted code) where
  -- no outcome is another than is wanted
  no_other : (found : List Found) → AreSomeOutcomes (printing lending) code found → (at : ℕ) → IsFirstOther any_order wanted found at
      → (f : Found) → slice_get found at ≡ Some f → ⊥
  no_other found some at first f there =
      let within = slice_get_within found at f there in
      let one = subst (λ (g : Found). (end : Trace) × TraceEnds (printing lending) code g.picks end × (g.outcome ≡ trace_outcome end))
      (get_or_from_slice_get found at f f there) (some.each at f within) in
      first.other f there (subst (λ (o : Outcome). IsWanted any_order wanted o) (sym one.2) (all.ends f.picks one.0 one.1))

  -- there is no deadlock
  none_stuck : (deadlocks : List FoundDeadlock) → AreSomeDeadlocks (printing lending) code deadlocks → (d : FoundDeadlock)
      → slice_get deadlocks 0 ≡ Some d → ⊥
  none_stuck deadlocks some d there =
      let within = slice_get_within deadlocks 0 d there in
      let one = subst (λ (g : FoundDeadlock). (s : Trace) × IsFoundAt (printing lending) code g s)
      (get_or_from_slice_get deadlocks 0 d d there)
      (each_at (printing lending) code deadlocks some.stuck some.each 0 d within) in
      all.no_deadlock d.picks one.0 one.1.0

-- where there is a number of picks that no run exceeds, no run is endless
none_endless : (lending : Lending) (code : Code) → IsBounded (printing lending) code → HasEndlessRun (printing lending) code → ⊥
none_endless lending code bounded (picks, s, reaches, cycle) =
    let most = bounded.most in
    let more = round (TraceLeads (printing lending) code) s cycle (suc most) in
    let whole = comes_on (TraceLeads (printing lending) code) (trace_opening code) s s picks more.0 reaches more.2 in
    let few = bounded.none_longer (picks ++ more.0) s whole in
    let size = length-append picks more.0 in
    let turns = more.1 in
    omega (arith, few, size, turns)

-- each run that ends is as expected, whichever runs count
pub ends_too : (fair : Bool) (lending : Lending) (any_order : Bool) (wanted : List Print) (code : Code) → IsAsExpectedBy fair lending any_order wanted code
    → EndsAsExpected lending any_order wanted code
ends_too false lending any_order wanted code all = record { ends = all.ends; no_deadlock = all.no_deadlock }
ends_too true lending any_order wanted code all = all.0

-- all runs are as expected, so those that count are
each_too : (fair : Bool) (lending : Lending) (any_order : Bool) (wanted : List Print) (code : Code) → IsAsExpected lending any_order wanted code
    → IsAsExpectedBy fair lending any_order wanted code
each_too false lending any_order wanted code all = all
each_too true lending any_order wanted code all =
    (record { ends = all.ends; no_deadlock = all.no_deadlock }, bounded_ends (printing lending) code all.all_end)

-- what is found of code with an endless run is right
endless_right : (fair : Bool) (lending : Lending) (any_order : Bool) (wanted : List Print) (code : Code) (states : ℕ) (items : List Item) (status : Status)
    → EndsAsExpected lending any_order wanted code → HasEndlessRun (printing lending) code → SaysOfEndless fair lending code states items status
    → (status ≡ Done → IsAsExpectedBy fair lending any_order wanted code)
    × (status ≡ Unexpected → ¬ IsAsExpectedBy fair lending any_order wanted code)
endless_right false lending any_order wanted code states items status ends run says =
    (λ done. absurd (let e : Unexpected ≡ Done = sym says.1 ∙ done in cc), λ other all. none_endless lending code all.all_end run)
endless_right true lending any_order wanted code states items status ends run (AllEnd, tells, _, is) =
    (λ done. (ends, tells), λ other. absurd (let e : Done ≡ Unexpected = sym is ∙ other in cc))
endless_right true lending any_order wanted code states items status ends run (SomeDoNotEnd, tells, _, is) =
    (λ done. absurd (let e : Unexpected ≡ Done = sym is ∙ done in cc), λ other all. all.1 tells)
endless_right true lending any_order wanted code states items status ends run (TooMany, tells, _, is) =
    (λ done. absurd (let e : Limit ≡ Done = sym is ∙ done in cc), λ other. absurd (let e : Limit ≡ Unexpected = sym is ∙ other in cc))

-- each requirement is met, so this one is
pub required : (code : Code) (requirements : List Requirement) → AreMet code requirements → (at : ℕ) (r : Requirement) → slice_get requirements at ≡ Some r
    → IsMet code r
required code requirements all at r there =
    subst (IsMet code) (get_or_from_slice_get requirements at r r there) (all at r (slice_get_within requirements at r there))

-- what is found of the runs of code is right
pub runs_are_right : (fair : Bool) (lending : Lending) (any_order : Bool) (wanted : List Print) (code : Code) (states : ℕ)
    (items : List Item) (status : Status) → SaysOfRuns fair lending any_order wanted code states items status
    → (status ≡ Done → IsAsExpectedBy fair lending any_order wanted code)
    × (status ≡ Unexpected → ¬ IsAsExpectedBy fair lending any_order wanted code)
runs_are_right fair lending any_order wanted code states _ _ (as_expected all) =
    (λ done. each_too fair lending any_order wanted code all, λ other. absurd (let e : Done ≡ Unexpected = other in cc))
runs_are_right fair lending any_order wanted code states _ _ (outcome found deadlocks extent told at first f there picks counted what is) = (
  λ done. absurd (let e : Unexpected ≡ Done = done in cc),
  λ other all. no_other lending any_order wanted code (ends_too fair lending any_order wanted code all) found (some_of (printing lending) code FirstDeadlock states found deadlocks extent told).0 at first f there,
)
runs_are_right fair lending any_order wanted code states _ _ (deadlock found deadlocks extent told each d there picks counted) = (
  λ done. absurd (let e : Unexpected ≡ Done = done in cc),
  λ other all. none_stuck lending any_order wanted code (ends_too fair lending any_order wanted code all) deadlocks (some_of (printing lending) code FirstDeadlock states found deadlocks extent told).1 d there,
)
runs_are_right fair lending any_order wanted code states _ _ (endless ends run items status says) =
    endless_right fair lending any_order wanted code states items status ends run says
runs_are_right fair lending any_order wanted code states _ _ (many found told each) =
    (λ done. absurd (let e : Limit ≡ Done = done in cc), λ other. absurd (let e : Limit ≡ Unexpected = other in cc))
runs_are_right fair lending any_order wanted code states _ _ (long found told each) =
    (λ done. absurd (let e : Limit ≡ Done = done in cc), λ other. absurd (let e : Limit ≡ Unexpected = other in cc))

pub answers_are_right : AnswersAreRight
answers_are_right fair lending any_order requirements wanted code labels states _ _ (unmet r first) = (
  λ done. absurd (let e : Unexpected ≡ Done = done in cc),
  λ other all. first.unmet (required code requirements all.0 first.at r first.there),
)
answers_are_right fair lending any_order requirements wanted code labels states _ _ (met all _ _ (are_found items status says)) =
    let right = runs_are_right fair lending any_order wanted code states items status says in
    (λ done. (all, right.0 done), λ other whole. right.1 other whole.1)
answers_are_right fair lending any_order requirements wanted code labels states _ _ (met all _ _ no_memory) =
    (λ done. absurd (let e : Memory ≡ Done = done in cc), λ other. absurd (let e : Memory ≡ Unexpected = other in cc))
