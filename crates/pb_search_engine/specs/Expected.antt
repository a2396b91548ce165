-- What is expected of the runs of a program, and what it means that all of them are so.
use Rattle.std.specs.Prelude.{◌≡◌, ◌<◌, ℕ, Bool, true, false, List, All, Some, length, slice_get, take}
use Rattle.std.specs.List.Sorted.{IsPermutation}
use Rattle.pb_base.specs.declared.lending.Lending.{Lending}
use Rattle.pb_base.specs.declared.pick.Pick.{Pick}
use Rattle.pb_code.specs.Whole.{Code}
use Rattle.pb_search.specs.Outcomes.{Found, IsBounded}
use Rattle.pb_search_stages.specs.Reaching.{ProcessOutcome}
use Rattle.pb_search_stages.specs.Traces.{Outcome, Trace, TraceDeadlocks, TraceEnds, trace_outcome}
use Rattle.pb_search_stages.specs.declared.print.Mode.{Mode}
use Rattle.pb_search_stages.specs.declared.print.Print.{Print}

-- under this lending, with prints
abbrev pub printing : Lending → Mode
printing lending = record { lending = lending; prints = true }

-- the prints are those that are wanted: in their order; or in any order, each as often
abbrev pub ArePrints : (any_order : Bool) → (wanted prints : List Print) → Type 0
ArePrints false wanted prints = prints ≡ wanted
ArePrints true wanted prints = IsPermutation wanted prints

-- no process has faulted
abbrev pub HasNoFault : List ProcessOutcome → Type 0
HasNoFault processes = All (λ p. p.faulted ≡ false) processes

-- no process has faulted, and what was printed is what is wanted
abbrev pub IsWanted : (any_order : Bool) → (wanted : List Print) → Outcome → Type 0
IsWanted any_order wanted outcome = HasNoFault outcome.processes × ArePrints any_order wanted outcome.prints

-- each run of the code that ends is as expected: it has printed what is wanted, without a fault; and none comes to a
-- deadlock
pub record EndsAsExpected (lending : Lending) (any_order : Bool) (wanted : List Print) (code : Code) : Type 0 where
  pub ends : (picks : List Pick) (end : Trace) → TraceEnds (printing lending) code picks end
      → IsWanted any_order wanted (trace_outcome end)
  pub no_deadlock : (picks : List Pick) (s : Trace) → ¬ TraceDeadlocks (printing lending) code picks s

-- all runs of the code are as expected: each that ends has printed what is wanted, without a fault; none comes to
-- a deadlock; and each ends
pub record IsAsExpected (lending : Lending) (any_order : Bool) (wanted : List Print) (code : Code) : Type 0 where
  pub ends : (picks : List Pick) (end : Trace) → TraceEnds (printing lending) code picks end
      → IsWanted any_order wanted (trace_outcome end)
  pub no_deadlock : (picks : List Pick) (s : Trace) → ¬ TraceDeadlocks (printing lending) code picks s
  pub all_end : IsBounded (printing lending) code

-- each outcome of a list is wanted
abbrev pub AreWanted : (any_order : Bool) → (wanted : List Print) → List Found → Type 0
AreWanted any_order wanted found = All (λ f. IsWanted any_order wanted f.outcome) found

-- the outcome at this place is the first that is not wanted
pub record IsFirstOther (any_order : Bool) (wanted : List Print) (found : List Found) (at : ℕ) : Type 0 where
  pub there : at < length found
  pub other : (f : Found) → slice_get found at ≡ Some f → ¬ IsWanted any_order wanted f.outcome
  pub before : AreWanted any_order wanted (take at found)
