-- What is said of fair runs, and that there is none that never ends if every run ends.
use Rattle.std.proofs.Common.{◌≡◌, ◌≢◌, ◌∙◌, ℕ, zero, suc, List, [], ◌∷◌, ◌++◌, length, map, refl, sym, ap, subst, arith, length-append}
use Rattle.std.proofs.lemmas.List.{map-append}
use Rattle.std.specs.Prelude.{Bool, true, false, not}
use Rattle.pb_base.specs.declared.pick.Pick.{Pick}
use Rattle.pb_code.specs.Whole.{Code}
use Rattle.pb_command_io.specs.declared.status.Status.{Status}
use Rattle.pb_command_io.specs.declared.status.Status.TheVariants.{Device}
use Rattle.pb_search.specs.Deadlocks.{FoundDeadlock}
use Rattle.pb_search.specs.Outcomes.{Found, IsBounded}
use Rattle.pb_search.specs.Told.{IsTold}
use Rattle.pb_search.specs.declared.found.Extent.{Extent}
use Rattle.pb_search.specs.declared.found.Extent.TheVariants.{All}
use Rattle.pb_search.specs.declared.found.Until.{Until}
use Rattle.pb_search_engine.specs.FairLines.{status_with}
use Rattle.pb_search_engine.specs.Items.{Item, fair_item, given_item_view}
use Rattle.pb_search_engine.specs.declared.item.Item.{Item as GivenItem}
use Rattle.pb_search_engine.specs.SaysOutcomes.{SaysFairly, SaysOfSearch}
use Rattle.pb_search_fair.specs.CodeRuns.{HasFairRun, TellsFairRuns}
use Rattle.pb_search_fair.specs.declared.runs.FairRuns.{FairRuns}
use Rattle.pb_search_fair.specs.declared.runs.FairRuns.TheVariants.{AllEnd, SomeDoNotEnd, TooMany}
use Rattle.pb_search_stages.proofs.ClosedSets.{comes_on}
use Rattle.pb_search_stages.proofs.Traces.{plain_step, traced_step}
use Rattle.pb_search_stages.specs.Reaching.{CodeLeads, Configuration}
use Rattle.pb_search_stages.specs.Traces.{Trace, TraceLeads, TraceReaches, trace_opening}
use Rattle.pb_search_stages.specs.declared.print.Mode.{Mode}

-- ---- no run goes on for longer than all do

abbrev quiet : Mode → Mode
quiet mode = record { lending = mode.lending; prints = false }

-- the same picks from the start, whatever is kept of prints
record Reaches (mode : Mode) (code : Code) (n : ℕ) (state : Configuration) : Type 0 where
  pub picks : List Pick
  pub end : Trace
  pub reaches : TraceReaches mode code picks end
  pub many : length picks ≡ n
  pub same : end.state ≡ state

reaches_far : (mode : Mode) (code : Code) (run : HasFairRun (quiet mode) code) (n : ℕ) → Reaches mode code n (run.at n).state
reaches_far mode code run zero = record {
  picks = [];
  end = trace_opening code;
  reaches = refl;
  many = refl;
  same = ap (λ (s : Trace). s.state) (sym run.begins);
}
reaches_far mode code run (suc n) =
    let far = reaches_far mode code run n in
    let plain = plain_step (quiet mode) code (run.at n) (run.at (suc n)) (run.pick n) (run.goes n) in
    let here = subst (λ (s : Configuration). CodeLeads mode.lending code s (run.pick n) (run.at (suc n)).state) (sym far.same) plain in
    let traced = traced_step mode code far.end (run.at (suc n)).state (run.pick n) here in
    let next : Trace = record { state = (run.at (suc n)).state; prints = traced.0 } in
    let many = length-append far.picks (run.pick n ∷ []) in
    let was = far.many in
    record {
      picks = far.picks ++ run.pick n ∷ [];
      end = next;
      reaches = comes_on (TraceLeads mode code) (trace_opening code) far.end next far.picks (run.pick n ∷ []) far.reaches
          (next, traced.1, refl);
      many = omega (arith, many, was);
      same = refl;
    }

pub bounded_ends : (mode : Mode) (code : Code) → IsBounded mode code → HasFairRun (quiet mode) code → ⊥
bounded_ends mode code bounded run =
    let far = reaches_far mode code run (suc bounded.most) in
    let most = bounded.none_longer far.picks far.end far.reaches in
    let many = far.many in
    absurd (omega (arith, most, many))

pub bounded_told : (mode : Mode) (code : Code) (until : Until) (states : ℕ) (found : List Found) (stuck : List FoundDeadlock)
    (extent : Extent) → extent ≡ All false → IsTold mode code until states found stuck extent → IsBounded mode code
bounded_told mode code until states found stuck extent is told =
    (subst (λ (e : Extent). IsTold mode code until states found stuck e) is told).bounded refl

-- ---- what is said

pub says_plainly : (fair : Bool) (mode : Mode) (until : Until) (code : Code) (states : ℕ) (items : List Item) (status : Status)
    → not fair ≡ true → SaysOfSearch mode until code states items status → SaysFairly fair mode until code states items status
says_plainly true mode until code states items status is says = absurd (cc)
says_plainly false mode until code states items status is says = says

pub says_fairly : (fair : Bool) (mode : Mode) (until : Until) (code : Code) (states : ℕ)
    (before : List Item) (was : Status) (told : FairRuns) (items : List Item) (status : Status) → not fair ≡ false
    → SaysOfSearch mode until code states before was → TellsFairRuns (quiet mode) code states told
    → items ≡ before ++ fair_item states told ∷ [] → status ≡ status_with was told
    → SaysFairly fair mode until code states items status
says_fairly true mode until code states before was told items status is says tells same_items same_status =
    (before, was, told, says, tells, same_items, same_status)
says_fairly false mode until code states before was told items status is says tells same_items same_status = absurd (cc)

-- one item more, whose view is known
pub item_behind : (before items : List GivenItem) (item : GivenItem) (is : Item) → items ≡ before ++ item ∷ [] → given_item_view item ≡ is
    → map given_item_view items ≡ map given_item_view before ++ is ∷ []
item_behind before items item is added same =
    ap (map given_item_view) added
    ∙ (map-append given_item_view before (item ∷ []) ∙ ap (λ (i : Item). map given_item_view before ++ i ∷ []) same)

-- the status is not that of a device
pub status_kept : (was : Status) (told : FairRuns) → was ≢ Device → status_with was told ≢ Device
status_kept was AllEnd other = other
status_kept was SomeDoNotEnd other = other
status_kept was TooMany other = λ e. cc
