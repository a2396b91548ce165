-- What is said of the runs of code, from what a search tells.
use Rattle.std.proofs.Common.{◌≡◌, ◌≢◌, ◌<◌, ◌⊎◌, inl, inr, ℕ, zero, suc, Option, None, Some, Bool, true, false, List, [], ◌∷◌, length, map, refl, sym, subst, ◌∙◌, arith}
use Rattle.std.specs.Prelude.{◌==◌, Contains, IfNone, slice_get}
use Rattle.std.proofs.lemmas.List.{length-map}
use Rattle.std.proofs.lemmas.List.Elements.{All-contains, All-map}
use Rattle.pb_base.specs.declared.lending.Lending.{Lending}
use Rattle.pb_code.specs.Whole.{Code, ProcessLabels}
use Rattle.pb_command_io.specs.declared.status.Status.{Status}
use Rattle.pb_command_io.specs.declared.status.Status.TheVariants.{Device, Done, Limit, Unexpected}
use Rattle.pb_search.specs.Deadlocks.{AreFoundAt, FoundDeadlock, deadlock_view}
use Rattle.pb_search.specs.Outcomes.{Found, found_view}
use Rattle.pb_search.specs.Told.{IsTold, Tells as SearchTells}
use Rattle.pb_search.specs.declared.found.Extent.{Extent}
use Rattle.pb_search.specs.declared.found.Extent.TheVariants as extent
use Rattle.pb_search.specs.declared.found.Outcomes.{Outcomes}
use Rattle.pb_search.specs.declared.found.Until.TheVariants.{FirstDeadlock}
use Rattle.pb_search_fair.specs.declared.runs.FairRuns.TheVariants.{AllEnd, SomeDoNotEnd, TooMany}
use Rattle.pb_search_stages.specs.Traces.{Trace, trace_outcome}
use Rattle.pb_search_stages.specs.declared.print.Mode.{Mode}
use Rattle.pb_search_stages.specs.declared.print.Print.{Print}
use Rattle.pb_search_engine.specs.Expected.{AreWanted, IsFirstOther, IsWanted, printing}
use Rattle.pb_search_engine.specs.Items.{Item}
use Rattle.pb_search_engine.specs.Requirements.{AreMet, IsFirstUnmet, SpellsAsked}
use Rattle.pb_search_engine.specs.SaysExpected.{IsPlain, IsPlainBy, SaysOfAsked, SaysOfEndless, SaysOfLines, SaysOfRuns, TellsDeadlock, TellsOutcome}
use Rattle.pb_search_engine.specs.SaysExpected.{as_expected, asked, deadlock, endless, long, many, met, outcome, unmet}
use Rattle.pb_search_engine.specs.SaysOfTexts.{SaysOfItems}
use Rattle.pb_search_engine.specs.Sayings.{Lacks, Saying}
use Rattle.pb_search_engine.specs.declared.requirements.Requirement.{Requirement}
use Rattle.pb_verifier.specs.Verified.{VerifiedCode}
use Rattle.pb_voice.specs.Tellings.{Ends, Speaks}

-- what is said where nothing is left to the fair runs
module _ (lending : Lending) (code : Code) (states : ℕ) (items : List Item) (status : Status) where
  done_of : (fair : Bool) → IsPlainBy fair lending code states (extent.All false) items status → IsPlain states (extent.All false) items status
  done_of false is = is
  done_of true is = is

  many_of : (fair : Bool) → IsPlainBy fair lending code states extent.TooMany items status → IsPlain states extent.TooMany items status
  many_of false is = is
  many_of true is = is

  long_of : (fair : Bool) → IsPlainBy fair lending code states extent.TooLong items status → IsPlain states extent.TooLong items status
  long_of false is = is
  long_of true is = is

  -- and where something is
  endless_of : (fair : Bool) → IsPlainBy fair lending code states (extent.All true) items status → SaysOfEndless fair lending code states items status
  endless_of false is = is
  endless_of true is = is

  -- by whether only fair runs count and some run does not end
  pub fairly_plain : (fair : Bool) (e : Extent) → fair ≡ true → e ≡ extent.All true → SaysOfEndless true lending code states items status
      → IsPlainBy fair lending code states e items status
  fairly_plain true (extent.All true) on is says = says
  fairly_plain false e on is says = absurd (cc)
  fairly_plain true (extent.All false) on is says = absurd (cc)
  fairly_plain true extent.TooMany on is says = absurd (cc)
  fairly_plain true extent.TooLong on is says = absurd (cc)
  fairly_plain true extent.AtDeadlock on is says = absurd (cc)

  pub plainly : (fair : Bool) (e : Extent) → (fair ≡ true → e ≡ extent.All true → ⊥) → IsPlain states e items status
      → IsPlainBy fair lending code states e items status
  plainly false e not says = says
  plainly true (extent.All true) not says = absurd (not refl refl)
  plainly true (extent.All false) not says = says
  plainly true extent.TooMany not says = says
  plainly true extent.TooLong not says = says
  plainly true extent.AtDeadlock not says = says

module _ (fair : Bool) (lending : Lending) (any_order : Bool) (wanted : List Print) (code : Code) (states : ℕ) where
  abbrev Says : List Item → Status → Type 0
  Says = SaysOfRuns fair lending any_order wanted code states

  -- with no deadlock in the list there is none
  none_there : (found : List FoundDeadlock) (stuck : List Trace) → AreFoundAt (printing lending) code found stuck → length found ≡ 0 → (s : Trace)
      → Contains stuck s → ⊥
  none_there [] [] are none s there = let less = there.1 in absurd (omega (arith, less))
  none_there [] (t ∷ stuck) are none s there = elim are [ ]
  none_there (d ∷ found) stuck are none s there = absurd (omega (arith, none))

  -- by how much was found
  plain_by : (found : List Found) (deadlocks : List FoundDeadlock) (e : Extent)
      → IsTold (printing lending) code FirstDeadlock states found deadlocks e → AreWanted any_order wanted found → length deadlocks ≡ 0
      → (items : List Item) (status : Status) → IsPlainBy fair lending code states e items status → Says items status
  plain_by found deadlocks (extent.All true) h all none items status is =
      endless (record {
        ends = λ picks end ends.
            All-contains (IsWanted any_order wanted) (map (λ f. f.outcome) found) (trace_outcome end)
            (All-map (IsWanted any_order wanted) (λ (f : Found). f.outcome) found all)
            (h.outcomes.none_missing picks end ends);
        no_deadlock = λ picks s dead.
            none_there deadlocks h.deadlocks.some.stuck h.deadlocks.some.each none s (h.deadlocks.none_missing picks s dead);
      }) (h.endless.0 refl) items status (endless_of lending code states items status fair is)
  plain_by found deadlocks (extent.All false) h all none items status is =
      let by = done_of lending code states items status fair is in
      subst (λ (s : Status). Says items s) (sym by.1) (subst (λ (l : List Item). Says l Done) (sym by.0) (as_expected (record {
        ends = λ picks end ends.
            All-contains (IsWanted any_order wanted) (map (λ f. f.outcome) found) (trace_outcome end)
            (All-map (IsWanted any_order wanted) (λ (f : Found). f.outcome) found all)
            (h.outcomes.none_missing picks end ends);
        no_deadlock = λ picks s dead.
            none_there deadlocks h.deadlocks.some.stuck h.deadlocks.some.each none s (h.deadlocks.none_missing picks s dead);
        all_end = h.bounded refl;
      })))
  plain_by found [] extent.TooMany h all none items status is =
      let by = many_of lending code states items status fair is in
      subst (λ (s : Status). Says items s) (sym by.1) (subst (λ (l : List Item). Says l Limit) (sym by.0) (many found h all))
  plain_by found [] extent.TooLong h all none items status is =
      let by = long_of lending code states items status fair is in
      subst (λ (s : Status). Says items s) (sym by.1) (subst (λ (l : List Item). Says l Limit) (sym by.0) (long found h all))
  plain_by found (d ∷ deadlocks) extent.TooMany h all none items status is = absurd (omega (arith, none))
  plain_by found (d ∷ deadlocks) extent.TooLong h all none items status is = absurd (omega (arith, none))
  plain_by found deadlocks extent.AtDeadlock h all none items status is = let one = h.1.one in absurd (omega (arith, one, none))

  module _ (told : Outcomes) (tells : SearchTells (printing lending) code FirstDeadlock states told) where
    -- an outcome is not wanted
    pub other_said : (at : ℕ) → IsFirstOther any_order wanted (map found_view told.found.items) at → (f : Found)
        → slice_get (map found_view told.found.items) at ≡ Some f → (items : List Item) (status : Status)
        → TellsOutcome f items → status ≡ Unexpected → Says items status
    other_said at first f there items status said unexpected =
        subst (λ (s : Status). Says items s) (sym unexpected) (subst (λ (l : List Item). Says l Unexpected) (sym said.2.2)
        (outcome (map found_view told.found.items) (map deadlock_view told.deadlocks.items) told.extent tells at first f there
        said.0 said.1 said.2.0 said.2.1))

    -- there is a deadlock
    stuck_said : AreWanted any_order wanted (map found_view told.found.items) → (d : FoundDeadlock)
        → slice_get (map deadlock_view told.deadlocks.items) 0 ≡ Some d → (items : List Item) (status : Status)
        → TellsDeadlock d items → status ≡ Unexpected → Says items status
    stuck_said all d there items status said unexpected =
        subst (λ (s : Status). Says items s) (sym unexpected) (subst (λ (l : List Item). Says l Unexpected) (sym said.2)
        (deadlock (map found_view told.found.items) (map deadlock_view told.deadlocks.items) told.extent tells all d there said.0 said.1))

    -- all that was found is wanted, and there is no deadlock
    plain_said : AreWanted any_order wanted (map found_view told.found.items) → length told.deadlocks.items ≡ 0 → (items : List Item) (status : Status)
        → IsPlainBy fair lending code states told.extent items status → Says items status
    plain_said all none items status is =
        let many = length-map told.deadlocks.items deadlock_view in
        plain_by (map found_view told.found.items) (map deadlock_view told.deadlocks.items) told.extent tells all (omega (arith, many, none)) items status is

    -- no outcome is another
    pub no_other_said : AreWanted any_order wanted (map found_view told.found.items) → (items : List Item) (status : Status)
        → ((length told.deadlocks.items ≡ 0) × IsPlainBy fair lending code states told.extent items status)
        ⊎ ((d : FoundDeadlock) × (slice_get (map deadlock_view told.deadlocks.items) 0 ≡ Some d) × TellsDeadlock d items × (status ≡ Unexpected))
        → Says items status
    no_other_said all items status (inl plain) = plain_said all plain.0 items status plain.1
    no_other_said all items status (inr stuck) = stuck_said all stuck.0 stuck.1 items status stuck.2 stuck.3

-- what a search tells of the code as the calls return it
pub tells_here : (v seen : VerifiedCode) → seen ≡ v → (mode : Mode) (lending : Lending) → mode ≡ printing lending → (states : ℕ) (told : Outcomes)
    → SearchTells mode seen.code FirstDeadlock states told → SearchTells (printing lending) v.code FirstDeadlock states told
tells_here v seen same mode lending is states told tells =
    subst (λ (m : Mode). SearchTells m v.code FirstDeadlock states told) is
    (subst (λ (x : VerifiedCode). SearchTells mode x.code FirstDeadlock states told) same tells)

pub if_none : {X : Type 0} (P : Type 0) (o : Option X) → o ≡ None → IfNone o P → P
if_none {X = X} P o is h = subst (λ (o : Option X). IfNone o P) is h

-- what is not empty has an element
pub not_empty : (n : ℕ) → (n == 0) ≡ false → 0 < n
not_empty zero is = absurd (cc)
not_empty (suc n) is = omega arith

-- a call that compares runs has come to its end
pub runs_ended : (fair : Bool) (lending : Lending) (any_order : Bool) (wanted : List Print) (code : Code) (states : ℕ) (items : List Item)
    (status : Status) → SaysOfRuns fair lending any_order wanted code states items status → status ≢ Device
runs_ended fair lending any_order wanted code states _ _ (as_expected all) = λ e. cc
runs_ended fair lending any_order wanted code states _ _ (outcome found deadlocks extent listed at first f there picks counted what is) = λ e. cc
runs_ended fair lending any_order wanted code states _ _ (deadlock found deadlocks extent listed all d there picks counted) = λ e. cc
runs_ended false lending any_order wanted code states _ _ (endless ends run items status says) =
    λ e. let is : Unexpected ≡ Device = sym says.1 ∙ e in cc
runs_ended true lending any_order wanted code states _ _ (endless ends run items status (AllEnd, tells, _, is)) =
    λ e. let is : Done ≡ Device = sym is ∙ e in cc
runs_ended true lending any_order wanted code states _ _ (endless ends run items status (SomeDoNotEnd, tells, _, is)) =
    λ e. let is : Unexpected ≡ Device = sym is ∙ e in cc
runs_ended true lending any_order wanted code states _ _ (endless ends run items status (TooMany, tells, _, is)) =
    λ e. let is : Limit ≡ Device = sym is ∙ e in cc
runs_ended fair lending any_order wanted code states _ _ (many found listed all) = λ e. cc
runs_ended fair lending any_order wanted code states _ _ (long found listed all) = λ e. cc

module _ {T : Type 0} (tells breaks : T → Saying → T → Type 0) (old new : T) (given : Status) (fair : Bool) (lending : Lending) (any_order : Bool)
    (code : Code) (labels : List ProcessLabels) (states : ℕ) where
  -- lines that were read, and what is said of what they ask
  pub asked_said : (lines : List ℕ) (requirements : List Requirement) (prints : List Print) → SpellsAsked code lines requirements prints
      → Speaks tells breaks (SaysOfAsked fair lending any_order requirements prints code labels states) old new given
      → Speaks tells breaks (SaysOfLines fair lending any_order states lines code labels) old new given
  asked_said lines requirements prints spells (said, status, says, ends) =
      (said, status, asked requirements prints spells said status says, ends)

  module _ (requirements : List Requirement) (prints : List Print) where
    -- a requirement is not met
    pub unmet_said : (r : Requirement) → IsFirstUnmet code requirements r → Ends tells breaks old (Lacks r ∷ []) Unexpected new given
        → Speaks tells breaks (SaysOfAsked fair lending any_order requirements prints code labels states) old new given
    unmet_said r first ends = (Lacks r ∷ [], Unexpected, unmet r first, ends)

    -- all are met, and this is said of the runs
    pub met_said : AreMet code requirements
        → Speaks tells breaks (SaysOfItems (SaysOfRuns fair lending any_order prints code states) code.names labels) old new given
        → Speaks tells breaks (SaysOfAsked fair lending any_order requirements prints code labels states) old new given
    met_said all (said, status, says, ends) = (said, status, met all said status says, ends)
