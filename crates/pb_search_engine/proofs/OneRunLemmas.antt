-- A run to one outcome or one deadlock: its picks can be shown, and what is said then.
use Rattle.std.proofs.Common.{◌≡◌, ◌++◌, ℕ, List, Option, Some, None, length, map}
use Rattle.std.proofs.Common.{refl, sym, ap, subst, ◌∙◌, ◌-◌}
use Rattle.std.specs.Prelude.{All, slice_get}
use Rattle.std.specs.Option.{option_map}
use Rattle.std.proofs.lemmas.List.{length-map}
use Rattle.std.proofs.lemmas.List.Elements.{All-map}
use Rattle.std.proofs.lemmas.Option.{get_or_from_slice_get, slice_get_within}
use Rattle.pb_base.specs.Lines.{NameTable}
use Rattle.pb_base.specs.declared.pick.Pick.{Pick}
use Rattle.pb_accept.specs.RunTexts.{SaysOfRunText}
use Rattle.pb_code.specs.Whole.{Code}
use Rattle.pb_command_io.specs.declared.status.Status.{Status}
use Rattle.pb_history.specs.declared.counted.CountedPick.{CountedPick}
use Rattle.pb_search.specs.Deadlocks.{FoundDeadlock, deadlock_view}
use Rattle.pb_search.specs.Outcomes.{Found, found_view}
use Rattle.pb_search.specs.Told.{Tells as SearchTells}
use Rattle.pb_search.specs.declared.found.Deadlock.{Deadlock as GivenDeadlock}
use Rattle.pb_search.specs.declared.found.Found.{Found as GivenFound}
use Rattle.pb_search.specs.declared.found.Outcomes.{Outcomes}
use Rattle.pb_search.specs.declared.found.Until.{Until}
use Rattle.pb_search_stages.specs.declared.print.Mode.{Mode}
use Rattle.pb_search_engine.specs.OutcomeLines.{AreCounted, last_line}
use Rattle.pb_search_engine.specs.SaysOfOne.{SaysOfOneRun, none, none_line, none_status, picks_to, there}
use Rattle.pb_search_engine.specs.declared.one_run.Target.{Target}
use Rattle.pb_search_engine.specs.declared.one_run.Target.TheVariants.{Deadlock, Outcome}
use Rattle.pb_verifier.specs.Verified.{VerifiedCode}

-- what holds of the picks of each of a list holds of those of the one that is read
read_picks : {X : Type 0} (picks_of : X → List Pick) (P : List Pick → Type 0) (xs : List X) (n : ℕ) (picks : List Pick)
    → All (λ x. P (picks_of x)) xs → option_map picks_of (slice_get xs n) ≡ Some picks → P picks
read_picks {X = X} picks_of P xs n picks all is = go (slice_get xs n) refl is
  where
    go : (o : Option X) → slice_get xs n ≡ o → option_map picks_of o ≡ Some picks → P picks
    go None e h = cc
    go (Some x) e h =
        let same : picks_of x ≡ picks = cc in
        subst P same (subst (λ (y : X). P (picks_of y)) (get_or_from_slice_get xs n x x e) (all n x (slice_get_within xs n x e)))

-- so it is with those that lead to one outcome or one deadlock
pub picks_hold : (P : List Pick → Type 0) (target : Target) (found : List GivenFound) (deadlocks : List GivenDeadlock) (picks : List Pick)
    → All (λ f. P f.picks.items) found → All (λ d. P d.picks.items) deadlocks
    → picks_to target (map found_view found) (map deadlock_view deadlocks) ≡ Some picks → P picks
picks_hold P (Outcome n) found deadlocks picks each all is =
    read_picks (λ (f : Found). f.picks) P (map found_view found) (n - 1) picks (All-map (λ (f : Found). P f.picks) found_view found each) is
picks_hold P (Deadlock n) found deadlocks picks each all is =
    read_picks (λ (d : FoundDeadlock). d.picks) P (map deadlock_view deadlocks) (n - 1) picks
    (All-map (λ (d : FoundDeadlock). P d.picks) deadlock_view deadlocks all) is

-- ---- what is said

module _ (target : Target) (mode : Mode) (until : Until) (v seen : VerifiedCode) (same : seen ≡ v) (code : Code) (of : code ≡ seen.code)
    (states : ℕ) (told : Outcomes) (tells : SearchTells mode seen.code until states told) (bytes : List ℕ) where
  abbrev Found-here : List Found
  Found-here = map found_view told.found.items

  abbrev Deadlocks-here : List FoundDeadlock
  Deadlocks-here = map deadlock_view told.deadlocks.items

  names_are : code.names ≡ v.code.names
  names_are = ap (λ (c : Code). c.names) of ∙ ap (λ (x : VerifiedCode). x.code.names) same

  tells_here : SearchTells mode v.code until states told
  tells_here = subst (λ (x : VerifiedCode). SearchTells mode x.code until states told) same tells

  pub run_said : (picks : List Pick) → picks_to target Found-here Deadlocks-here ≡ Some picks → (counted given : List CountedPick)
      → given ≡ counted → AreCounted picks counted → (text : List ℕ) (status : Status) → SaysOfRunText bytes code.names given text status
      → SaysOfOneRun target mode until v.code states bytes text status
  run_said picks is counted given given_is are text status says =
      there Found-here Deadlocks-here told.extent tells_here picks is counted are text status
      (subst (λ (n : NameTable). SaysOfRunText bytes n counted text status) names_are
      (subst (λ (cs : List CountedPick). SaysOfRunText bytes code.names cs text status) given_is says))

  pub none_said : picks_to target Found-here Deadlocks-here ≡ None → (text : List ℕ) (status : Status)
      → (text ≡ none_line target ++ last_line states (length told.found.items) (length told.deadlocks.items) told.extent)
      × (status ≡ none_status told.extent) → SaysOfOneRun target mode until v.code states bytes text status
  none_said is text status said =
      let count : length Found-here ≡ length told.found.items = length-map told.found.items found_view in
      let many : length Deadlocks-here ≡ length told.deadlocks.items = length-map told.deadlocks.items deadlock_view in
      subst (λ (s : Status). SaysOfOneRun target mode until v.code states bytes text s) (sym said.1)
      (subst (λ (t : List ℕ). SaysOfOneRun target mode until v.code states bytes t (none_status told.extent))
      (ap (λ n. none_line target ++ last_line states n (length Deadlocks-here) told.extent) count
      ∙ (ap (λ n. none_line target ++ last_line states (length told.found.items) n told.extent) many ∙ sym said.0))
      (none Found-here Deadlocks-here told.extent tells_here is))
