-- Outcomes and deadlocks of compiled code can be shown: each of their picks is of a process that has a name.
use Rattle.std.proofs.Common.{◌≡◌, ℕ, zero, suc, ◌<◌, ◌≤◌, List, [], ◌∷◌, ◌++◌, length, get_or, map}
use Rattle.std.proofs.Common.{sym, ap, subst, ◌∙◌, arith}
use Rattle.std.specs.Prelude.{All}
use Rattle.std.proofs.lemmas.List.{get_or-map, length-map, length-set}
use Rattle.std.proofs.lemmas.List.Elements.{All-cons, All-nil, All-weaker}
use Rattle.std.proofs.lemmas.Option.{slice_get_within}
use Rattle.pb_base.specs.declared.pick.Pick.{Pick}
use Rattle.pb_base.specs.Lines.{HasProcess, NameTable}
use Rattle.pb_base.specs.Steppers.{Move}
use Rattle.pb_code.specs.Code.{CodeProcess, code_process}
use Rattle.pb_code.specs.Whole.{Code, ProcessLabels}
use Rattle.pb_command_io.specs.declared.status.Status.{Status}
use Rattle.pb_verifier.specs.Verified.{IsFaultless, IsVerified, VerifiedCode}
use Rattle.pb_verifier.specs.declared.fault.VerifyFault.TheVariants.{OutOfLimits}
use Rattle.pb_verifier.proofs.States.{code_move}
use Rattle.pb_search_stages.specs.Configurations.{Comes}
use Rattle.pb_search.specs.Outcomes.{found_view}
use Rattle.pb_search_stages.specs.declared.print.Mode.{Mode}
use Rattle.pb_search_stages.specs.Traces.{TraceLeads, Trace, TraceEnds, TraceReaches, trace_opening}
use Rattle.pb_search.specs.Outcomes.{AreSomeOutcomes, Found}
use Rattle.pb_search.specs.Told.{AreSome, Tells}
use Rattle.pb_search.specs.declared.found.Outcomes.{Outcomes}
use Rattle.pb_search.specs.declared.found.Until.{Until}
use Rattle.pb_search.specs.declared.found.Until.{Until}
use Rattle.pb_search.proofs.ToldLists.{some_of}
use Rattle.pb_base.specs.declared.limits.TheConstants.{MAX_PICKS}
use Rattle.pb_search_stages.specs.Traces.{trace_outcome}
use Rattle.pb_search.specs.declared.found.Found.{Found as GivenFound}
use Rattle.pb_search_engine.specs.Items.{AreDeadlockItems, AreOutcomeItems, Item, closing_item}
use Rattle.pb_search_engine.specs.SaysOutcomes.{SaysOfSearch, status_of, told}
use Rattle.pb_search_engine.specs.Showing.{HaveProcesses}
use Rattle.pb_search.specs.Deadlocks.{AreFoundAt, AreSomeDeadlocks, FoundDeadlock, IsFoundAt}
use Rattle.pb_search.specs.Deadlocks.{deadlock_view}
use Rattle.pb_search.specs.declared.found.Deadlock.{Deadlock as GivenDeadlock}

module _ (mode : Mode) (code : Code) where
  -- each deadlock that is listed is one
  pub each_at : (found : List FoundDeadlock) (stuck : List Trace) → AreFoundAt mode code found stuck → (k : ℕ) (d : FoundDeadlock)
      → k < length found → (s : Trace) × IsFoundAt mode code (get_or found k d) s
  each_at [] [] are k d lt = absurd (omega (arith, lt))
  each_at (f ∷ found) (s ∷ stuck) are zero d lt = (s, are.0)
  each_at (f ∷ found) (s ∷ stuck) are (suc k) d lt = each_at found stuck are.1 k d (omega (arith, lt))
  each_at [] (s ∷ stuck) are k d lt = elim are [ ]
  each_at (f ∷ found) [] are k d lt = elim are [ ]

  -- each pick that leads somewhere is of one of the processes
  picks_are_there : (s end : Trace) (picks : List Pick) → Comes (TraceLeads mode code) s picks end
      → All (λ pick. pick.process < length s.state.processes) picks
  picks_are_there s end [] h = All-nil (λ (pick : Pick). pick.process < length s.state.processes)
  picks_are_there s end (pick ∷ picks) h =
      let move : Move CodeProcess = record { next = h.0.state; effect = h.1.0 } in
      let m = code_move code.processes s.state pick move h.1.1 in
      let all : length h.0.state.processes ≡ length s.state.processes =
      sym (ap (λ (x : Move CodeProcess). length x.next.processes) m.is) ∙ length-set s.state.processes pick.process m.after in
      All-cons (λ (p : Pick). p.process < length s.state.processes) pick picks
      (slice_get_within s.state.processes pick.process m.before m.here)
      (All-weaker (λ (p : Pick). p.process < length h.0.state.processes) (λ (p : Pick). p.process < length s.state.processes)
      (λ p less. omega (arith, less, all)) picks (picks_are_there h.0 end picks h.2))

  module _ (faultless : IsFaultless code) where
    pub have_processes : (picks : List Pick) (s : Trace) → TraceReaches mode code picks s → HaveProcesses code.names picks
    have_processes picks s reaches =
        let names = (faultless OutOfLimits).process_names.all in
        let size : length (trace_opening code).state.processes ≡ length code.processes = length-map code.processes code_process in
        All-weaker (λ (pick : Pick). pick.process < length (trace_opening code).state.processes) (λ (pick : Pick). HasProcess code.names pick.process)
        (λ pick less. omega (arith, less, names, size)) picks (picks_are_there (trace_opening code) s picks reaches)

    -- so are those of each outcome that was found
    pub found_shown : (found : List GivenFound) → AreSomeOutcomes mode code (map found_view found)
        → All (λ f. HaveProcesses code.names f.picks.items) found
    found_shown found outcomes = λ k d lt.
        let size = length-map found found_view in
        let f = get_or found k d in
        let each = outcomes.each k (found_view d) (omega (arith, size, lt)) in
        let own = subst (λ (g : Found). (end : Trace) × TraceEnds mode code g.picks end × (g.outcome ≡ trace_outcome end))
        (get_or-map found_view found k d (found_view d) lt) each in
        have_processes f.picks.items own.0 own.1.0

    -- and of each deadlock
    pub deadlocks_shown : (deadlocks : List GivenDeadlock) → AreSomeDeadlocks mode code (map deadlock_view deadlocks)
        → All (λ d. HaveProcesses code.names d.picks.items) deadlocks
    deadlocks_shown deadlocks are = λ k d lt.
        let size = length-map deadlocks deadlock_view in
        let f = get_or deadlocks k d in
        let each = each_at (map deadlock_view deadlocks) are.stuck are.each k (deadlock_view d) (omega (arith, size, lt)) in
        let own = subst (λ (g : FoundDeadlock). (s : Trace) × IsFoundAt mode code g s)
        (get_or-map deadlock_view deadlocks k d (deadlock_view d) lt) each in
        have_processes f.picks.items own.0 own.1.0.0

-- the picks of each are few
pub found_few : (mode : Mode) (code : Code) (found : List GivenFound) → AreSomeOutcomes mode code (map found_view found)
    → All (λ f. length f.picks.items ≤ MAX_PICKS) found
found_few mode code found are = λ k d lt.
    let size = length-map found found_view in
    subst (λ (g : Found). length g.picks ≤ MAX_PICKS) (get_or-map found_view found k d (found_view d) lt)
    (are.few k (found_view d) (omega (arith, size, lt)))

pub deadlocks_few : (mode : Mode) (code : Code) (deadlocks : List GivenDeadlock) → AreSomeDeadlocks mode code (map deadlock_view deadlocks)
    → All (λ d. length d.picks.items ≤ MAX_PICKS) deadlocks
deadlocks_few mode code deadlocks are = λ k d lt.
    let size = length-map deadlocks deadlock_view in
    subst (λ (g : FoundDeadlock). length g.picks ≤ MAX_PICKS) (get_or-map deadlock_view deadlocks k d (deadlock_view d) lt)
    (are.few k (deadlock_view d) (omega (arith, size, lt)))

-- whatever the extent, each that is listed is one
pub some_told : (mode : Mode) (code : Code) (until : Until) (states : ℕ) (result : Outcomes) → Tells mode code until states result
    → AreSome mode code (map found_view result.found.items) (map deadlock_view result.deadlocks.items)
some_told mode code until states result tells =
    some_of mode code until states (map found_view result.found.items) (map deadlock_view result.deadlocks.items) result.extent tells

-- ---- what is said

module _ (mode : Mode) (v seen : VerifiedCode) (same : seen ≡ v) (code : Code) (of : code ≡ seen.code) (labels shown : List ProcessLabels)
    (same_labels : shown ≡ labels) where
  same_names : code.names ≡ v.code.names
  same_names = ap (λ (c : Code). c.names) of ∙ ap (λ (x : VerifiedCode). x.code.names) same

  pub found_here : (found : List GivenFound) → AreSomeOutcomes mode seen.code (map found_view found) → IsVerified seen
      → All (λ f. HaveProcesses code.names f.picks.items) found
  found_here found outcomes verified =
      subst (λ (n : NameTable). All (λ f. HaveProcesses n f.picks.items) found) (ap (λ (c : Code). c.names) (sym of))
      (found_shown mode seen.code verified.faultless found outcomes)

  pub deadlocks_here : (deadlocks : List GivenDeadlock) → AreSomeDeadlocks mode seen.code (map deadlock_view deadlocks) → IsVerified seen
      → All (λ d. HaveProcesses code.names d.picks.items) deadlocks
  deadlocks_here deadlocks are verified =
      subst (λ (n : NameTable). All (λ d. HaveProcesses n d.picks.items) deadlocks) (ap (λ (c : Code). c.names) (sym of))
      (deadlocks_shown mode seen.code verified.faultless deadlocks are)

pub says_told : (mode : Mode) (v seen : VerifiedCode) (same : seen ≡ v) (until : Until) (result : Outcomes) (states : ℕ)
    (outcomes stuck items : List Item) (status : Status) → Tells mode seen.code until states result
    → AreOutcomeItems (map found_view result.found.items) outcomes → AreDeadlockItems (map deadlock_view result.deadlocks.items) stuck
    → items ≡ (outcomes ++ stuck) ++ closing_item states (length result.found.items) (length result.deadlocks.items) result.extent ∷ []
    → status ≡ status_of result.extent (length result.deadlocks.items) → SaysOfSearch mode until v.code states items status
says_told mode v seen same until result states outcomes stuck items status tells are stuck_are is same_status =
    let count : length (map found_view result.found.items) ≡ length result.found.items = length-map result.found.items found_view in
    let many : length (map deadlock_view result.deadlocks.items) ≡ length result.deadlocks.items =
    length-map result.deadlocks.items deadlock_view in
    subst (λ (s : Status). SaysOfSearch mode until v.code states items s)
    (ap (status_of result.extent) many ∙ sym same_status)
    (subst (λ (l : List Item). SaysOfSearch mode until v.code states l
    (status_of result.extent (length (map deadlock_view result.deadlocks.items))))
    (ap (λ n. (outcomes ++ stuck) ++ closing_item states n (length (map deadlock_view result.deadlocks.items)) result.extent ∷ []) count
    ∙ (ap (λ n. (outcomes ++ stuck) ++ closing_item states (length result.found.items) n result.extent ∷ []) many ∙ sym is))
    (told (map found_view result.found.items) (map deadlock_view result.deadlocks.items) result.extent
    (subst (λ (x : VerifiedCode). Tells mode x.code until states result) same tells) outcomes are stuck stuck_are))
