-- Picks of code that the source does not see: as long as no other comes between, there are only so many of them.
use Rattle.std.proofs.Common.{◌≡◌, ◌⊎◌, inl, inr, ℕ, zero, suc, ◌+◌, ◌<◌, ◌≤◌, ℤ, true, false, List, [], ◌∷◌, length}
use Rattle.std.proofs.Common.{get_or, set, Option, Some, None, option_and_then, option_map, unwrap_or, refl, sym, ap, ◌∙◌, subst, arith, true≢false}
use Rattle.std.specs.Prelude.{slice_get, slice_set}
use Rattle.std.specs.List.{sum_by}
use Rattle.std.proofs.lemmas.List.Sums.{sum_by-cons, sum_by-set}
use Rattle.std.proofs.lemmas.Bool.{cases_lt}
use Rattle.pb_base.proofs.Cases.{bool_cases}
use Rattle.pb_base.specs.declared.pick.Pick.{Pick}
use Rattle.pb_base.specs.Steppers.{Bank, Silent, IsGranted, Move, State, move_of}
use Rattle.pb_code.specs.Code.{Instr, Push, Load, Store, Compute1, Compute2, Jump, JumpIfZero, PrintTop, Take, Give, Fork, Join, End}
use Rattle.pb_code.specs.Code.{ProcessCode, CodeProcess, Thread, Idle, Live, thread, code_step, step_process, step_thread, act, apply_step}
use Rattle.pb_code.specs.Shadows.{instr_skips, is_at_skip, is_skipped, skips_at}
use Rattle.pb_code.proofs.Chains.{Chain, Skips, Stops, after_skip, chain_short, chain_stops, next_place}
use Rattle.pb_generator.specs.Generate.{process_code}
use Rattle.pb_names.specs.Program.{Process}
use Rattle.pb_names.specs.Source.{SourceProcess}
use Rattle.pb_codegen.specs.Correct.{generated}
use Rattle.pb_codegen.proofs.SimulationPauses.{live_chain}
use Rattle.pb_codegen.proofs.SimulationPlaces.{listing_of}
use Rattle.pb_codegen.proofs.SimulationProcesses.{Alike}
use Rattle.pb_codegen.proofs.SimulationRuns.{AtProcess, StatesAlike, absent, present, at_process, pick_code_move, pick_skipped}
use Rattle.pb_codegen.proofs.SimulationRuns.{PicksAlike, code_alone, not_enabled, picks_alike, together}
use Rattle.pb_search_stages.specs.Configurations.{Comes}
use Rattle.pb_search_stages.specs.Reduction.{LeadsTo}
use Rattle.pb_verifier.proofs.Threads.{live_within}

-- how often an arm at a place skips before it stops, if that is no more often than this
abbrev pauses : ProcessCode → (most place : ℕ) → ℕ
pauses code zero p = 0
pauses code (suc n) p = elim (next_place code p) [
  | None ↦ 0
  | Some q ↦ suc (pauses code n q)
]

pauses_are : (code : ProcessCode) (n k p q : ℕ) → Skips code k p q → Stops code q → k ≤ n → pauses code n p ≡ k
pauses_are code zero zero p q skips stops few = refl
pauses_are code zero (suc k) p q skips stops few = absurd (omega (arith, few))
pauses_are code (suc n) zero p q skips stops few =
    ap (λ o. elim o [ None ↦ 0 | Some t ↦ suc (pauses code n t) ]) (ap (next_place code) skips ∙ stops)
pauses_are code (suc n) (suc k) p q skips stops few =
    ap (λ o. elim o [ None ↦ 0 | Some t ↦ suc (pauses code n t) ]) skips.1
    ∙ ap suc (pauses_are code n k skips.0 q skips.2 stops (omega (arith, few)))

abbrev thread_rank : ProcessCode → Thread → ℕ
thread_rank code Idle = 0
thread_rank code (Live p s) = pauses code (length code.instrs) p
thread_rank code Thread.Ended = 0

abbrev process_rank : ProcessCode → CodeProcess → ℕ
process_rank code cp = sum_by (thread_rank code) cp.threads

abbrev pub rank : List ProcessCode → List CodeProcess → ℕ
rank [] cps = 0
rank (code ∷ codes) [] = 0
rank (code ∷ codes) (cp ∷ cps) = process_rank code cp + rank codes cps

rank_falls : (codes : List ProcessCode) (cps : List CodeProcess) (p : ℕ) (code : ProcessCode) (cp next : CodeProcess)
    → slice_get codes p ≡ Some code → slice_get cps p ≡ Some cp → process_rank code next + 1 ≡ process_rank code cp
    → rank codes (slice_set cps p next) + 1 ≡ rank codes cps
rank_falls [] cps p code cp next at there falls = cc
rank_falls (c ∷ codes) [] p code cp next at there falls = cc
rank_falls (c ∷ codes) (x ∷ cps) zero code cp next at there falls =
    let one : Some c ≡ Some code = at in
    let two : Some x ≡ Some cp = there in
    let is : c ≡ code = cc in
    let was : x ≡ cp = cc in
    let falls' : process_rank c next + 1 ≡ process_rank c x = rw (is, was) falls in
    omega (arith, falls')
rank_falls (c ∷ codes) (x ∷ cps) (suc p) code cp next at there falls =
    let r = rank_falls codes cps p code cp next at there falls in
    omega (arith, r)

-- ---- one process

-- where a skip leads
data SkipStep (code : ProcessCode) (cp : CodeProcess) (a k : ℕ) : Type 0 where
  goes : (t : ℕ) (stack : List ℤ) → pauses code (length code.instrs) t ≡ k
      → step_process code cp a ≡ Some (record { vars = cp.vars; threads = set cp.threads a (Live t stack); faulted = cp.faulted }, Silent)
      → SkipStep code cp a k

stepped : (code : ProcessCode) (cp : CodeProcess) (a p t : ℕ) (stack : List ℤ) (i : Instr) → thread cp.threads a ≡ Live p stack
    → slice_get code.instrs p ≡ Some i → after_skip i p ≡ Some t
    → (next : List ℤ) × (step_process code cp a ≡ Some (record { vars = cp.vars; threads = set cp.threads a (Live t next); faulted = cp.faulted }, Silent))
stepped code cp a p t stack (Push v) live there to =
    let e : Some (p + 1) ≡ Some t = to in
    let e' : p + 1 ≡ t = cc in (
      v ∷ stack,
      ap (step_thread code cp a) live
          ∙ (ap (λ o. option_and_then (λ i. option_and_then (apply_step code cp a) (act cp.vars i p stack)) o) there
          ∙ ap (λ n. Some (record { vars = cp.vars; threads = set cp.threads a (Live n (v ∷ stack)); faulted = cp.faulted }, Silent)) e'),
    )
stepped code cp a p t stack (Jump target) live there to =
    let e : Some target ≡ Some t = to in
    let e' : target ≡ t = cc in (
      stack,
      ap (step_thread code cp a) live
          ∙ (ap (λ o. option_and_then (λ i. option_and_then (apply_step code cp a) (act cp.vars i p stack)) o) there
          ∙ ap (λ n. Some (record { vars = cp.vars; threads = set cp.threads a (Live n stack); faulted = cp.faulted }, Silent)) e'),
    )
stepped code cp a p t stack (Load x) live there to = cc
stepped code cp a p t stack (Store x) live there to = cc
stepped code cp a p t stack (Compute1 op) live there to = cc
stepped code cp a p t stack (Compute2 op) live there to = cc
stepped code cp a p t stack (JumpIfZero target) live there to = cc
stepped code cp a p t stack PrintTop live there to = cc
stepped code cp a p t stack (Take bundle) live there to = cc
stepped code cp a p t stack (Give bundle) live there to = cc
stepped code cp a p t stack (Fork first count) live there to = cc
stepped code cp a p t stack (Join first count) live there to = cc
stepped code cp a p t stack End live there to = cc

at_place : (code : ProcessCode) (p t : ℕ) (o : Option Instr) → slice_get code.instrs p ≡ o → option_and_then (λ i. after_skip i p) o ≡ Some t
    → (i : Instr) × (slice_get code.instrs p ≡ Some i) × (after_skip i p ≡ Some t)
at_place code p t None there to = cc
at_place code p t (Some i) there to = (i, there, to)

skip_step : (code : ProcessCode) (cp : CodeProcess) (a k : ℕ) → Chain code cp a (suc k) → SkipStep code cp a k
skip_step code cp a k chain =
    let short : suc k ≤ length code.instrs = chain_short code cp a (suc k) chain in
    let at = at_place code chain.0 chain.4.0 (slice_get code.instrs chain.0) refl chain.4.1 in
    let step = stepped code cp a chain.0 chain.4.0 chain.1 at.0 chain.3 at.1 at.2 in
    goes chain.4.0 step.0 (pauses_are code (length code.instrs) k chain.4.0 chain.2 chain.4.2 chain.5 (omega (arith, short))) step.1

process_falls : (code : ProcessCode) (cp : CodeProcess) (a k t : ℕ) (stack : List ℤ) → Chain code cp a (suc k)
    → pauses code (length code.instrs) t ≡ k
    → sum_by (thread_rank code) (set cp.threads a (Live t stack)) + 1 ≡ process_rank code cp
process_falls code cp a k t stack chain after =
    let within = live_within cp.threads a chain.0 chain.1 chain.3 in
    let sum = sum_by-set (thread_rank code) cp.threads a (Live t stack) Idle within in
    let short : suc k ≤ length code.instrs = chain_short code cp a (suc k) chain in
    let before : thread_rank code (get_or cp.threads a Idle) ≡ suc k =
    ap (thread_rank code) chain.3 ∙ pauses_are code (length code.instrs) (suc k) chain.0 chain.2 chain.4 chain.5 short in
    omega (arith, sum, before, after)

-- ---- all processes

-- what a pick does that the source does not see
pub record SkipsOn (program : List Process) (cs : State CodeProcess) (ss : State SourceProcess) (pick : Pick) : Type 0 where
  pub next : State CodeProcess
  pub moves : move_of (code_step (generated program)) cs pick ≡ Some (record { next = next; effect = Silent })
  pub alike : StatesAlike program next ss
  pub falls : rank (generated program) next.processes + 1 ≡ rank (generated program) cs.processes

none_skips : (a : ℕ) (o : Option ProcessCode)
    → unwrap_or (option_and_then (λ code. option_map (λ process. is_at_skip code process a) None) o) false ≡ false
none_skips a None = refl
none_skips a (Some code) = refl

no_process : (program : List Process) (cs : State CodeProcess) (pick : Pick) → slice_get cs.processes pick.process ≡ None
    → is_skipped (generated program) cs pick ≡ false
no_process program cs pick none =
    ap (λ o. unwrap_or (option_and_then (λ code. option_map (λ process. is_at_skip code process pick.arm) o)
    (slice_get (generated program) pick.process)) false) none
    ∙ none_skips pick.arm (slice_get (generated program) pick.process)

module _ (program : List Process) (cs : State CodeProcess) (ss : State SourceProcess) (pick : Pick) (h : StatesAlike program cs ss)
    (skips : is_skipped (generated program) cs pick ≡ true) where
  known : (next : State CodeProcess) → move_of (code_step (generated program)) cs pick ≡ Some (record { next = next; effect = Silent })
      → rank (generated program) next.processes + 1 ≡ rank (generated program) cs.processes → PicksAlike program cs ss pick
      → SkipsOn program cs ss pick
  known next moves falls (not_enabled c s) = let w : ◌≡◌ {A = Option (Move CodeProcess)} None (Some (record { next = next; effect = Silent })) = sym c ∙ moves in cc
  known next moves falls (together cs' ss' effect stays c s alike) = elim (true≢false (sym skips ∙ stays)) [ ]
  known next moves falls (code_alone cs' alone c alike on) =
      let same : ◌≡◌ {A = Option (Move CodeProcess)} (Some (record { next = cs'; effect = Silent })) (Some (record { next = next; effect = Silent })) = sym c ∙ moves in
      let same' : ◌≡◌ {A = Move CodeProcess} (record { next = cs'; effect = Silent }) (record { next = next; effect = Silent }) = cc in
      record {
        next = next;
        moves = moves;
        alike = subst (λ m. StatesAlike program m.next ss) same' alike;
        falls = falls;
      }

  module _ (process : Process) (cp : CodeProcess) (sp : SourceProcess)
      (at : slice_get (generated program) pick.process ≡ Some (process_code process)) (c : slice_get cs.processes pick.process ≡ Some cp)
      (alike : Alike (listing_of process) cp sp) where
    here : is_at_skip (process_code process) cp pick.arm ≡ true
    here = sym (pick_skipped program cs ss pick h (process_code process) cp (is_at_skip (process_code process) cp pick.arm) at c refl) ∙ skips

    by_chain : (k : ℕ) → Chain (process_code process) cp pick.arm k → SkipsOn program cs ss pick
    by_chain zero chain = elim (true≢false (sym here ∙ chain_stops (process_code process) cp pick.arm chain)) [ ]
    by_chain (suc k) chain = go (skip_step (process_code process) cp pick.arm k chain)
      where
        go : SkipStep (process_code process) cp pick.arm k → SkipsOn program cs ss pick
        go (goes t stack after step) =
            let next : CodeProcess = record { vars = cp.vars; threads = set cp.threads pick.arm (Live t stack); faulted = cp.faulted } in
            known (record { processes = slice_set cs.processes pick.process next; loans = cs.loans })
            (pick_code_move program cs ss pick h (process_code process) cp (Some (next, Silent)) at c step)
            (rank_falls (generated program) cs.processes pick.process (process_code process) cp next at c
            (process_falls (process_code process) cp pick.arm k t stack chain after)) (picks_alike program cs ss pick h)

    by_thread : (t : Thread) → thread cp.threads pick.arm ≡ t → SkipsOn program cs ss pick
    by_thread Idle is = elim (true≢false (sym here ∙ ap (skips_at (process_code process)) is)) [ ]
    by_thread Thread.Ended is = elim (true≢false (sym here ∙ ap (skips_at (process_code process)) is)) [ ]
    by_thread (Live p s) is =
        let chain = live_chain (listing_of process) cp pick.arm p s sp alike is in
        by_chain chain.0 chain.1

  pub skips_on : SkipsOn program cs ss pick
  skips_on = go (at_process program cs.processes ss.processes h.processes pick.process)
    where
      go : AtProcess program cs.processes ss.processes pick.process → SkipsOn program cs ss pick
      go (absent c s) = elim (true≢false (sym skips ∙ no_process program cs pick c)) [ ]
      go (present process cp sp in_program at c s alike change keep) =
          by_thread process cp sp at c alike (thread cp.threads pick.arm) refl

-- ---- as long as there are such picks

-- some thread counts
some_thread : (f : Thread → ℕ) (xs : List Thread) → f Idle ≡ 0 → 0 < sum_by f xs → (a : ℕ) × (0 < f (thread xs a))
some_thread f [] idle more = absurd (omega (arith, more))
some_thread f (x ∷ xs) idle more = go (cases_lt 0 (f x)) (λ rest. some_thread f xs idle rest)
  where
    go : (0 < f x) ⊎ (f x ≤ 0) → (0 < sum_by f xs → (a : ℕ) × (0 < f (thread xs a))) → (a : ℕ) × (0 < f (thread (x ∷ xs) a))
    go (inl some) rest = (0, some)
    go (inr none) rest =
        let both = sum_by-cons f x xs in
        let r = rest (omega (arith, more, both, none)) in (suc r.0, r.1)

-- some arm of some process skips
record SomeSkips (codes : List ProcessCode) (cps : List CodeProcess) : Type 0 where
  pub p : ℕ
  pub a : ℕ
  pub code : ProcessCode
  pub cp : CodeProcess
  pub at : slice_get codes p ≡ Some code
  pub there : slice_get cps p ≡ Some cp
  pub counts : 0 < thread_rank code (thread cp.threads a)

some_skips : (codes : List ProcessCode) (cps : List CodeProcess) → 0 < rank codes cps → SomeSkips codes cps
some_skips [] cps more = absurd (omega (arith, more))
some_skips (code ∷ codes) [] more = absurd (omega (arith, more))
some_skips (code ∷ codes) (cp ∷ cps) more = go (cases_lt 0 (process_rank code cp)) (λ rest. some_skips codes cps rest)
  where
    go : (0 < process_rank code cp) ⊎ (process_rank code cp ≤ 0) → (0 < rank codes cps → SomeSkips codes cps)
        → SomeSkips (code ∷ codes) (cp ∷ cps)
    go (inl some) rest =
        let r = some_thread (thread_rank code) cp.threads refl some in
        record { p = 0; a = r.0; code = code; cp = cp; at = refl; there = refl; counts = r.1 }
    go (inr none) rest =
        let r = rest (omega (arith, more, none)) in
        record { p = suc r.p; a = r.a; code = r.code; cp = r.cp; at = r.at; there = r.there; counts = r.counts }

-- a place at which an arm goes on is that of a skip
moves_on : (code : ProcessCode) (n p : ℕ) → 0 < pauses code n p → instr_skips (slice_get code.instrs p) ≡ true
moves_on code zero p more = absurd (omega (arith, more))
moves_on code (suc n) p more = go (slice_get code.instrs p) refl
  where
    at : (o : Option Instr) → slice_get code.instrs p ≡ o
        → pauses code (suc n) p ≡ (elim (option_and_then (λ i. after_skip i p) o) [ None ↦ 0 | Some q ↦ suc (pauses code n q) ])
    at o is = ap (λ o. elim (option_and_then (λ i. after_skip i p) o) [ None ↦ 0 | Some q ↦ suc (pauses code n q) ]) is

    nothing : (o : Option Instr) → slice_get code.instrs p ≡ o → option_and_then (λ i. after_skip i p) o ≡ None → ⊥
    nothing o is none =
        let zero_is = at o is ∙ ap (λ o. elim o [ None ↦ 0 | Some q ↦ suc (pauses code n q) ]) none in
        omega (arith, more, zero_is)

    go : (o : Option Instr) → slice_get code.instrs p ≡ o → instr_skips (slice_get code.instrs p) ≡ true
    go None is = absurd (nothing None is refl)
    go (Some (Push v)) is = ap instr_skips is
    go (Some (Jump target)) is = ap instr_skips is
    go (Some (Load x)) is = absurd (nothing (Some (Load x)) is refl)
    go (Some (Store x)) is = absurd (nothing (Some (Store x)) is refl)
    go (Some (Compute1 op)) is = absurd (nothing (Some (Compute1 op)) is refl)
    go (Some (Compute2 op)) is = absurd (nothing (Some (Compute2 op)) is refl)
    go (Some (JumpIfZero target)) is = absurd (nothing (Some (JumpIfZero target)) is refl)
    go (Some PrintTop) is = absurd (nothing (Some PrintTop) is refl)
    go (Some (Take bundle)) is = absurd (nothing (Some (Take bundle)) is refl)
    go (Some (Give bundle)) is = absurd (nothing (Some (Give bundle)) is refl)
    go (Some (Fork first count)) is = absurd (nothing (Some (Fork first count)) is refl)
    go (Some (Join first count)) is = absurd (nothing (Some (Join first count)) is refl)
    go (Some End) is = absurd (nothing (Some End) is refl)

counts_skip : (code : ProcessCode) (t : Thread) → 0 < thread_rank code t → skips_at code t ≡ true
counts_skip code Idle more = absurd (omega (arith, more))
counts_skip code Thread.Ended more = absurd (omega (arith, more))
counts_skip code (Live p s) more = moves_on code (length code.instrs) p more

-- code that has made all such picks, one after another
pub record CaughtUp (bank : Bank) (program : List Process) (cs : State CodeProcess) (ss : State SourceProcess) : Type 0 where
  pub picks : List Pick
  pub last : State CodeProcess
  pub comes : Comes (LeadsTo (IsGranted bank) (code_step (generated program))) cs picks last
  pub alike : StatesAlike program last ss
  pub none : (pick : Pick) → is_skipped (generated program) last pick ≡ false

module _ (bank : Bank) (program : List Process) (ss : State SourceProcess) where
  caught_up : (n : ℕ) (cs : State CodeProcess) → StatesAlike program cs ss → rank (generated program) cs.processes ≡ n
      → CaughtUp bank program cs ss
  caught_up zero cs h is = record { picks = []; last = cs; comes = refl; alike = h; none = none }
    where
      none : (pick : Pick) → is_skipped (generated program) cs pick ≡ false
      none pick = elim (bool_cases (is_skipped (generated program) cs pick)) [
        | inl skips ↦ (let f = (skips_on program cs ss pick h skips).falls in absurd (omega (arith, f, is)))
        | inr stays ↦ stays
      ]
  caught_up (suc n) cs h is =
      let some = some_skips (generated program) cs.processes (omega (arith, is)) in
      let pick : Pick = record { process = some.p; arm = some.a } in
      let skips : is_skipped (generated program) cs pick ≡ true =
      pick_skipped program cs ss pick h some.code some.cp true some.at some.there (counts_skip some.code (thread some.cp.threads some.a) some.counts) in
      let on = skips_on program cs ss pick h skips in
      let f = on.falls in
      let rest = caught_up n on.next on.alike (omega (arith, f, is)) in
      record {
        picks = pick ∷ rest.picks;
        last = rest.last;
        comes = (on.next, (Silent, on.moves, tt), rest.comes);
        alike = rest.alike;
        none = rest.none;
      }

  pub catches_up : (cs : State CodeProcess) → StatesAlike program cs ss → CaughtUp bank program cs ss
  catches_up cs h = caught_up (rank (generated program) cs.processes) cs h refl
