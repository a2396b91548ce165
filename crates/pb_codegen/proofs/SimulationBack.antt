-- What the source does, the code does, with at most `times` picks for one of the source.
use Rattle.std.proofs.Common.{◌≡◌, ℕ, zero, suc, ◌+◌, ◌*◌, ◌≤◌, true, false, List, [], ◌∷◌, ◌++◌, length}
use Rattle.std.proofs.Common.{Option, Some, None, option_map, option_and_then, option_to_list, refl, sym, ap}
use Rattle.std.proofs.Common.{◌∙◌, subst, arith, true≢false, le_trans, mul-le-mul_right}
use Rattle.std.specs.Prelude.{slice_get}
use Rattle.pb_base.specs.Steppers.{Bank}
use Rattle.pb_base.specs.Steppers.{Effect, Silent, event_of, IsGranted, State, Move, moved, move_of, Makes}
use Rattle.pb_base.specs.declared.pick.Pick.{Pick}
use Rattle.pb_base.specs.declared.event.Event.{Event}
use Rattle.pb_names.specs.Program.{AllWellNumbered, Process}
use Rattle.pb_names.specs.Source.{SourceProcess, source_step, SourceCanUnder}
use Rattle.pb_code.specs.Code.{ProcessCode, CodeProcess, code_step, CodeCanUnder, longest}
use Rattle.pb_code.specs.Shadows.{is_skipped}
use Rattle.pb_codegen.specs.Correct.{generated, ImplementsUnder}
use Rattle.pb_generator.specs.Generate.{process_code}
use Rattle.pb_codegen.proofs.SimulationPlaces.{listing_of}
use Rattle.pb_code.proofs.Chains.{chain_skips, chain_stops, chain_short}
use Rattle.pb_codegen.proofs.SimulationPauses.{chain}
use Rattle.pb_codegen.proofs.SimulationRuns.{StatesAlike, AtProcess, absent, present, at_process, ChainAt, PicksAlike}
use Rattle.pb_codegen.proofs.SimulationRuns.{not_enabled, code_alone, together, picks_alike, pick_skipped}
use Rattle.pb_codegen.proofs.SimulationRuns.{opening_alike, code_to_source}

longest_at : (codes : List ProcessCode) (p : ℕ) (code : ProcessCode) → slice_get codes p ≡ Some code
    → length code.instrs ≤ longest codes
longest_at [] p code h = cc
longest_at (c ∷ codes) zero code h =
    let same : Some c ≡ Some code = h in
    let same' : c ≡ code = cc in
    let e : length c.instrs ≡ length code.instrs = ap (λ x. length x.instrs) same' in omega arith
longest_at (c ∷ codes) (suc p) code h = let r = longest_at codes p code h in omega arith

module _ (program : List Process) (ss : State SourceProcess) (pick : Pick) (move : Move SourceProcess) (enabled : move_of source_step ss pick ≡ Some move) where
  pub chain_at : (cs : State CodeProcess) → AtProcess program cs.processes ss.processes pick.process
      → (k : ℕ) × ChainAt program cs pick k × (k ≤ longest (generated program))
  chain_at cs (absent c s) =
      let none : move_of source_step ss pick ≡ None = ap (option_and_then (λ process. option_map (moved ss pick)
      (source_step pick.process process pick.arm))) s in
      let w : None ≡ Some move = sym none ∙ enabled in cc
  chain_at cs (present process cp sp in_program at c s alike change keep) =
      go (source_step pick.process sp pick.arm) refl (sym (ap (option_and_then (λ process. option_map (moved ss pick)
      (source_step pick.process process pick.arm))) s) ∙ enabled)
    where
      go : (o : Option (SourceProcess × Effect)) → source_step pick.process sp pick.arm ≡ o
          → option_map (moved ss pick) o ≡ Some move
          → (k : ℕ) × ChainAt program cs pick k × (k ≤ longest (generated program))
      go None e m = cc
      go (Some r) e m =
          let ch = chain (listing_of process) cp pick.arm sp r alike e in
          let short = chain_short (process_code process) cp pick.arm ch.0 ch.1 in
          let long = longest_at (generated program) pick.process (process_code process) at in
          (ch.0, (process_code process, cp, at, c, ch.1), omega arith)

  -- these picks before more of them
  abbrev pub Leads : Bank → State CodeProcess → ℕ → State CodeProcess → Type 0
  Leads bank cs n cs' = (more : List Pick) (events : List Event) (end : State CodeProcess) → Makes bank (code_step
      (generated program)) cs' more events end → (picks : List Pick) × (length picks ≡ n + length more) × Makes bank
      (code_step (generated program)) cs picks (option_to_list (event_of pick move.effect) ++ events) end

  pub catch_up : (bank : Bank) (k : ℕ) (cs : State CodeProcess) → StatesAlike program cs ss
      → ChainAt program cs pick k → IsGranted bank ss.loans pick.process move.effect
      → (cs' : State CodeProcess) × Leads bank cs (k + 1) cs' × StatesAlike program cs' move.next
  catch_up bank zero cs h ch granted = go (picks_alike program cs ss pick h)
    where
      stops : is_skipped (generated program) cs pick ≡ false
      stops =
          pick_skipped program cs ss pick h ch.0 ch.1 false ch.2 ch.3 (chain_stops ch.0 ch.1 pick.arm ch.4)

      go : PicksAlike program cs ss pick
          → (cs' : State CodeProcess) × Leads bank cs (zero + 1) cs' × StatesAlike program cs' move.next
      go (not_enabled c s) = let w : None ≡ Some move = sym s ∙ enabled in cc
      go (code_alone cs' skips c alike on) = elim (true≢false (sym skips ∙ stops)) [ ]
      go (together cs' ss' effect skips c s alike) =
          let same : Some (record { next = ss'; effect = effect }) ≡ Some move = sym s ∙ enabled in
          let same' : record { next = ss'; effect = effect } ≡ move = cc in
          let effect_is : move.effect ≡ effect = ap (λ m. m.effect) (sym same') in (
            cs',
            λ more events end m. (
              pick ∷ more,
              omega arith,
              (
                record { next = cs'; effect = effect },
                c,
                subst (λ loans. IsGranted bank loans pick.process effect) (sym h.loans) (subst (IsGranted bank ss.loans pick.process) effect_is granted),
                events,
                ap (λ x. option_to_list (event_of pick x) ++ events) effect_is,
                m,
              ),
            ),
            subst (λ m. StatesAlike program cs' m.next) same' alike,
          )
  catch_up bank (suc k) cs h ch granted =
      go (picks_alike program cs ss pick h) (λ cs' alike ch'. catch_up bank k cs' alike ch' granted)
    where
      skips' : is_skipped (generated program) cs pick ≡ true
      skips' =
          pick_skipped program cs ss pick h ch.0 ch.1 true ch.2 ch.3 (chain_skips ch.0 ch.1 pick.arm k ch.4)

      go : PicksAlike program cs ss pick → ((cs' : State CodeProcess) → StatesAlike program cs' ss → ChainAt program
          cs' pick k → (cs'' : State CodeProcess) × Leads bank cs' (k + 1) cs'' × StatesAlike program cs'' move.next)
          → (cs' : State CodeProcess) × Leads bank cs (suc k + 1) cs' × StatesAlike program cs' move.next
      go (not_enabled c s) rest = let w : None ≡ Some move = sym s ∙ enabled in cc
      go (together cs' ss' effect skips c s alike) rest = elim (true≢false (sym skips' ∙ skips)) [ ]
      go (code_alone cs' skips c alike on) rest =
          let r = rest cs' alike (on k ch) in (
            r.0,
            λ more events end m. let q = r.1 more events end m in (
              pick ∷ q.0,
              (let n : length q.0 ≡ k + 1 + length more = q.1 in omega arith),
              (
                record {
                  next = cs';
                  effect = Silent;
                },
                c,
                tt,
                option_to_list (event_of pick move.effect) ++ events,
                refl,
                q.2,
              ),
            ),
            r.2,
          )

pub record Followed (bank : Bank) (program : List Process) (cs : State CodeProcess) (picks : List Pick) (events : List
    Event) (end : State SourceProcess) : Type 0 where
  pub code_picks : List Pick
  pub last : State CodeProcess
  pub makes : Makes bank (code_step (generated program)) cs code_picks events last
  pub alike : StatesAlike program last end
  pub short : length code_picks ≤ length picks * (longest (generated program) + 1)
  pub long : length picks ≤ length code_picks

pub followed : (bank : Bank) (program : List Process) (cs : State CodeProcess) (ss : State SourceProcess)
    (picks : List Pick) (events : List Event) (end : State SourceProcess) → StatesAlike program cs ss
    → Makes bank source_step ss picks events end → Followed bank program cs picks events end
followed bank program cs ss [] events end h m =
    record { code_picks = []; last = cs; makes = (m.0, refl); alike = subst (StatesAlike program cs) (sym m.1) h; short = omega arith; long = omega arith }
followed bank program cs ss (pick ∷ picks) events end h m =
    go (chain_at program ss pick m.0 m.1 cs (at_process program cs.processes ss.processes h.processes pick.process))
    (λ cs' alike. followed bank program cs' m.0.next picks m.3 end alike m.5)
  where
    go : (k : ℕ) × ChainAt program cs pick k × (k ≤ longest (generated program)) → ((cs' : State CodeProcess) →
        StatesAlike program cs' m.0.next → Followed bank program cs' picks m.3 end) → Followed bank program cs (pick ∷
        picks) events end
    go ch rest =
        let c = catch_up program ss pick m.0 m.1 bank ch.0 cs h ch.1 m.2 in
        let r = rest c.0 c.2 in
        let l = c.1 r.code_picks m.3 r.last r.makes in
        let n : length l.0 ≡ ch.0 + 1 + length r.code_picks = l.1 in
        let k : ch.0 ≤ longest (generated program) = ch.2 in
        let s : length r.code_picks ≤ length picks * (longest (generated program) + 1) = r.short in
        record {
          code_picks = l.0;
          last = r.last;
          makes = subst (λ es. Makes bank (code_step (generated program)) cs
              l.0 es r.last) (sym m.4) l.2;
          alike = r.alike;
          short = omega arith;
          long = (let more : length picks ≤ length r.code_picks = r.long in omega (arith, n, more));
        }

-- what the source can do in n picks, the code can do in n times its length plus one
pub source_to_code : (bank : Bank) (program : List Process) → AllWellNumbered program
    → (events : List Event) (n : ℕ) → SourceCanUnder bank program events n
    → CodeCanUnder bank (generated program) events (n * (longest (generated program) + 1))
source_to_code bank program h events n can =
    let f = followed bank program _ _ can.0 events can.1 (opening_alike bank program h) can.3 in
    let less : length can.0 ≤ n = can.2 in
    let short : length f.code_picks ≤ length can.0 * (longest (generated program) + 1) = f.short in
    (f.code_picks, f.last, le_trans short (mul-le-mul_right _ less), f.makes)

pub implements : (bank : Bank) (program : List Process)
    → AllWellNumbered program → ImplementsUnder bank program (generated program)
implements bank program h =
    record { no_more = code_to_source bank program h; no_less = source_to_code bank program h }
