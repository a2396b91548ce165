-- Whole runs: what the code does, the source does.
use Rattle.std.proofs.Common.{◌≡◌, ℕ, zero, suc, ◌≤◌, Bool, true, false, cond, List, [], ◌∷◌, ◌++◌, length}
use Rattle.std.proofs.Common.{map, Option, Some, None, option_map, option_and_then, option_to_list, unwrap_or}
use Rattle.std.proofs.Common.{refl, sym, ap, ◌∙◌, subst, arith}
use Rattle.std.specs.Prelude.{slice_get, slice_set}
use Rattle.pb_base.specs.Steppers.{Bank}
use Rattle.pb_base.specs.Steppers.{Effect, Silent, event_of, loans_after, IsGranted, State, Move, moved}
use Rattle.pb_base.specs.Steppers.{move_of, Makes, opening}
use Rattle.pb_base.specs.declared.pick.Pick.{Pick}
use Rattle.pb_base.specs.declared.event.Event.{Event}
use Rattle.pb_names.specs.Program.{AllWellNumbered, Process}
use Rattle.pb_names.specs.Source.{SourceProcess, source_step, source_process, SourceCanUnder}
use Rattle.pb_code.specs.Code.{ProcessCode, CodeProcess, step_process, code_step, code_process}
use Rattle.pb_code.specs.Code.{CodeCanUnder}
use Rattle.pb_code.specs.Shadows.{is_at_skip, is_skipped, shadow}
use Rattle.pb_verifier.proofs.Requests.{slice_set_here}
use Rattle.pb_generator.specs.Generate.{process_code}
use Rattle.pb_codegen.specs.Correct.{generated}
use Rattle.pb_code.proofs.Chains.{Chain}
use Rattle.pb_codegen.proofs.SimulationProcesses.{Alike, StepsAlike, neither, skip, both, steps_alike}
use Rattle.pb_codegen.proofs.SimulationPlaces.{listing_of, starts_alike}

-- process by process
abbrev pub AllAlike : List Process → List CodeProcess → List SourceProcess → Type 0
AllAlike [] [] [] = Unit {0}
AllAlike (process ∷ program) (cp ∷ cps) (sp ∷ sps) =
    Alike (listing_of process) cp sp × AllAlike program cps sps
AllAlike _ _ _ = ⊥

pub record StatesAlike (program : List Process) (cs : State CodeProcess) (ss : State SourceProcess) : Type 0 where
  pub processes : AllAlike program cs.processes ss.processes
  pub loans : cs.loans ≡ ss.loans

-- ---- one process of all

pub data AtProcess (program : List Process) (cps : List CodeProcess) (sps : List SourceProcess) (p : ℕ) : Type 0 where
  absent : slice_get cps p ≡ None → slice_get sps p ≡ None → AtProcess program cps sps p
  present : (process : Process) (cp : CodeProcess) (sp : SourceProcess) → slice_get program p ≡ Some process
      → slice_get (generated program) p ≡ Some (process_code process) → slice_get cps p ≡ Some cp
      → slice_get sps p ≡ Some sp → Alike (listing_of process) cp sp
      → ((cp' : CodeProcess) (sp' : SourceProcess) → Alike (listing_of process) cp' sp' → AllAlike program (slice_set cps p cp') (slice_set sps p sp'))
      → ((cp' : CodeProcess) → Alike (listing_of process) cp' sp → AllAlike program (slice_set cps p cp') sps)
      → AtProcess program cps sps p

later : (process : Process) (cp : CodeProcess) (sp : SourceProcess) (program : List Process)
    (cps : List CodeProcess) (sps : List SourceProcess) (p : ℕ) → Alike (listing_of process) cp sp
    → AtProcess program cps sps p → AtProcess (process ∷ program) (cp ∷ cps) (sp ∷ sps) (suc p)
later process cp sp program cps sps p h (absent c s) = absent c s
later process cp sp program cps sps p h (present process' cp' sp' in_program at c s alike change keep) =
    present process' cp' sp' in_program at c s alike (λ x y a. (h, change x y a)) (λ x a. (h, keep x a))

pub at_process : (program : List Process) (cps : List CodeProcess) (sps : List SourceProcess)
    → AllAlike program cps sps → (p : ℕ) → AtProcess program cps sps p
at_process [] [] [] h p = absent refl refl
at_process (process ∷ program) (cp ∷ cps) (sp ∷ sps) h zero =
    present process cp sp refl refl refl refl h.0 (λ x y a. (a, h.1)) (λ x a. (a, h.1))
at_process (process ∷ program) (cp ∷ cps) (sp ∷ sps) h (suc p) =
    later process cp sp program cps sps p h.0 (at_process program cps sps h.1 p)
at_process [] [] (sp ∷ sps) h p = elim h [ ]
at_process [] (cp ∷ cps) [] h p = elim h [ ]
at_process [] (cp ∷ cps) (sp ∷ sps) h p = elim h [ ]
at_process (process ∷ program) [] [] h p = elim h [ ]
at_process (process ∷ program) [] (sp ∷ sps) h p = elim h [ ]
at_process (process ∷ program) (cp ∷ cps) [] h p = elim h [ ]

-- ---- one pick

-- the arm that is picked skips k times, and then no more
abbrev pub ChainAt : List Process → State CodeProcess → Pick → ℕ → Type 0
ChainAt program cs pick k =
    (code : ProcessCode) × (cp : CodeProcess) × (slice_get (generated program) pick.process ≡ Some code) × (slice_get
    cs.processes pick.process ≡ Some cp) × Chain code cp pick.arm k

pub data PicksAlike (program : List Process) (cs : State CodeProcess) (ss : State SourceProcess) (pick : Pick) : Type 0 where
  not_enabled : move_of (code_step (generated program)) cs pick ≡ None → move_of source_step ss pick ≡ None
      → PicksAlike program cs ss pick
  code_alone : (cs' : State CodeProcess) → is_skipped (generated program) cs pick ≡ true
      → move_of (code_step (generated program)) cs pick ≡ Some (record { next = cs'; effect = Silent })
      → StatesAlike program cs' ss → ((k : ℕ) → ChainAt program cs pick (suc k) → ChainAt program cs' pick k)
      → PicksAlike program cs ss pick
  together : (cs' : State CodeProcess) (ss' : State SourceProcess) (effect : Effect)
      → is_skipped (generated program) cs pick ≡ false
      → move_of (code_step (generated program)) cs pick ≡ Some (record { next = cs'; effect = effect })
      → move_of source_step ss pick ≡ Some (record { next = ss'; effect = effect })
      → StatesAlike program cs' ss' → PicksAlike program cs ss pick

module _ (program : List Process) (cs : State CodeProcess) (ss : State SourceProcess) (pick : Pick) (h : StatesAlike program cs ss) where
  pub pick_code_move : (code : ProcessCode) (cp : CodeProcess) (r : Option (CodeProcess × Effect))
      → slice_get (generated program) pick.process ≡ Some code → slice_get cs.processes pick.process ≡ Some cp
      → step_process code cp pick.arm ≡ r
      → move_of (code_step (generated program)) cs pick ≡ option_map (moved cs pick) r
  pick_code_move code cp r at c e =
      ap (option_and_then (λ process. option_map (moved cs pick) (code_step (generated program) pick.process process pick.arm))) c
      ∙ ap (λ o. option_map (moved cs pick) (option_and_then (λ code. step_process code cp pick.arm) o)) at
      ∙ ap (option_map (moved cs pick)) e

  pub pick_source_move : (sp : SourceProcess) (r : Option (SourceProcess × Effect))
      → slice_get ss.processes pick.process ≡ Some sp → source_step pick.process sp pick.arm ≡ r
      → move_of source_step ss pick ≡ option_map (moved ss pick) r
  pick_source_move sp r s e =
      ap (option_and_then (λ process. option_map (moved ss pick) (source_step pick.process process pick.arm))) s
      ∙ ap (option_map (moved ss pick)) e

  pub pick_skipped : (code : ProcessCode) (cp : CodeProcess) (b : Bool)
      → slice_get (generated program) pick.process ≡ Some code → slice_get cs.processes pick.process ≡ Some cp
      → is_at_skip code cp pick.arm ≡ b → is_skipped (generated program) cs pick ≡ b
  pick_skipped code cp b at c e =
      ap (λ o. unwrap_or (option_and_then (λ code. option_map (λ process. is_at_skip code process pick.arm) (slice_get cs.processes pick.process)) o) false) at
      ∙ ap (λ o. unwrap_or (option_map (λ process. is_at_skip code process pick.arm) o) false) c
      ∙ e

  from_steps : (process : Process) (cp : CodeProcess) (sp : SourceProcess) → slice_get (generated program)
      pick.process ≡ Some (process_code process) → slice_get cs.processes pick.process ≡ Some cp → slice_get
      ss.processes pick.process ≡ Some sp → ((cp' : CodeProcess) (sp' : SourceProcess) → Alike (listing_of process)
      cp' sp' → AllAlike program (slice_set cs.processes pick.process cp') (slice_set ss.processes pick.process sp'))
      → ((cp' : CodeProcess) → Alike (listing_of process) cp' sp → AllAlike program (slice_set cs.processes
      pick.process cp') ss.processes) → StepsAlike (listing_of process) cp sp pick.arm → PicksAlike program cs ss pick
  from_steps process cp sp at c s change keep (neither ce se) =
      not_enabled (pick_code_move (process_code process) cp None at c ce) (pick_source_move sp None s se)
  from_steps process cp sp at c s change keep (skip cp' skips ce alike on) =
      code_alone _ (pick_skipped (process_code process) cp true at c skips) (pick_code_move (process_code process) cp
      _ at c ce) (record { processes = keep cp' alike; loans = h.loans }) moved_on
    where
      moved_on : (k : ℕ) → ChainAt program cs pick (suc k)
          → ChainAt program
          (record { processes = slice_set cs.processes pick.process cp'; loans = cs.loans }) pick k
      moved_on k chain =
          let code_is : Some chain.0 ≡ Some (process_code process) = sym chain.2 ∙ at in
          let code_is' : chain.0 ≡ process_code process = cc in
          let cp_is : Some chain.1 ≡ Some cp = sym chain.3 ∙ c in
          let cp_is' : chain.1 ≡ cp = cc in (
            process_code process,
            cp',
            at,
            slice_set_here cs.processes pick.process cp' cp c,
            on k (subst (λ x. Chain x cp pick.arm (suc k)) code_is' (subst (λ x. Chain chain.0 x pick.arm (suc k)) cp_is' chain.4)),
          )
  from_steps process cp sp at c s change keep (both cp' sp' effect skips ce se alike) =
      together _ _ effect (pick_skipped (process_code process) cp false at c skips) (pick_code_move (process_code
      process) cp _ at c ce) (pick_source_move sp _ s se)
      (record { processes = change cp' sp' alike; loans = ap (λ loans. loans_after loans pick.process effect) h.loans })

  from_process : AtProcess program cs.processes ss.processes pick.process → PicksAlike program cs ss pick
  from_process (absent c s) =
      not_enabled (ap (option_and_then (λ process. option_map (moved cs pick) (code_step (generated program) pick.process process pick.arm))) c)
      (ap (option_and_then (λ process. option_map (moved ss pick) (source_step pick.process process pick.arm))) s)
  from_process (present process cp sp in_program at c s alike change keep) =
      from_steps process cp sp at c s change keep (steps_alike (listing_of process) cp pick.arm sp alike)

  pub picks_alike : PicksAlike program cs ss pick
  picks_alike = from_process (at_process program cs.processes ss.processes h.processes pick.process)

-- ---- runs

-- the source makes the same events by the shadow of the picks
pub record Shadowed (bank : Bank) (program : List Process) (cs : State CodeProcess) (ss : State SourceProcess) (picks
    : List Pick) (events : List Event) (end : State CodeProcess) : Type 0 where
  pub last : State SourceProcess
  pub makes : Makes bank source_step ss (shadow (generated program) cs picks) events last
  pub alike : StatesAlike program end last
  pub no_longer : length (shadow (generated program) cs picks) ≤ length picks

pub shadowed : (bank : Bank) (program : List Process) (cs : State CodeProcess) (ss : State SourceProcess)
    (picks : List Pick) (events : List Event) (end : State CodeProcess) → StatesAlike program cs ss
    → Makes bank (code_step (generated program)) cs picks events end
    → Shadowed bank program cs ss picks events end
shadowed bank program cs ss [] events end h m =
    record { last = ss; makes = (m.0, refl); alike = subst (λ s. StatesAlike program s ss) (sym m.1) h; no_longer = omega arith }
shadowed bank program cs ss (pick ∷ picks) events end h m =
    go (picks_alike program cs ss pick h) (λ ss' alike. shadowed bank program m.0.next ss' picks m.3 end alike m.5)
  where
    next_is : (move : Move CodeProcess) → move_of (code_step (generated program)) cs pick ≡ Some move
        → move ≡ m.0
    next_is move e = let same : Some move ≡ Some m.0 = sym e ∙ m.1 in cc

    step_shadow : (b : Bool) → is_skipped (generated program) cs pick ≡ b
        → shadow (generated program) cs (pick ∷ picks) ≡ cond b (shadow (generated program) m.0.next picks)
        (pick ∷ shadow (generated program) m.0.next picks)
    step_shadow b e =
        ap (λ o. (elim o as (λ x. List Pick) [
          | None ↦ []
          | Some move ↦ cond (is_skipped (generated program) cs pick)
              (shadow (generated program) move.next picks) (pick ∷ shadow (generated program) move.next picks)
        ])) m.1
        ∙ ap (λ b. cond b (shadow (generated program) m.0.next picks) (pick ∷ shadow (generated program) m.0.next picks)) e

    go : PicksAlike program cs ss pick → ((ss' : State SourceProcess) → StatesAlike program m.0.next ss' → Shadowed
        bank program m.0.next ss' picks m.3 end) → Shadowed bank program cs ss (pick ∷ picks) events end
    go (not_enabled c s) rest = let w : None ≡ Some m.0 = sym c ∙ m.1 in cc
    go (code_alone cs' skips c alike on) rest =
        let e = next_is _ c in
        let r = rest ss (subst (λ move. StatesAlike program move.next ss) e alike) in
        let none : event_of pick m.0.effect ≡ None = ap (λ move. event_of pick move.effect) (sym e) in
        let same : events ≡ m.3 = m.4 ∙ ap (λ o. option_to_list o ++ m.3) none in
        let sh = step_shadow true skips in
        record {
          last = r.last;
          makes = subst (λ picks. Makes bank source_step ss picks events r.last) (sym sh) (subst (λ es. Makes bank
              source_step ss (shadow (generated program) m.0.next picks) es r.last) (sym same) r.makes);
          alike = r.alike;
          no_longer = let q = r.no_longer in omega (arith, ap length sh);
        }
    go (together cs' ss' effect skips c s alike) rest =
        let e = next_is _ c in
        let r = rest ss' (subst (λ move. StatesAlike program move.next ss') e alike) in
        let effect_is : effect ≡ m.0.effect = ap (λ move. move.effect) e in
        let sh = step_shadow false skips in
        let made : Makes bank source_step ss (pick ∷ shadow (generated program) m.0.next picks) events r.last = (
          record { next = ss'; effect = effect },
          s,
          subst (λ x. IsGranted bank ss.loans pick.process x) (sym effect_is) (subst (λ loans. IsGranted bank loans pick.process m.0.effect) h.loans m.2),
          m.3,
          m.4 ∙ ap (λ x. option_to_list (event_of pick x) ++ m.3) (sym effect_is),
          r.makes,
        ) in
        record {
          last = r.last;
          makes = subst (λ picks. Makes bank source_step ss picks events r.last) (sym sh) made;
          alike = r.alike;
          no_longer = let q = r.no_longer in omega (arith, ap length sh);
        }

-- ---- from the start

all_start : (program : List Process) → AllWellNumbered program
    → AllAlike program (map code_process (generated program)) (map source_process program)
all_start [] h = tt
all_start (process ∷ program) h = (starts_alike process h.0, all_start program h.1)

same_rows : (n : ℕ) (row : List ℕ) (program : List Process)
    → map (λ (p : CodeProcess). row) (map code_process (generated program)) ≡ map (λ (p : SourceProcess). row)
    (map source_process program)
same_rows n row [] = refl
same_rows n row (process ∷ program) = ap (λ rows. row ∷ rows) (same_rows n row program)

pub opening_alike : (bank : Bank) (program : List Process) → AllWellNumbered program
    → StatesAlike program (opening bank (map code_process (generated program)))
    (opening bank (map source_process program))
opening_alike bank program h = record { processes = all_start program h; loans = same_rows 0 _ program }

-- what the code can do in n picks, the source can do in n
pub code_to_source : (bank : Bank) (program : List Process) → AllWellNumbered program
    → (events : List Event) (n : ℕ) → CodeCanUnder bank (generated program) events n
    → SourceCanUnder bank program events n
code_to_source bank program h events n can =
    let s = shadowed bank program _ _ can.0 events can.1 (opening_alike bank program h) can.3 in
    let short = s.no_longer in
    let less : length can.0 ≤ n = can.2 in
    (shadow (generated program) (opening bank (map code_process (generated program))) can.0, s.last, omega arith, s.makes)
