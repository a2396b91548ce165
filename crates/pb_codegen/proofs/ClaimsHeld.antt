-- The source of a program holds no more than a free run, so no request passes its claim.
use Rattle.std.proofs.Common.{◌≡◌, ◌≢◌, ⊎_elim, ℕ, ◌+◌, ◌≤◌, Bool, true, false, nat_eq, List, []}
use Rattle.std.proofs.Common.{◌∷◌, length, map, Option, Some, None, option_map}
use Rattle.std.proofs.Common.{option_and_then, refl, sym, ap, ◌∙◌, subst, arith, eqb-true}
use Rattle.std.specs.Prelude.{slice_get, slice_set}
use Rattle.std.proofs.lemmas.Bool.{eqb-false}
use Rattle.pb_base.specs.Banker.{cell}
use Rattle.pb_base.specs.Bundle.{amount_in}
use Rattle.pb_base.specs.declared.pick.Pick.{Pick}
use Rattle.pb_base.specs.declared.event.Event.{Event}
use Rattle.pb_base.specs.Steppers.{Bank, Bundle, Effect, Takes, Faults, loans_after, State, Move, moved}
use Rattle.pb_base.specs.Steppers.{move_of, Makes, opening}
use Rattle.pb_base.proofs.Lists.{get_mapped}
use Rattle.pb_names.specs.Program.{Process, AllWellNumbered}
use Rattle.pb_names.specs.Source.{Arm, SourceProcess, step_run, source_step, source_process}
use Rattle.pb_names.specs.Claims.{IsClaim, FreeRun, at_start, and_then, held, start_of}
use Rattle.pb_code.specs.Code.{CodeProcess, code_process}
use Rattle.pb_verifier.proofs.LoansWithinClaims.{zero_loans}
use Rattle.pb_verifier.proofs.States.{slice_set_same, slice_set_other, lent_there}
use Rattle.pb_codegen.specs.Correct.{generated}
use Rattle.pb_codegen.proofs.SimulationPlaces.{listing_of}
use Rattle.pb_codegen.proofs.SimulationShapes.{SameArm, same_arm, same_arm_trans, same_arm_sym, step_same, held_same}
use Rattle.pb_codegen.proofs.SimulationShapes.{IsFree}
use Rattle.pb_codegen.proofs.SimulationProcesses.{RunAlike}
use Rattle.pb_codegen.proofs.ClaimsFreeSteps.{RunFrees, run_frees, located}
use Rattle.pb_codegen.proofs.ClaimsLoans.{lent_here}
use Rattle.pb_codegen.proofs.SimulationRuns.{StatesAlike, AtProcess, absent, present, at_process, opening_alike}
use Rattle.pb_codegen.proofs.SimulationBack.{chain_at, catch_up}
use Rattle.pb_verifier.proofs.Threads.{taken, given}

-- ---- all processes

-- a process's run is that of a free run, and holds at least what is lent to it
abbrev HoldsLoan : Process → (ℕ → ℕ) → Arm → Type 0
HoldsLoan process lent run =
    (arm : Arm) × FreeRun (start_of process) arm × SameArm run arm × ((r : ℕ) → lent r ≤ held r run)

abbrev Lent : List Process → State SourceProcess → Type 0
Lent program ss =
    (p : ℕ) (process : Process) (sp : SourceProcess) (run : Arm) → slice_get program p ≡ Some process
    → slice_get ss.processes p ≡ Some sp → sp.run ≡ Some run
    → HoldsLoan process (cell ss.loans p) run

-- what a pick is made of
pub record Opened (ss : State SourceProcess) (pick : Pick) (move : Move SourceProcess) : Type 0 where
  pub before : SourceProcess
  pub root : Arm
  pub after : SourceProcess
  pub effect : Effect
  pub here : slice_get ss.processes pick.process ≡ Some before
  pub runs : before.run ≡ Some root
  pub steps : step_run before.vars pick.arm root ≡ Some (after, effect)
  pub is : moved ss pick (after, effect) ≡ move

pub opened : (ss : State SourceProcess) (pick : Pick) (move : Move SourceProcess)
    → move_of source_step ss pick ≡ Some move → Opened ss pick move
opened ss pick move e = at (slice_get ss.processes pick.process) refl e
  where
    stepped : (sp : SourceProcess) (root : Arm) → slice_get ss.processes pick.process ≡ Some sp
        → sp.run ≡ Some root → (o : Option (SourceProcess × Effect)) → step_run sp.vars pick.arm root ≡ o
        → option_map (moved ss pick) o ≡ Some move → Opened ss pick move
    stepped sp root q w None z m = cc
    stepped sp root q w (Some pair) z m =
        record
        { before = sp; root = root; after = pair.0; effect = pair.1; here = q; runs = w; steps = z; is = (let same : moved ss pick pair ≡ move = cc in same) }

    run : (sp : SourceProcess) → slice_get ss.processes pick.process ≡ Some sp → (o : Option Arm) → sp.run ≡ o
        → option_map (moved ss pick) (option_and_then (step_run sp.vars pick.arm) o) ≡ Some move
        → Opened ss pick move
    run sp q None w m = cc
    run sp q (Some root) w m = stepped sp root q w (step_run sp.vars pick.arm root) refl m

    at : (o : Option SourceProcess) → slice_get ss.processes pick.process ≡ o
        → option_and_then (λ process. option_map (moved ss pick) (source_step pick.process process pick.arm)) o
        ≡ Some move
        → Opened ss pick move
    at None q m = cc
    at (Some sp) q m = run sp q sp.run refl m

module _ (program : List Process) (cs : State CodeProcess) (ss : State SourceProcess) (h : StatesAlike program cs ss)
    (pick : Pick) (move : Move SourceProcess) (o : Opened ss pick move) where
  opened_frees : AtProcess program cs.processes ss.processes pick.process
      → RunFrees o.root o.effect o.after.run
  opened_frees (absent c s) = let w : None ≡ Some o.before = sym s ∙ o.here in cc
  opened_frees (present process cp sp in_program at c s alike change keep) =
      let same : Some sp ≡ Some o.before = sym s ∙ o.here in
      let same' : sp ≡ o.before = cc in
      let run : sp.run ≡ Some o.root = ap (λ x. x.run) same' ∙ o.runs in
      let l =
      located (listing_of process) cp pick.arm o.before.vars o.root (o.after, o.effect)
      (subst (RunAlike (listing_of process) cp.threads cp.faulted) run alike.run) o.steps
      in
      run_frees (listing_of process) cp pick.arm o.root l o.before.vars o.after o.effect o.steps

  frees : RunFrees o.root o.effect o.after.run
  frees = opened_frees (at_process program cs.processes ss.processes h.processes pick.process)

-- the free run goes on with a process's
follow_free : (process : Process) (run new arm : Arm) (effect : Effect) → FreeRun (start_of process) arm
    → SameArm run arm → IsFree run new effect
    → (arm' : Arm) × FreeRun (start_of process) arm' × SameArm new arm'
follow_free process run new arm effect f s is_free =
    ⊎_elim (λ same. (arm, f, same_arm_trans new run arm (same_arm_sym run new same) s))
    (λ step. let r = step_same run new arm step s in (r.0, and_then arm r.0 f r.1, r.2)) is_free.way

lent_after : (program : List Process) (ss : State SourceProcess) (pick : Pick) (move : Move SourceProcess)
    (o : Opened ss pick move)
    → RunFrees o.root o.effect o.after.run → Lent program ss → Lent program move.next
lent_after program ss pick move o fr lent =
    subst (λ m. Lent program m.next) o.is
    (λ p process sp run in_program in_state runs. go p process sp run in_program in_state runs (nat_eq p pick.process) refl)
  where
    here : (process : Process) (run : Arm) → slice_get program pick.process ≡ Some process
        → o.after.run ≡ Some run → RunFrees o.root o.effect (Some run)
        → HoldsLoan process (cell (loans_after ss.loans pick.process o.effect) pick.process) run
    here process run in_program runs f =
        let old = lent pick.process process o.before o.root in_program o.here o.runs in
        let more = follow_free process o.root run old.0 o.effect old.1 old.2 f.0 in (
          more.0,
          more.1,
          more.2,
          λ r.
              let a = lent_here ss.loans pick.process o.effect r f.1 in
              let b = old.3 r in
              let c = f.0.balance r in
              omega (arith, a, b, c),
        )

    go : (p : ℕ) (process : Process) (sp : SourceProcess) (run : Arm) → slice_get program p ≡ Some process
        → slice_get (slice_set ss.processes pick.process o.after) p ≡ Some sp → sp.run ≡ Some run → (b : Bool)
        → nat_eq p pick.process ≡ b
        → HoldsLoan process (cell (loans_after ss.loans pick.process o.effect) p) run
    go p process sp run in_program in_state runs true e =
        let q = eqb-true p pick.process e in
        let new : o.after ≡ sp =
        slice_set_same ss.processes pick.process o.after sp
        (subst (λ k. slice_get (slice_set ss.processes pick.process o.after) k ≡ Some sp) q in_state)
        in
        let runs' : o.after.run ≡ Some run = ap (λ x. x.run) new ∙ runs in
        subst (λ k. HoldsLoan process (cell (loans_after ss.loans pick.process o.effect) k) run) (sym q)
        (here process run (subst (λ k. slice_get program k ≡ Some process) q in_program) runs' (subst (RunFrees o.root o.effect) runs' fr))
    go p process sp run in_program in_state runs false e =
        let ne : p ≢ pick.process = eqb-false p pick.process e in
        let old =
        lent p process sp run in_program
        (sym (slice_set_other ss.processes pick.process p o.after ne) ∙ in_state) runs
        in
        (old.0, old.1, old.2, λ r. let a = lent_there ss.loans pick.process p o.effect r ne in let b = old.3 r in omega (arith, a, b))

-- ---- requests

-- there is a program process wherever there is a process
abbrev Covers : List Process → State SourceProcess → Type 0
Covers program ss =
    (p : ℕ) (sp : SourceProcess) → slice_get ss.processes p ≡ Some sp → (process : Process) × (slice_get program p ≡ Some process)

-- the claims are the greatest amounts that free runs hold
abbrev pub HasClaims : Bank → List Process → Type 0
HasClaims bank program =
    (p r : ℕ) (process : Process) → slice_get program p ≡ Some process → IsClaim process r (cell bank.claims p r)

-- of each resource, what is lent and what is asked for are within the claim
abbrev pub AsksAtMost : Bank → State SourceProcess → Type 0
AsksAtMost bank ss =
    (pick : Pick) (move : Move SourceProcess) (bundle : Bundle) → move_of source_step ss pick ≡ Some move
    → move.effect ≡ Takes bundle
    → (r : ℕ) → cell ss.loans pick.process r + amount_in bundle r ≤ cell bank.claims pick.process r

source_asks : (bank : Bank) (program : List Process) (cs : State CodeProcess) (ss : State SourceProcess)
    → HasClaims bank program → StatesAlike program cs ss → Lent program ss → Covers program ss → AsksAtMost
    bank ss
source_asks bank program cs ss claims h lent covers pick move bundle enabled takes =
    λ r. go (opened ss pick move enabled) r
  where
    bound : (o : Opened ss pick move) (r : ℕ) (run : Option Arm) → RunFrees o.root o.effect run
        → o.effect ≡ Takes bundle
        → cell ss.loans pick.process r + amount_in bundle r ≤ cell bank.claims pick.process r
    bound o r None f e = let w : Takes bundle ≡ Faults f.0 = sym e ∙ f.1 in cc
    bound o r (Some new) f e =
        let c = covers pick.process o.before o.here in
        let old = lent pick.process c.0 o.before o.root c.1 o.here o.runs in
        let more = follow_free c.0 o.root new old.0 o.effect old.1 old.2 f.0 in
        let most = (claims pick.process r c.0 c.1).0 more.0 more.1 in
        let same = held_same r new more.0 more.2 in
        let balance : held r new + given r (Takes bundle) ≡ held r o.root + taken r (Takes bundle) =
        subst (λ x. held r new + given r x ≡ held r o.root + taken r x) e (f.0.balance r)
        in
        let loan = old.3 r in
        omega (arith, most, same, balance, loan)

    go : Opened ss pick move → (r : ℕ)
        → cell ss.loans pick.process r + amount_in bundle r ≤ cell bank.claims pick.process r
    go o r = bound o r o.after.run (frees program cs ss h pick move o) (ap (λ m. m.effect) o.is ∙ takes)

-- ---- all reached states

record Kept (program : List Process) (ss : State SourceProcess) : Type 0 where
  beside : State CodeProcess
  alike : StatesAlike program beside ss
  lent : Lent program ss
  covers : Covers program ss

covers_after : (program : List Process) (ss : State SourceProcess) (pick : Pick) (move : Move SourceProcess)
    → Opened ss pick move → Covers program ss → Covers program move.next
covers_after program ss pick move o c =
    subst (λ m. Covers program m.next) o.is (λ p sp e. go p sp e (nat_eq p pick.process) refl)
  where
    go : (p : ℕ) (sp : SourceProcess) → slice_get (slice_set ss.processes pick.process o.after) p ≡ Some sp
        → (b : Bool) → nat_eq p pick.process ≡ b → (process : Process) × (slice_get program p ≡ Some process)
    go p sp e true q = c p o.before (ap (slice_get ss.processes) (eqb-true p pick.process q) ∙ o.here)
    go p sp e false q =
        c p sp (sym (slice_set_other ss.processes pick.process p o.after (eqb-false p pick.process q)) ∙ e)

keeps_on : (bank : Bank) (program : List Process) (ss : State SourceProcess) (picks : List Pick)
    (events : List Event) (end : State SourceProcess)
    → Kept program ss → Makes bank source_step ss picks events end → Kept program end
keeps_on bank program ss [] events end k m = subst (Kept program) (sym m.1) k
keeps_on bank program ss (pick ∷ picks) events end k m =
    let ch =
    chain_at program ss pick m.0 m.1 k.beside
    (at_process program k.beside.processes ss.processes k.alike.processes pick.process)
    in
    let c = catch_up program ss pick m.0 m.1 bank ch.0 k.beside k.alike ch.1 m.2 in
    let o = opened ss pick m.0 m.1 in
    let fr = frees program k.beside ss k.alike pick m.0 o in
    keeps_on bank program m.0.next picks m.3 end
    (record {
      beside = c.0;
      alike = c.2;
      lent = lent_after program ss pick m.0 o fr k.lent;
      covers = covers_after program ss pick m.0 o k.covers;
    })
    m.5

starts_kept : (bank : Bank) (program : List Process) → AllWellNumbered program
    → Kept program (opening bank (map source_process program))
starts_kept bank program h = record {
  beside = opening bank (map code_process (generated program));
  alike = opening_alike bank program h;
  lent = λ p process sp run in_program in_state runs.
      let g = get_mapped source_process program p sp in_state in
      let same : Some g.0 ≡ Some process = sym g.1 ∙ in_program in
      let same' : g.0 ≡ process = cc in
      let sp_is : source_process process ≡ sp = ap source_process (sym same') ∙ g.2 in
      let run_is : Some (start_of process) ≡ Some run = ap (λ x. x.run) sp_is ∙ runs in
      let run_is' : start_of process ≡ run = cc in (
        start_of process,
        at_start,
        subst (λ x. SameArm x (start_of process)) run_is' (same_arm (start_of process)),
        λ r. let z = zero_loans (length bank.capital) (map source_process program) p r in omega (arith, z),
      );
  covers = λ p sp in_state. let g = get_mapped source_process program p sp in_state in (g.0, g.1);
}

-- in every state that the source reaches
pub asks_at_most : (bank : Bank) (program : List Process) → AllWellNumbered program → HasClaims bank program
    → (picks : List Pick) (events : List Event) (s : State SourceProcess)
    → Makes bank source_step (opening bank (map source_process program)) picks events s → AsksAtMost bank s
asks_at_most bank program h claims picks events s makes =
    let k = keeps_on bank program _ picks events s (starts_kept bank program h) makes in
    source_asks bank program k.beside s claims k.alike k.lent k.covers
