-- In every state that the source reaches the holds meet what they meet in the text, and what is lent to a process
-- is to be given back in its tree.
use Rattle.std.proofs.Common.{◌≡◌, ◌∙◌, ◌≢◌, ⊎_elim, ℕ, zero, suc, ◌+◌, ◌≤◌, ℤ, List, [], ◌∷◌, length, map, Option}
use Rattle.std.proofs.Common.{Some, None, option_map, option_and_then, refl, sym, ap, subst, arith}
use Rattle.std.specs.Prelude.{slice_get, slice_set}
use Rattle.pb_base.proofs.Cases.{same_or_not}
use Rattle.pb_base.proofs.Lists.{get_mapped}
use Rattle.pb_base.specs.Banker.{cell}
use Rattle.pb_base.specs.declared.event.Event.{Event}
use Rattle.pb_base.specs.declared.operators.FaultKind.{FaultKind}
use Rattle.pb_base.specs.declared.pick.Pick.{Pick}
use Rattle.pb_base.specs.Steppers.{Bank, Bundle, Table, Effect, Faults, ending, State, Move, Makes, moved, move_of}
use Rattle.pb_base.specs.Steppers.{loans_after, opening}
use Rattle.pb_names.specs.Claims.{held}
use Rattle.pb_names.specs.Program.{Process, arms_in, IsWellNumbered}
use Rattle.pb_names.specs.Source.{items_of, Arm, Doing, Ended, ArmStep, Goes, Breaks, Ends, step_arm, find, put, SourceProcess}
use Rattle.pb_names.specs.Source.{settle, step_run, source_step, source_process}
use Rattle.pb_plan.proofs.OrderedItems.{FitsArm, fits_start}
use Rattle.pb_plan.proofs.OrderedLoans.{none_here}
use Rattle.pb_plan.proofs.OrderedPlaces.{IsPlaced, placed}
use Rattle.pb_plan.proofs.OrderedSteps.{Balances, KeepsOn, keeps_on}
use Rattle.pb_plan.specs.Orders.{EachHold}
use Rattle.pb_verifier.proofs.LoansWithinClaims.{zero_loans}
use Rattle.pb_verifier.proofs.States.{slice_set_same, slice_set_other, lent_there}
use Rattle.pb_codegen.proofs.ClaimsLoans.{lent_here}

slice_set_there : {X : Type 0} (xs : List X) (i : ℕ) (x y : X) → slice_get xs i ≡ Some x
    → slice_get (slice_set xs i y) i ≡ Some y
slice_set_there [] i x y h = cc
slice_set_there (z ∷ xs) zero x y h = refl
slice_set_there (z ∷ xs) (suc i) x y h = slice_set_there xs i x y h

-- what a pick is made of
record Opened (s : State SourceProcess) (pick : Pick) (move : Move SourceProcess) : Type 0 where
  before : SourceProcess
  root : Arm
  found : Arm
  st : ArmStep
  here : slice_get s.processes pick.process ≡ Some before
  runs : before.run ≡ Some root
  is_found : find pick.arm 0 root ≡ Some found
  steps : step_arm before.vars found ≡ Some st
  is : moved s pick (settle before.vars root pick.arm st) ≡ move

opened : (s : State SourceProcess) (pick : Pick) (move : Move SourceProcess)
    → move_of source_step s pick ≡ Some move → Opened s pick move
opened s pick move e = at (slice_get s.processes pick.process) refl e
  where
    stepped : (sp : SourceProcess) (root found : Arm) → slice_get s.processes pick.process ≡ Some sp
        → sp.run ≡ Some root → find pick.arm 0 root ≡ Some found → (o : Option ArmStep)
        → step_arm sp.vars found ≡ o
        → option_map (moved s pick) (option_map (settle sp.vars root pick.arm) o) ≡ Some move → Opened s pick move
    stepped sp root found q w f None z m = cc
    stepped sp root found q w f (Some st) z m =
        let same : moved s pick (settle sp.vars root pick.arm st) ≡ move = cc in
        record {
          before = sp;
          root = root;
          found = found;
          st = st;
          here = q;
          runs = w;
          is_found = f;
          steps = z;
          is = same;
        }

    there : (sp : SourceProcess) (root : Arm) → slice_get s.processes pick.process ≡ Some sp → sp.run ≡ Some root
        → (o : Option Arm) → find pick.arm 0 root ≡ o
        → option_map (moved s pick)
        (option_and_then (λ arm. option_map (settle sp.vars root pick.arm) (step_arm sp.vars arm)) o) ≡ Some move
        → Opened s pick move
    there sp root q w None f m = cc
    there sp root q w (Some found) f m = stepped sp root found q w f (step_arm sp.vars found) refl m

    run : (sp : SourceProcess) → slice_get s.processes pick.process ≡ Some sp → (o : Option Arm) → sp.run ≡ o
        → option_map (moved s pick) (option_and_then (step_run sp.vars pick.arm) o) ≡ Some move
        → Opened s pick move
    run sp q None w m = cc
    run sp q (Some root) w m = there sp root q w (find pick.arm 0 root) refl m

    at : (o : Option SourceProcess) → slice_get s.processes pick.process ≡ o
        → option_and_then (λ process. option_map (moved s pick) (source_step pick.process process pick.arm)) o
        ≡ Some move
        → Opened s pick move
    at None q m = cc
    at (Some sp) q m = run sp q sp.run refl m

abbrev pub held_by_run : ℕ → Option Arm → ℕ
held_by_run r None = 0
held_by_run r (Some root) = held r root

abbrev pub held_at : ℕ → Option SourceProcess → ℕ
held_at r None = 0
held_at r (Some process) = held_by_run r process.run

start_run : (process : Process) (root : Arm) → (source_process process).run ≡ Some root
    → Doing (items_of process.body) ≡ root
start_run process root e = cc

module _ (Meets : Bundle → Bundle → Type 0) where
  pub record IsKept (s : State SourceProcess) : Type 0 where
    pub trees : (p : ℕ) (process : SourceProcess) (root : Arm) → slice_get s.processes p ≡ Some process
        → process.run ≡ Some root → (hi : ℕ) × FitsArm Meets 1 hi [] root
    pub loans : (p r : ℕ) → cell s.loans p r ≤ held_at r (slice_get s.processes p)

  -- a tree that has stepped
  abbrev After : Arm → Option Arm → Effect → Type 0
  After root None effect = (kind : FaultKind) × (effect ≡ Faults kind)
  After root (Some new) effect = ((hi : ℕ) × FitsArm Meets 1 hi [] new) × Balances root new effect

  balanced : (hi a : ℕ) (root found new : Arm) (effect : Effect) → IsPlaced Meets 0 1 hi [] root a found
      → Balances found new effect → Balances root (put a new 0 root) effect
  balanced hi a root found new effect p b = record {
    each = λ r. let h = p.holds r new in let e = b.each r in omega (arith, h, e);
    no_fault = b.no_fault;
  }

  ended : (a : ℕ) (found : Arm) → ((r : ℕ) → held r found ≡ 0) → Balances found Ended (ending a)
  ended zero found none = record { each = λ r. let e = none r in omega (arith, e); no_fault = λ kind w. cc }
  ended (suc a) found none = record { each = λ r. let e = none r in omega (arith, e); no_fault = λ kind w. cc }

  settled : (hi a : ℕ) (root found : Arm) (vars : List ℤ) (st : ArmStep)
      (p : IsPlaced Meets 0 1 hi [] root a found) → KeepsOn Meets p.low p.high p.inner found st
      → After root (settle vars root a st).0.run (settle vars root a st).1
  settled hi a root found vars (Goes vars' new effect) p k =
      ((hi, p.back new k.0), balanced hi a root found new effect p k.1)
  settled hi a root found vars (Breaks kind) p k = (kind, refl)
  settled hi a root found vars Ends p k =
      ((hi, p.back Ended k.0), balanced hi a root found Ended (ending a) p (ended a found k.1))

  lent_after : (loans : Table) (p r : ℕ) (effect : Effect) (root : Arm) (run : Option Arm) → After root run effect
      → cell loans p r ≤ held r root → cell (loans_after loans p effect) p r ≤ held_by_run r run
  lent_after loans p r effect root None a l =
      let z = none_here loans p r a.0 in
      let e = ap (λ x. cell (loans_after loans p x) p r) a.1 in
      omega (arith, z, e)
  lent_after loans p r effect root (Some new) a l =
      let h = lent_here loans p effect r a.1.no_fault in
      let b = a.1.each r in
      omega (arith, h, b, l)

  kept_after : (s : State SourceProcess) (p : ℕ) (before after : SourceProcess) (root : Arm) (effect : Effect)
      → slice_get s.processes p ≡ Some before → before.run ≡ Some root → After root after.run effect → IsKept s
      → IsKept (record { processes = slice_set s.processes p after; loans = loans_after s.loans p effect })
  kept_after s p before after root effect here runs a k = record {
    trees = λ q process new at run. ⊎_elim (own q process new at run) (other q process new at run) (same_or_not q p);
    loans = λ q r. ⊎_elim (own_loan q r) (other_loan q r) (same_or_not q p);
  }
    where
      own : (q : ℕ) (process : SourceProcess) (new : Arm) → slice_get (slice_set s.processes p after) q ≡ Some process
          → process.run ≡ Some new → q ≡ p → (hi : ℕ) × FitsArm Meets 1 hi [] new
      own q process new at run same =
          let is : after ≡ process =
          slice_set_same s.processes p after process
          (subst (λ i. slice_get (slice_set s.processes p after) i ≡ Some process) same at) in
          (subst (λ o. After root o effect) (ap (λ x. x.run) is ∙ run) a).0

      other : (q : ℕ) (process : SourceProcess) (new : Arm)
          → slice_get (slice_set s.processes p after) q ≡ Some process → process.run ≡ Some new → q ≢ p
          → (hi : ℕ) × FitsArm Meets 1 hi [] new
      other q process new at run ne = k.trees q process new (sym (slice_set_other s.processes p q after ne) ∙ at) run

      own_loan : (q r : ℕ) → q ≡ p
          → cell (loans_after s.loans p effect) q r ≤ held_at r (slice_get (slice_set s.processes p after) q)
      own_loan q r same =
          let old = k.loans p r in
          let is : held_at r (slice_get s.processes p) ≡ held r root =
          ap (held_at r) here ∙ ap (held_by_run r) runs in
          let new = lent_after s.loans p r effect root after.run a (omega (arith, old, is)) in
          let now = ap (held_at r) (slice_set_there s.processes p before after here) in
          subst (λ i. cell (loans_after s.loans p effect) i r ≤ held_at r (slice_get (slice_set s.processes p after) i))
          (sym same) (omega (arith, new, now))

      other_loan : (q r : ℕ) → q ≢ p
          → cell (loans_after s.loans p effect) q r ≤ held_at r (slice_get (slice_set s.processes p after) q)
      other_loan q r ne =
          let old = k.loans q r in
          let lent = lent_there s.loans p q effect r ne in
          let now = ap (held_at r) (slice_set_other s.processes p q after ne) in
          omega (arith, old, lent, now)

  kept_next : (s : State SourceProcess) (pick : Pick) (move : Move SourceProcess)
      → move_of source_step s pick ≡ Some move → IsKept s → IsKept move.next
  kept_next s pick move e k =
      let o = opened s pick move e in
      let tree = k.trees pick.process o.before o.root o.here o.runs in
      let p = placed Meets pick.arm 0 1 tree.0 [] o.root o.found (omega arith) tree.1 o.is_found in
      let on = keeps_on Meets p.low p.high p.inner o.before.vars o.found o.st p.fits o.steps in
      let st = settle o.before.vars o.root pick.arm o.st in
      let a = settled tree.0 pick.arm o.root o.found o.before.vars o.st p on in
      subst (λ m. IsKept m.next) o.is (kept_after s pick.process o.before st.0 o.root st.1 o.here o.runs a k)

  kept_run : (bank : Bank) (s : State SourceProcess) (picks : List Pick) (events : List Event)
      (end : State SourceProcess) → IsKept s → Makes bank source_step s picks events end → IsKept end
  kept_run bank s [] events end k m = subst IsKept (sym m.1) k
  kept_run bank s (pick ∷ picks) events end k m =
      kept_run bank m.0.next picks m.3 end (kept_next s pick m.0 m.1 k) m.5

  kept_start : (bank : Bank) (program : List Process)
      → ((p : ℕ) (process : Process) → slice_get program p ≡ Some process
      → IsWellNumbered process × EachHold Meets [] process.body)
      → IsKept (opening bank (map source_process program))
  kept_start bank program each = record {
    trees = λ p process root at runs.
        let g = get_mapped source_process program p process at in
        let is' = start_run g.0 root (ap (λ x. x.run) g.2 ∙ runs) in
        let h = each p g.0 g.1 in (
          1 + length (arms_in g.0.body),
          subst (FitsArm Meets 1 (1 + length (arms_in g.0.body)) []) is'
              (fits_start Meets 1 (1 + length (arms_in g.0.body)) [] g.0.body h.0 (omega arith) h.1),
        );
    loans = λ p r. let z = zero_loans (length bank.capital) (map source_process program) p r in omega (arith, z);
  }

  pub kept : (bank : Bank) (program : List Process) (picks : List Pick) (events : List Event)
      (s : State SourceProcess)
      → ((p : ℕ) (process : Process) → slice_get program p ≡ Some process
      → IsWellNumbered process × EachHold Meets [] process.body)
      → Makes bank source_step (opening bank (map source_process program)) picks events s → IsKept s
  kept bank program picks events s each m = kept_run bank _ picks events s (kept_start bank program each) m
