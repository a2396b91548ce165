-- Code of a resolved program takes and gives back no resource twice, and only resources that are there.
use Rattle.std.proofs.Common.{◌≡◌, ℕ, zero, suc, ◌+◌, ◌<◌, ℤ, pos, Bool, true, false, cond, List, [], ◌∷◌}
use Rattle.std.proofs.Common.{length, get_or, set, Option, Some, None, option_and_then, Result, Ok, Err, refl}
use Rattle.std.proofs.Common.{ap, subst}
use Rattle.std.specs.Prelude.{All, slice_get}
use Rattle.pb_base.specs.Arithmetic.{apply, apply_unary, is_zero}
use Rattle.pb_base.specs.declared.operators.FaultKind.{FaultKind}
use Rattle.pb_base.specs.Bundle.{IsDistinct}
use Rattle.pb_base.specs.Steppers.{Bundle, Effect, Silent, Prints, Takes, Returns, Faults, Finishes, ending}
use Rattle.pb_tree.specs.Syntax as tree
use Rattle.pb_names.specs.Program.{Expr, Number, Variable, Unary, Binary, Stmt, Block, Arms, Name, Process}
use Rattle.pb_names.specs.Program.{arms_of, arms_in, arms_list, arms_in_stmt, arms_in_arms}
use Rattle.pb_names.specs.Resolves.{ResolvesStmt, assign, print, if_else, while_do, hold, parbegin}
use Rattle.pb_names.specs.Resolves.{ResolvesStmts}
use Rattle.pb_names.specs.Resolves.{no_stmt, stmt_then, ResolvesArms, no_arm, arm_then}
use Rattle.pb_code.specs.Code.{Instr, Push, Load, Store, Compute1, Compute2, Jump, JumpIfZero, PrintTop, Take}
use Rattle.pb_code.specs.Code.{Give, Fork, Join, End, ProcessCode, CodeProcess, Thread, Idle, Live, Ended}
use Rattle.pb_code.specs.Code.{thread}
use Rattle.pb_code.specs.Code.{ThreadStep, Runs, Traps, Forks, Joins, Stops, with_result, act, all_over}
use Rattle.pb_code.specs.Code.{apply_step}
use Rattle.pb_code.specs.Code.{step_thread, step_process}
use Rattle.pb_generator.specs.Generate.{process_code}
use Rattle.pb_codegen.proofs.VerifiedInstructions.{IsElsewhere, NamesExpr, NamesStmt, Names, AllName, all_name-append}
use Rattle.pb_codegen.proofs.VerifiedInstructions.{EachInstr, each_instr_at, each_of_arms}
use Rattle.pb_names.proofs.Holds.{numbers_below}

-- no resource twice, of the first n
pub record IsTidy (n : ℕ) (bundle : Bundle) : Type 0 where
  pub distinct : IsDistinct bundle
  pub there : All (λ pair. pair.resource < n) bundle

abbrev pub AsksTidily : ℕ → Instr → Type 0
AsksTidily n (Take bundle) = IsTidy n bundle
AsksTidily n (Give bundle) = IsTidy n bundle
AsksTidily n i = Unit {0}

tidy_elsewhere : (n : ℕ) → IsElsewhere (AsksTidily n)
tidy_elsewhere n = record {
  push = λ v. tt;
  compute1 = λ op. tt;
  compute2 = λ op. tt;
  jump = λ target. tt;
  test = λ target. tt;
  print = tt;
  ends = tt;
}

module _ (integers resources : List Name) where
  abbrev Tidily : Instr → Type 0
  Tidily = AsksTidily (length resources)

  tidy_expr : (e : Expr) → NamesExpr Tidily e
  tidy_expr (Number v) = tt
  tidy_expr (Variable x) = tt
  tidy_expr (Unary op a) = tidy_expr a
  tidy_expr (Binary op a b) = (tidy_expr a, tidy_expr b)

  mutual
    tidy_stmt : (s : tree.StmtSyntax) (s' : Stmt) → ResolvesStmt integers resources s s'
        → NamesStmt Tidily s' × AllName Tidily (arms_in_stmt s')
    tidy_stmt _ _ (assign line x i e e' is h) = ((tt, tidy_expr e'), tt)
    tidy_stmt _ _ (print line e e' h) = (tidy_expr e', tt)
    tidy_stmt _ _ (if_else line e e' a b a' b' h k l) =
        let x = tidy_block a a' k in
        let y = tidy_block b b' l in
        ((tidy_expr e', x.0, y.0), all_name-append Tidily (arms_in a') (arms_in b') x.1 y.1)
    tidy_stmt _ _ (while_do line e e' body body' h k) =
        let x = tidy_block body body' k in
        ((tidy_expr e', x.0), x.1)
    tidy_stmt _ _ (hold line demands bundle body body' h k) =
        let x = tidy_block body body' k in
        let tidy : IsTidy (length resources) bundle =
        record { distinct = h.distinct; there = numbers_below resources demands bundle h.each }
        in
        ((tidy, tidy, x.0), x.1)
    tidy_stmt _ _ (parbegin line first arms arms' most h) =
        let x = tidy_arms arms arms' h in
        ((tt, tt), all_name-append Tidily (arms_list arms') (arms_in_arms arms') x.0 x.1)

    tidy_block : (ss : tree.StmtsSyntax) (block : Block) → ResolvesStmts integers resources ss block
        → Names Tidily block × AllName Tidily (arms_in block)
    tidy_block _ _ no_stmt = (tt, tt)
    tidy_block _ _ (stmt_then s s' ss block h k) =
        let x = tidy_stmt s s' h in
        let y = tidy_block ss block k in
        ((x.0, y.0), all_name-append Tidily (arms_in_stmt s') (arms_in block) x.1 y.1)

    tidy_arms : (arms : tree.ArmsSyntax) (arms' : Arms) → ResolvesArms integers resources arms arms'
        → AllName Tidily (arms_list arms') × AllName Tidily (arms_in_arms arms')
    tidy_arms _ _ no_arm = (tt, tt)
    tidy_arms _ _ (arm_then arm arm' arms arms' h k) =
        let x = tidy_block arm arm' h in
        let y = tidy_arms arms arms' k in
        ((x.0, y.0), all_name-append Tidily (arms_in arm') (arms_in_arms arms') x.1 y.1)

  pub asks_tidily : (ss : tree.StmtsSyntax) (process : Process)
      → ResolvesStmts integers resources ss process.body
      → EachInstr (AsksTidily (length resources)) (process_code process).instrs
  asks_tidily ss process h =
      each_of_arms (AsksTidily (length resources)) (tidy_elsewhere (length resources)) 0 (arms_of process)
      (tidy_block ss process.body h)

-- ---- what a step of the code takes or gives back

-- what a step asks for or gives back, if anything
abbrev pub IsTidyEffect : ℕ → Effect → Type 0
IsTidyEffect n Silent = Unit {0}
IsTidyEffect n (Prints v) = Unit {0}
IsTidyEffect n (Takes bundle) = IsTidy n bundle
IsTidyEffect n (Returns bundle) = IsTidy n bundle
IsTidyEffect n (Faults kind) = Unit {0}
IsTidyEffect n Finishes = Unit {0}

ending_tidy : (n a : ℕ) → IsTidyEffect n (ending a)
ending_tidy n zero = tt
ending_tidy n (suc a) = tt

module _ (n : ℕ) (code : ProcessCode) (process : CodeProcess) (a : ℕ) where
  abbrev IsTidyStep : ThreadStep → Type 0
  IsTidyStep (Runs vars t effect) = IsTidyEffect n effect
  IsTidyStep (Traps kind) = Unit {0}
  IsTidyStep (Forks first count t) = Unit {0}
  IsTidyStep (Joins first count t) = Unit {0}
  IsTidyStep Stops = Unit {0}

  result_tidy : (r : Result ℤ FaultKind) (go : ℤ → ThreadStep) → ((v : ℤ) → IsTidyStep (go v))
      → IsTidyStep (with_result r go)
  result_tidy (Ok v) go h = h v
  result_tidy (Err kind) go h = tt

  act_tidy : (vars : List ℤ) (i : Instr) (place : ℕ) (stack : List ℤ) (step : ThreadStep) → AsksTidily n i
      → act vars i place stack ≡ Some step → IsTidyStep step
  act_tidy vars (Push v) place stack step h e =
      let same : Runs vars (Live (place + 1) (v ∷ stack)) Silent ≡ step = cc in subst IsTidyStep same tt
  act_tidy vars (Load x) place stack step h e =
      let same : Runs vars (Live (place + 1) (get_or vars x (pos 0) ∷ stack)) Silent ≡ step = cc in
      subst IsTidyStep same tt
  act_tidy vars (Store x) place [] step h e = cc
  act_tidy vars (Store x) place (v ∷ stack) step h e =
      let same : Runs (set vars x v) (Live (place + 1) stack) Silent ≡ step = cc in subst IsTidyStep same tt
  act_tidy vars (Compute1 op) place [] step h e = cc
  act_tidy vars (Compute1 op) place (v ∷ stack) step h e =
      let next : ℤ → ThreadStep = λ w. Runs vars (Live (place + 1) (w ∷ stack)) Silent in
      let same : with_result (apply_unary op v) next ≡ step = cc in
      subst IsTidyStep same (result_tidy (apply_unary op v) next (λ w. tt))
  act_tidy vars (Compute2 op) place [] step h e = cc
  act_tidy vars (Compute2 op) place (w ∷ []) step h e = cc
  act_tidy vars (Compute2 op) place (w ∷ v ∷ stack) step h e =
      let next : ℤ → ThreadStep = λ u. Runs vars (Live (place + 1) (u ∷ stack)) Silent in
      let same : with_result (apply op v w) next ≡ step = cc in
      subst IsTidyStep same (result_tidy (apply op v w) next (λ u. tt))
  act_tidy vars (Jump target) place stack step h e =
      let same : Runs vars (Live target stack) Silent ≡ step = cc in subst IsTidyStep same tt
  act_tidy vars (JumpIfZero target) place [] step h e = cc
  act_tidy vars (JumpIfZero target) place (v ∷ stack) step h e =
      let same : Runs vars (Live (cond (is_zero v) target (place + 1)) stack) Silent ≡ step = cc in
      subst IsTidyStep same tt
  act_tidy vars PrintTop place [] step h e = cc
  act_tidy vars PrintTop place (v ∷ stack) step h e =
      let same : Runs vars (Live (place + 1) stack) (Prints v) ≡ step = cc in subst IsTidyStep same tt
  act_tidy vars (Take bundle) place stack step h e =
      let same : Runs vars (Live (place + 1) stack) (Takes bundle) ≡ step = cc in subst IsTidyStep same h
  act_tidy vars (Give bundle) place stack step h e =
      let same : Runs vars (Live (place + 1) stack) (Returns bundle) ≡ step = cc in subst IsTidyStep same h
  act_tidy vars (Fork first m) place stack step h e =
      let same : Forks first m (Live (place + 1) stack) ≡ step = cc in subst IsTidyStep same tt
  act_tidy vars (Join first m) place stack step h e =
      let same : Joins first m (Live (place + 1) stack) ≡ step = cc in subst IsTidyStep same tt
  act_tidy vars End place stack step h e = let same : Stops ≡ step = cc in subst IsTidyStep same tt

  same_effect : (q : CodeProcess × Effect) (after : CodeProcess) (effect : Effect)
      → Some q ≡ Some (after, effect)
      → q.1 ≡ effect
  same_effect q after effect e =
      let same : q ≡ (after, effect) = cc in ap (λ (r : CodeProcess × Effect). r.1) same

  apply_tidy : (step : ThreadStep) (after : CodeProcess) (effect : Effect) → IsTidyStep step
      → apply_step code process a step ≡ Some (after, effect) → IsTidyEffect n effect
  apply_tidy (Runs vars t does) after effect h e =
      subst (IsTidyEffect n) (same_effect (
        record {
          vars =
              vars;
          threads = set process.threads a t;
          faulted = process.faulted;
        },
        does,
      ) after effect e) h
  apply_tidy (Traps kind) after effect h e = subst (IsTidyEffect n) (same_effect _ after effect e) tt
  apply_tidy (Forks first m t) after effect h e = subst (IsTidyEffect n) (same_effect _ after effect e) tt
  apply_tidy (Joins first m t) after effect h e =
      subst (IsTidyEffect n) (joined _ (all_over process.threads first m) e) tt
    where
      joined : (q : CodeProcess × Effect) (b : Bool) → cond b (Some q) None ≡ Some (after, effect)
          → q.1 ≡ effect
      joined q true e' = same_effect q after effect e'
      joined q false e' = cc
  apply_tidy Stops after effect h e = subst (IsTidyEffect n) (same_effect _ after effect e) (ending_tidy n a)

  pub step_tidy : (after : CodeProcess) (effect : Effect) → EachInstr (AsksTidily n) code.instrs
      → step_process code process a ≡ Some (after, effect) → IsTidyEffect n effect
  step_tidy after effect each e = at_thread (thread process.threads a) e
    where
      acted : (i : Instr) (place : ℕ) (stack : List ℤ) → AsksTidily n i → (o : Option ThreadStep)
          → act process.vars i place stack ≡ o → option_and_then (apply_step code process a) o ≡ Some
          (after, effect)
          → IsTidyEffect n effect
      acted i place stack h None q e' = cc
      acted i place stack h (Some step) q e' =
          apply_tidy step after effect (act_tidy process.vars i place stack step h q) e'

      at_place : (place : ℕ) (stack : List ℤ) (o : Option Instr) → slice_get code.instrs place ≡ o
          → option_and_then
          (λ i. option_and_then (apply_step code process a) (act process.vars i place stack)) o
          ≡ Some (after, effect)
          → IsTidyEffect n effect
      at_place place stack None q e' = cc
      at_place place stack (Some i) q e' =
          acted i place stack (each_instr_at (AsksTidily n) code.instrs place i each q)
          (act process.vars i place stack) refl e'

      at_thread : (t : Thread) → step_thread code process a t ≡ Some (after, effect) → IsTidyEffect n effect
      at_thread Idle e' = cc
      at_thread (Live place stack) e' = at_place place stack (slice_get code.instrs place) refl e'
      at_thread Ended e' = cc
