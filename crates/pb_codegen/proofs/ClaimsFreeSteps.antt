-- A step of a process of the source is a free step, or changes only what is left of an expression; or it is a
-- fault.
use Rattle.std.proofs.Common.{◌≡◌, ◌⊎◌, inl, inr, ⊎_elim, ℕ, zero, suc, ◌<◌, ◌≤◌, ℤ, Bool, true, false, cond}
use Rattle.std.proofs.Common.{List, [], ◌∷◌, length, Option, Some, None, option_map, option_and_then, refl}
use Rattle.std.proofs.Common.{sym, ap, ◌∙◌, subst, arith}
use Rattle.std.proofs.lemmas.Bool.{cases_lt}
use Rattle.pb_base.specs.declared.operators.FaultKind.{FaultKind}
use Rattle.pb_base.specs.Steppers.{Effect, Silent, Faults, ending}
use Rattle.pb_names.specs.Program.{Expr}
use Rattle.pb_names.specs.Source.{ExprStep, Is, Becomes, Fails, step_expr, evaluate, Item}
use Rattle.pb_names.specs.Source.{GiveBack, Arm, Doing, Waiting, Ended}
use Rattle.pb_names.specs.Source.{all_ended, ArmStep, Goes, Breaks, Ends, step_items, step_arm, put}
use Rattle.pb_names.specs.Source.{SourceProcess, settle, step_run}
use Rattle.pb_names.specs.Claims.{join}
use Rattle.pb_names.proofs.Holdings.{ended_held}
use Rattle.pb_names.proofs.ArmNumbers.{Mine}
use Rattle.pb_code.specs.Code.{CodeProcess}
use Rattle.pb_codegen.proofs.SimulationListings.{Listing}
use Rattle.pb_codegen.proofs.SimulationShapes.{IsFree, Frees, step_frees}
use Rattle.pb_codegen.proofs.SimulationTrees.{outside, Located, locate}
use Rattle.pb_codegen.proofs.SimulationProcesses.{RunAlike}
use Rattle.pb_codegen.proofs.SimulationPauses.{nowhere}

-- ---- one arm

abbrev ArmFrees : Arm → ArmStep → Type 0
ArmFrees found (Goes vars new effect) = IsFree found new effect
ArmFrees found (Breaks kind) = Unit {0}
ArmFrees found Ends = IsFree found Ended Silent

list_frees : (items : List Item) (st : ArmStep) → Frees items st → ArmFrees (Doing items) st
list_frees items (Goes vars new effect) h = h
list_frees items (Breaks kind) h = h
list_frees items Ends h = h

arm_frees : (vars : List ℤ) (found : Arm) (st : ArmStep) → step_arm vars found ≡ Some st → ArmFrees found st
arm_frees vars (Doing items) st e =
    let same : step_items vars items ≡ st = cc in
    subst (ArmFrees (Doing items)) same (list_frees items (step_items vars items) (step_frees vars items))
arm_frees vars (Waiting line first arms rest) st e = go (all_ended arms) refl e
  where
    go : (b : Bool) → all_ended arms ≡ b → cond b (Some (Goes vars (Doing rest) Silent)) None ≡ Some st
        → ArmFrees (Waiting line first arms rest) st
    go true ended e' =
        let same : Goes vars (Doing rest) Silent ≡ st = cc in
        subst (ArmFrees (Waiting line first arms rest)) same
        (record { way = inr (join line first arms rest ended); balance = λ r. let n = ended_held r arms ended in omega (arith, n) })
    go false ended e' = cc
arm_frees vars Ended st e = cc

-- a step that goes on is not a fault
abbrev NotFaulting : ArmStep → Type 0
NotFaulting (Goes vars new effect) = (kind : FaultKind) → effect ≡ Faults kind → ⊥
NotFaulting (Breaks kind) = Unit {0}
NotFaulting Ends = Unit {0}

evaluate_not_faulting : (res : ExprStep) (keep : Expr → ArmStep) (done : ℤ → ArmStep)
    → ((e : Expr) → NotFaulting (keep e)) → ((v : ℤ) → NotFaulting (done v))
    → NotFaulting (evaluate res keep done)
evaluate_not_faulting (Is v) keep done k d = d v
evaluate_not_faulting (Becomes e) keep done k d = k e
evaluate_not_faulting (Fails kind) keep done k d = tt

items_not_faulting : (vars : List ℤ) (items : List Item) → NotFaulting (step_items vars items)
items_not_faulting vars [] = tt
items_not_faulting vars (Item.Assign line x e ∷ rest) =
    evaluate_not_faulting (step_expr vars e) _ _ (λ e' kind w. cc) (λ v kind w. cc)
items_not_faulting vars (Item.Print line e ∷ rest) =
    evaluate_not_faulting (step_expr vars e) _ _ (λ e' kind w. cc) (λ v kind w. cc)
items_not_faulting vars (Item.If line e a b ∷ rest) =
    evaluate_not_faulting (step_expr vars e) _ _ (λ e' kind w. cc) (λ v kind w. cc)
items_not_faulting vars (Item.While line test e body ∷ rest) =
    evaluate_not_faulting (step_expr vars e) _ _ (λ e' kind w. cc) (λ v kind w. cc)
items_not_faulting vars (Item.Hold line bundle body ∷ rest) = λ kind w. cc
items_not_faulting vars (GiveBack line bundle ∷ rest) = λ kind w. cc
items_not_faulting vars (Item.Parbegin line first arms ∷ rest) = λ kind w. cc

arm_not_faulting : (vars : List ℤ) (found : Arm) (st : ArmStep) → step_arm vars found ≡ Some st
    → NotFaulting st
arm_not_faulting vars (Doing items) st e =
    let same : step_items vars items ≡ st = cc in
    subst NotFaulting same (items_not_faulting vars items)
arm_not_faulting vars (Waiting line first arms rest) st e = go (all_ended arms) e
  where
    go : (b : Bool) → cond b (Some (Goes vars (Doing rest) Silent)) None ≡ Some st → NotFaulting st
    go true e' = let same : Goes vars (Doing rest) Silent ≡ st = cc in subst NotFaulting same (λ kind w. cc)
    go false e' = cc
arm_not_faulting vars Ended st e = cc

-- ---- one process

abbrev pub RunFrees : Arm → Effect → Option Arm → Type 0
RunFrees root effect None = (kind : FaultKind) × (effect ≡ Faults kind)
RunFrees root effect (Some new) = IsFree root new effect × ((kind : FaultKind) → effect ≡ Faults kind → ⊥)

module _ (code : Listing) (cp : CodeProcess) (a : ℕ) (root : Arm) (l : Located code cp.threads 0 1 (length cp.threads) root a) where
  whole_free : (new : Arm) (effect : Effect) → IsFree l.found new effect
      → IsFree root (put a new 0 root) effect
  whole_free new effect f = record {
    way = ⊎_elim (λ s. inl (l.alike new s)) (λ s. inr (l.free new s)) f.way;
    balance = λ r. let h = l.holds r new in let b = f.balance r in omega (arith, h, b);
  }

  ending_free : (b : ℕ) → IsFree root (put a Ended 0 root) Silent
      → IsFree root (put a Ended 0 root) (ending b) × ((kind : FaultKind) → ending b ≡ Faults kind → ⊥)
  ending_free zero f = (record { way = f.way; balance = f.balance }, λ kind e. cc)
  ending_free (suc b) f = (f, λ kind e. cc)

  settle_frees : (vars : List ℤ) (st : ArmStep) → ArmFrees l.found st → NotFaulting st
      → RunFrees root (settle vars root a st).1 (settle vars root a st).0.run
  settle_frees vars (Goes vars' new effect) f ok = (whole_free new effect f, ok)
  settle_frees vars (Breaks kind) f ok = (kind, refl)
  settle_frees vars Ends f ok = ending_free a (whole_free Ended Silent f)

  pub run_frees : (vars : List ℤ) (sp' : SourceProcess) (effect : Effect)
      → step_run vars a root ≡ Some (sp', effect) → RunFrees root effect sp'.run
  run_frees vars sp' effect e =
      go (step_arm vars l.found) refl
      (sym (ap (option_and_then (λ arm. option_map (settle vars root a) (step_arm vars arm))) l.is_found) ∙ e)
    where
      go : (o : Option ArmStep) → step_arm vars l.found ≡ o
          → option_map (settle vars root a) o ≡ Some (sp', effect) → RunFrees root effect sp'.run
      go None q w = cc
      go (Some st) q w =
          let same : settle vars root a st ≡ (sp', effect) = cc in
          subst (λ pair. RunFrees root pair.1 pair.0.run) same
          (settle_frees vars st (arm_frees vars l.found st q) (arm_not_faulting vars l.found st q))

pub located : (code : Listing) (cp : CodeProcess) (a : ℕ) (vars : List ℤ) (root : Arm)
    (r : SourceProcess × Effect)
    → RunAlike code cp.threads cp.faulted (Some root) → step_run vars a root ≡ Some r
    → Located code cp.threads 0 1 (length cp.threads) root a
located code cp a vars root r h steps = go (cases_lt a (length cp.threads))
  where
    mine : a < length cp.threads → (0 < a) ⊎ (a ≤ 0) → Mine 0 1 (length cp.threads) a
    mine u (inl q) = inr (omega arith)
    mine u (inr q) = inl (omega arith)

    go : (a < length cp.threads) ⊎ (length cp.threads ≤ a)
        → Located code cp.threads 0 1 (length cp.threads) root a
    go (inl u) =
        ⊎_elim (λ l. l) (λ none. elim (nowhere code cp a vars root r none.0 steps) [ ])
        (locate code cp.threads 0 1 (length cp.threads) root a h.2 (omega arith) (mine u (cases_lt 0 a)))
    go (inr u) =
        let some : 1 ≤ length cp.threads = h.1 in
        let not_mine : Mine 0 1 (length cp.threads) a → ⊥ =
        elim [ inl m ↦ (omega arith) | inr m ↦ (omega arith) ] in
        let none = outside code cp.threads 0 1 (length cp.threads) root a h.2 not_mine in
        elim (nowhere code cp a vars root r none.0 steps) [ ]
