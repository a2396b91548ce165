-- If there is enough of each resource for all claims at once, the source comes to no deadlock by the cash alone.
use Rattle.std.proofs.Common.{◌≡◌, ◌∙◌, inl, inr, ℕ, ◌+◌, ◌<◌, ◌≤◌, ℤ, true, cond}
use Rattle.std.proofs.Common.{List, [], get_or, map, Option, Some, None, refl, ap, arith}
use Rattle.std.specs.Prelude.{◌&&◌, slice_get}
use Rattle.pb_base.proofs.Cases.{if_same}
use Rattle.pb_base.specs.declared.event.Event.{Event}
use Rattle.pb_base.specs.declared.lending.Lending.TheVariants.{ByCash}
use Rattle.pb_base.specs.declared.pick.Pick.{Pick}
use Rattle.pb_base.specs.Steppers.{Bank, Bundle, CanGoOn, Faults, Finishes, IsFinished, Makes, Prints, Returns, Silent, State, Table}
use Rattle.pb_base.specs.Steppers.{Takes, opening}
use Rattle.pb_names.proofs.Holds.{zip_at}
use Rattle.pb_names.specs.Meaning.{AreClaims, source_bank_by}
use Rattle.pb_names.specs.Program.{IsWellNumbered, Process, Program, capital_of}
use Rattle.pb_names.specs.Resolves.{Resolves, ResolvesProcess, resource_names}
use Rattle.pb_names.specs.Source.{Arm, ArmStep, Beside, Breaks, Doing, Ended, Ends, Goes, Nothing, Running, SourceProcess}
use Rattle.pb_names.specs.Source.{Waiting, all_ended, find, find_among, first_some, is_ended, running_arms, source_over, source_process}
use Rattle.pb_names.specs.Source.{source_step, step_arm, step_items}
use Rattle.pb_plan.proofs.Blocked.{cannot, ending_granted}
use Rattle.pb_plan.proofs.EachHolds.{always}
use Rattle.pb_plan.proofs.OrderedItems.{FitArms, FitsArm, arm_le, around}
use Rattle.pb_plan.proofs.OrderedPlaces.{none_before, not_inside}
use Rattle.pb_plan.proofs.OrderedRuns.{IsKept, kept}
use Rattle.pb_plan.proofs.Room.{asked_room}
use Rattle.pb_plan.specs.Needs.{AllFree}
use Rattle.pb_plan.specs.Orders.{FreeCapitalPreventsDeadlocks}
use Rattle.pb_tree.specs.Syntax.{ProgramSyntax}

-- ---- a tree of which no arm steps has ended

module _ (Meets : Bundle → Bundle → Type 0) (vars : List ℤ) where
  abbrev NoneSteps : (ℕ → Option Arm) → Type 0
  NoneSteps arm_at = (a : ℕ) (found : Arm) (st : ArmStep) → arm_at a ≡ Some found → step_arm vars found ≡ Some st → ⊥

  mutual
    pub ended : (n lo hi : ℕ) (outer : Bundle) (arm : Arm) → n < lo → FitsArm Meets lo hi outer arm
        → NoneSteps (λ a. find a n arm) → is_ended arm ≡ true
    ended n lo hi outer (Doing items) less h none =
        absurd (none n (Doing items) (step_items vars items) (if_same n n _ _ refl) refl)
    ended n lo hi outer (Waiting line first arms rest) less h none =
        let all =
        all_have first (first + running_arms arms) hi (around outer rest) arms (omega arith) h.2
        (λ a found st f s. none a found st (not_inside Meets a n lo hi line first outer arms rest found less h f) s) in
        absurd (none n (Waiting line first arms rest) (Goes vars (Doing rest) Silent) (if_same n n _ _ refl)
        (ap (λ b. cond b (Some (Goes vars (Doing rest) Silent)) None) all))
    ended n lo hi outer Ended less h none = refl

    all_have : (n lo hi : ℕ) (outer : Bundle) (arms : Running) → n + running_arms arms ≤ lo
        → FitArms Meets lo hi outer arms → NoneSteps (λ a. find_among a n arms) → all_ended arms ≡ true
    all_have n lo hi outer Nothing less h none = refl
    all_have n lo hi outer (Beside arm arms) less h none =
        let le = arm_le Meets lo h.0 outer arm h.1 in
        let one =
        ended n lo h.0 outer arm (omega (arith, less)) h.1
        (λ a found st f s. none a found st (ap (λ o. first_some o (find_among a (n + 1) arms)) f) s) in
        let others =
        all_have (n + 1) h.0 hi outer arms (omega (arith, less, le)) h.2
        (λ a found st f s.
        none a found st
        (ap (λ o. first_some o (find_among a (n + 1) arms)) (none_before Meets a n lo hi outer arm arms found h less f) ∙ f) s) in
        ap (λ b. b && all_ended arms) one ∙ others

-- ---- every request is granted

-- what every hold meets
abbrev Anything : Bundle → Bundle → Type 0
Anything outer asked = Unit {0}

module _ (tree : ProgramSyntax) (program : Program) (claims : Table) (h : Resolves tree program) (are : AreClaims program claims)
    (free : AllFree claims (capital_of program)) (picks : List Pick) (events : List Event) (s : State SourceProcess)
    (made : Makes (source_bank_by ByCash program claims) source_step
    (opening (source_bank_by ByCash program claims) (map source_process program.processes)) picks events s) where
  abbrev bank : Bank
  bank = source_bank_by ByCash program claims

  numbered_at : (p : ℕ) (process : Process) → slice_get program.processes p ≡ Some process → IsWellNumbered process
  numbered_at p process at =
      (zip_at (ResolvesProcess (resource_names program)) tree.processes program.processes p process h.processes at).2.numbered

  module _ (still : CanGoOn bank source_step s → ⊥) where
    -- no arm of a process steps
    none_steps : (p : ℕ) (process : SourceProcess) (root : Arm) → slice_get s.processes p ≡ Some process → process.run ≡ Some root
        → (a : ℕ) (found : Arm) (st : ArmStep) → find a 0 root ≡ Some found → step_arm process.vars found ≡ Some st → ⊥
    none_steps p process root at runs a found (Goes vars new Silent) f e =
        cannot bank s still p a process root found (Goes vars new Silent) at runs f e tt
    none_steps p process root at runs a found (Goes vars new (Prints v)) f e =
        cannot bank s still p a process root found (Goes vars new (Prints v)) at runs f e tt
    none_steps p process root at runs a found (Goes vars new (Takes bundle)) f e =
        cannot bank s still p a process root found (Goes vars new (Takes bundle)) at runs f e
        (λ k d l.
        asked_room tree program claims h are picks events s made p a process root found vars new bundle at runs f e k d l
        (λ inside. free (get_or bundle k d).resource inside))
    none_steps p process root at runs a found (Goes vars new (Returns bundle)) f e =
        cannot bank s still p a process root found (Goes vars new (Returns bundle)) at runs f e tt
    none_steps p process root at runs a found (Goes vars new (Faults kind)) f e =
        cannot bank s still p a process root found (Goes vars new (Faults kind)) at runs f e tt
    none_steps p process root at runs a found (Goes vars new Finishes) f e =
        cannot bank s still p a process root found (Goes vars new Finishes) at runs f e tt
    none_steps p process root at runs a found (Breaks kind) f e =
        cannot bank s still p a process root found (Breaks kind) at runs f e tt
    none_steps p process root at runs a found Ends f e =
        cannot bank s still p a process root found Ends at runs f e (ending_granted bank s p a)

    keeps : IsKept Anything s
    keeps =
        kept Anything bank program.processes picks events s
        (λ p process at. (numbered_at p process at, always Anything (λ outer asked. tt) [] process.body)) made

    over : (p : ℕ) (process : SourceProcess) → slice_get s.processes p ≡ Some process → (o : Option Arm) → process.run ≡ o
        → source_over process
    over p process at None runs = inl runs
    over p process at (Some root) runs =
        let tree = keeps.trees p process root at runs in
        has_ended root runs
        (ended Anything process.vars 0 1 tree.0 [] root (omega arith) tree.1 (none_steps p process root at runs))
      where
        has_ended : (root : Arm) → process.run ≡ Some root → is_ended root ≡ true → source_over process
        has_ended (Doing items) runs e = cc
        has_ended (Waiting line first arms rest) runs e = cc
        has_ended Ended runs e = inr runs

    pub all_over : IsFinished source_over s
    all_over p process at = over p process at process.run refl

pub free_capital_prevents : FreeCapitalPreventsDeadlocks
free_capital_prevents tree program claims h are free picks events s made deadlock =
    deadlock.0 (all_over tree program claims h are free picks events s made deadlock.1)
