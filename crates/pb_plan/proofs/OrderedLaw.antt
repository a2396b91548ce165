-- If every process follows an order of the scarce resources, the source comes to no deadlock by the cash alone.
use Rattle.std.proofs.Common.{◌≡◌, inl, inr, ⊎_elim, ℕ, zero, suc, ◌+◌, ◌<◌, ◌≤◌, ℤ, false, cond, eqb}
use Rattle.std.proofs.Common.{List, [], ◌∷◌, length, map, get_or, Option, Some, None, refl, sym, ap}
use Rattle.std.proofs.Common.{subst, arith}
use Rattle.std.specs.Prelude.{All, slice_get, slice_index, sum_by}
use Rattle.std.proofs.lemmas.Bool.{cases_lt}
use Rattle.std.proofs.lemmas.List.Sums.{sum_by-cons}
use Rattle.std.proofs.lemmas.Option.{get_or_from_slice_get, slice_get_within}
use Rattle.pb_base.proofs.Cases.{bool_cases}
use Rattle.pb_base.specs.Banker.{BankerState, capital, cash, everyone, loan}
use Rattle.pb_base.specs.declared.event.Event.{Event}
use Rattle.pb_base.specs.declared.lending.Lending.TheVariants.{ByCash}
use Rattle.pb_base.specs.declared.pair.Pair.{Pair}
use Rattle.pb_base.specs.declared.pick.Pick.{Pick}
use Rattle.pb_base.specs.Steppers.{Bank, Silent, Prints, Takes, Returns, Faults, Finishes, IsLent}
use Rattle.pb_base.specs.Steppers.{Bundle, IsFinished, Makes, State, Table, CanGoOn, banker_state, opening}
use Rattle.pb_names.proofs.Holds.{zip_at}
use Rattle.pb_names.specs.Meaning.{AreClaims, source_bank_by}
use Rattle.pb_names.specs.Program.{Process, Program, IsWellNumbered, capital_of}
use Rattle.pb_names.specs.Resolves.{Resolves, ResolvesProcess, resource_names}
use Rattle.pb_names.specs.Source.{Arm, Doing, Waiting, Ended, is_ended, ArmStep, Goes, Breaks, Ends, step_arm, find}
use Rattle.pb_names.specs.Source.{SourceProcess, source_process, source_step, source_over}
use Rattle.pb_plan.proofs.Blocked.{cannot, ending_granted}
use Rattle.pb_plan.proofs.OrderedClaims.{most_held, ordered}
use Rattle.pb_plan.proofs.OrderedDeadlocks.{IsOrdered, IsStuck, Waits, lacking_or_not, stuck, arm_short}
use Rattle.pb_plan.proofs.OrderedDeadlocks.{IsShortPast, holder_short}
use Rattle.pb_plan.proofs.OrderedRuns.{IsKept, held_at, held_by_run, kept}
use Rattle.pb_plan.proofs.Room.{asked_room}
use Rattle.pb_plan.proofs.EachHolds.{followed_of_some}
use Rattle.pb_plan.proofs.ScarceLemmas.{free_or_scarce}
use Rattle.pb_plan.specs.Needs.{scarce}
use Rattle.pb_plan.specs.Nests.{IsAmong}
use Rattle.pb_plan.specs.Orders.{EachHold, place, OrdersPreventDeadlocks}
use Rattle.pb_plan.specs.Scarce.{ComesLaterAmong, OrdersOfScarcePreventDeadlocks}
use Rattle.pb_tree.specs.Syntax.{ProgramSyntax}

some_positive : (f : ℕ → ℕ) (xs : List ℕ) → 0 < sum_by f xs → (x : ℕ) × (0 < f x)
some_positive f [] u = absurd (omega (arith, u))
some_positive f (x ∷ xs) u =
    let sum = sum_by-cons f x xs in
    ⊎_elim (λ here. (x, here)) (λ none. some_positive f xs (omega (arith, u, none, sum))) (cases_lt 0 (f x))

place_le : (order : List ℕ) (r : ℕ) → place order r ≤ length order
place_le [] r = omega arith
place_le (first ∷ order) r = ⊎_elim
    (λ same. let e : place (first ∷ order) r ≡ 0 = ap (λ b. cond b 0 (suc (place order r))) same in omega (arith, e))
    (λ other.
    let e : place (first ∷ order) r ≡ suc (place order r) = ap (λ b. cond b 0 (suc (place order r))) other in
    let rest = place_le order r in
    omega (arith, e, rest))
    (bool_cases (eqb first r))

-- of what an arm asks for, there is cash for all but these resources
abbrev LackThese : Bank → List ℕ → State SourceProcess → Type 0
LackThese bank among s =
    (p a : ℕ) (process : SourceProcess) (root found : Arm) (vars : List ℤ) (new : Arm) (bundle : Bundle)
    → slice_get s.processes p ≡ Some process → process.run ≡ Some root → find a 0 root ≡ Some found
    → step_arm process.vars found ≡ Some (Goes vars new (Takes bundle))
    → All (λ (pair : Pair). cash (banker_state bank s.loans) pair.resource < pair.amount → IsAmong among pair.resource) bundle

module _ (bank : Bank) (by : bank.lends ≡ ByCash) (among order : List ℕ) (s : State SourceProcess) where
  abbrev b : BankerState
  b = banker_state bank s.loans

  module _ (k : IsKept (IsOrdered among order (capital b)) s) (lack : LackThese bank among s) (still : CanGoOn bank source_step s → ⊥) where
    -- all that an arm could do is to take what the cash does not suffice for
    waits : (p a : ℕ) (process : SourceProcess) (root found : Arm) (st : ArmStep)
        → slice_get s.processes p ≡ Some process → process.run ≡ Some root → find a 0 root ≡ Some found
        → step_arm process.vars found ≡ Some st → Waits among (cash b) st
    waits p a process root found (Goes vars new Silent) at runs f e =
        cannot bank s still p a process root found (Goes vars new Silent) at runs f e tt
    waits p a process root found (Goes vars new (Prints v)) at runs f e =
        cannot bank s still p a process root found (Goes vars new (Prints v)) at runs f e tt
    waits p a process root found (Goes vars new (Takes bundle)) at runs f e = ⊎_elim
        (λ enough.
        absurd (cannot bank s still p a process root found (Goes vars new (Takes bundle)) at runs f e
        (subst (λ lends. IsLent lends b p bundle) (sym by) enough)))
        (λ lacking. lacking)
        (lacking_or_not among (cash b) bundle (lack p a process root found vars new bundle at runs f e))
    waits p a process root found (Goes vars new (Returns bundle)) at runs f e =
        cannot bank s still p a process root found (Goes vars new (Returns bundle)) at runs f e tt
    waits p a process root found (Goes vars new (Faults kind)) at runs f e =
        cannot bank s still p a process root found (Goes vars new (Faults kind)) at runs f e tt
    waits p a process root found (Goes vars new Finishes) at runs f e =
        cannot bank s still p a process root found (Goes vars new Finishes) at runs f e tt
    waits p a process root found (Breaks kind) at runs f e =
        cannot bank s still p a process root found (Breaks kind) at runs f e tt
    waits p a process root found Ends at runs f e =
        cannot bank s still p a process root found Ends at runs f e (ending_granted bank s p a)

    tree_stuck : (p : ℕ) (process : SourceProcess) (root : Arm) → slice_get s.processes p ≡ Some process
        → process.run ≡ Some root → IsStuck among (cash b) root
    tree_stuck p process root at runs =
        let tree = k.trees p process root at runs in
        stuck among (cash b) (IsOrdered among order (capital b)) process.vars 0 1 tree.0 [] root (omega arith) tree.1
        (λ a found st f e. waits p a process root found st at runs f e)

    -- whoever holds some of a resource is short of a later one
    holder : (r : ℕ) → cash b r < capital b r → IsShortPast among (cash b) order (capital b) r
    holder r short =
        let some = some_positive (λ p. loan b p r) (everyone b) (omega (arith, short)) in
        process some.0 some.1 (slice_get s.processes some.0) refl
      where
        run : (p : ℕ) (process : SourceProcess) → 0 < held_by_run r process.run
            → slice_get s.processes p ≡ Some process → (o : Option Arm) → process.run ≡ o
            → IsShortPast among (cash b) order (capital b) r
        run p process some at None runs =
            let none = ap (held_by_run r) runs in absurd (omega (arith, some, none))
        run p process some at (Some root) runs =
            let is = ap (held_by_run r) runs in
            let tree = k.trees p process root at runs in
            holder_short among (cash b) order (capital b) r 1 tree.0 [] root (tree_stuck p process root at runs)
            (omega (arith, some, is)) tree.1

        process : (p : ℕ) → 0 < loan b p r → (o : Option SourceProcess) → slice_get s.processes p ≡ o
            → IsShortPast among (cash b) order (capital b) r
        process p some None at =
            let most = k.loans p r in
            let none = ap (held_at r) at in
            absurd (omega (arith, some, most, none))
        process p some (Some sp) at =
            let most = k.loans p r in
            let is = ap (held_at r) at in
            run p sp (omega (arith, some, most, is)) at sp.run refl

    none_short : (m r : ℕ) → length order < place order r + m → IsAmong among r → cash b r < capital b r → ⊥
    none_short zero r u counts short = let l = place_le order r in omega (arith, u, l)
    none_short (suc m) r u counts short =
        let next = holder r short in
        let later = next.later counts next.counts in
        none_short m next.resource (omega (arith, u, later)) next.counts next.lent

    -- so there is no live arm
    none_live : (p : ℕ) (process : SourceProcess) (root : Arm) → slice_get s.processes p ≡ Some process
        → process.run ≡ Some root → is_ended root ≡ false → ⊥
    none_live p process root at runs live =
        let tree = k.trees p process root at runs in
        let short =
        arm_short among (cash b) order (capital b) 1 tree.0 [] root (tree_stuck p process root at runs) live tree.1 in
        none_short (suc (length order)) short.resource (omega arith) short.counts short.lent

    pub all_over : IsFinished source_over s
    all_over p process at = go process.run refl
      where
        go : (o : Option Arm) → process.run ≡ o → source_over process
        go None runs = inl runs
        go (Some (Doing items)) runs = absurd (none_live p process (Doing items) at runs refl)
        go (Some (Waiting line first arms rest)) runs =
            absurd (none_live p process (Waiting line first arms rest) at runs refl)
        go (Some Ended) runs = inr runs

-- what an arm waits for is scarce
lack_these : (tree : ProgramSyntax) (program : Program) (claims : Table) (h : Resolves tree program) (are : AreClaims program claims)
    (picks : List Pick) (events : List Event) (s : State SourceProcess)
    → Makes (source_bank_by ByCash program claims) source_step
    (opening (source_bank_by ByCash program claims) (map source_process program.processes)) picks events s
    → LackThese (source_bank_by ByCash program claims) (scarce claims (capital_of program)) s
lack_these tree program claims h are picks events s made p a process root found vars new bundle at runs f e k d l short =
    let r = (get_or bundle k d).resource in
    let enough = asked_room tree program claims h are picks events s made p a process root found vars new bundle at runs f e k d l in
    ⊎_elim
    (λ inside. ⊎_elim
    (λ free. absurd (let m = enough (λ u. free) in omega (arith, m, short)))
    (λ counts. counts) (free_or_scarce claims (capital_of program) r inside))
    (λ past. absurd (let m = enough (λ u. absurd (omega (arith, u, past))) in omega (arith, m, short)))
    (cases_lt r (length (capital_of program)))

pub orders_of_scarce_prevent : OrdersOfScarcePreventDeadlocks
orders_of_scarce_prevent tree program claims order h are fit follows picks events s makes deadlock =
    let bank = source_bank_by ByCash program claims in
    let among = scarce claims (capital_of program) in
    let each : (p : ℕ) (process : Process) → slice_get program.processes p ≡ Some process
    → IsWellNumbered process × EachHold (IsOrdered among order (λ r. slice_index bank.capital r)) [] process.body =
    λ p process at. (
      (zip_at (ResolvesProcess (resource_names program)) tree.processes program.processes p process h.processes at).2.numbered,
      ordered among order (λ r. slice_index bank.capital r) [] process.body
          (subst (λ (x : Process). EachHold (ComesLaterAmong among order) [] x.body)
          (get_or_from_slice_get program.processes p process process at)
          (follows p process (slice_get_within program.processes p process at)))
          (most_held tree program claims h are fit p process at),
    ) in
    let k = kept (IsOrdered among order (λ r. slice_index bank.capital r)) bank program.processes picks events s each makes in
    deadlock.0 (all_over bank refl among order s k (lack_these tree program claims h are picks events s makes) deadlock.1)

-- an order of all resources is one of the scarce ones
pub orders_prevent : OrdersPreventDeadlocks
orders_prevent tree program claims order h are fit follows =
    orders_of_scarce_prevent tree program claims order h are fit
    (followed_of_some (scarce claims (capital_of program)) order program.processes follows)
