-- The holds of a program ask for its own resources; what is found of its order and of what is lacking.
use Rattle.std.proofs.Common.{◌≡◌, ◌⊎◌, inl, inr, ⊎_elim, ℕ, ◌<◌, List, [], ◌++◌, Option, Some, None, length, get_or, subst, sym, arith}
use Rattle.std.specs.Prelude.{All, IfNone, IfOk, IfSome, MatchOption, Result, Ok, Err, option_map}
use Rattle.std.specs.List.{range_with_len}
use Rattle.std.specs.List.Sorted.{IsPermutation}
use Rattle.std.proofs.lemmas.List.{length-map}
use Rattle.std.proofs.lemmas.List.Sorted.{All-permutation}
use Rattle.std.proofs.lemmas.Option.{slice_get-get_or}
use Rattle.pb_base.proofs.Groups.{range_below}
use Rattle.pb_base.specs.Steppers.{Bundle, Table}
use Rattle.pb_names.proofs.Holds.{numbers_below, zip_at}
use Rattle.pb_names.specs.Program.{Arms, Block, Name, Process, Program, Stmt, capital_of}
use Rattle.pb_names.specs.Resolves.{Resolves, ResolvesArms, ResolvesProcess, ResolvesStmt, ResolvesStmts, resource_names}
use Rattle.pb_names.specs.Resolves.{arm_then, assign, hold, if_else, no_arm, no_stmt, parbegin, print, stmt_then, while_do}
use Rattle.pb_tree.specs.Syntax.{ArmsSyntax, ProgramSyntax, StmtSyntax, StmtsSyntax}
use Rattle.pb_plan.proofs.Columns.{free_or_bottleneck}
use Rattle.pb_plan.proofs.EachHolds.{followed_of_none}
use Rattle.pb_plan.proofs.ScarceLemmas.{none_scarce, scarce_there}
use Rattle.pb_plan.specs.Needs.{IsBottleneck}
use Rattle.pb_plan.specs.Nests.{AskBelow, IsOrder}
use Rattle.pb_plan.specs.Orders.{EachHold, EachHoldAmong, EachHoldOf, IsFollowed}
use Rattle.pb_plan.specs.Scarce.{IsFollowedAmong}
use Rattle.pb_plan_engine.specs.Plans.{HasNoOrder, HasNoOrderAmong, IsOrderAmong, IsOrderIfAny, IsOrderOf, scarce_of}

module _ (integers resources : List Name) where
  abbrev Below : (around asked : Bundle) → Type 0
  Below around asked = All (λ pair. pair.resource < length resources) asked

  mutual
    stmt_below : (around : Bundle) (s : StmtSyntax) (s' : Stmt) → ResolvesStmt integers resources s s' → EachHoldOf Below around s'
    stmt_below around _ _ (assign line x i e e' number of) = tt
    stmt_below around _ _ (print line e e' of) = tt
    stmt_below around _ _ (if_else line e e' a b a' b' of one two) = (block_below around a a' one, block_below around b b' two)
    stmt_below around _ _ (while_do line e e' body body' of inside) = block_below around body body' inside
    stmt_below around _ _ (hold line demands bundle body body' pairs inside) =
        (numbers_below resources demands bundle pairs.each, block_below (bundle ++ around) body body' inside)
    stmt_below around _ _ (parbegin line first arms arms' few inside) = arms_below around arms arms' inside

    block_below : (around : Bundle) (ss : StmtsSyntax) (block : Block) → ResolvesStmts integers resources ss block
        → EachHold Below around block
    block_below around _ _ no_stmt = tt
    block_below around _ _ (stmt_then s s' ss block one rest) = (stmt_below around s s' one, block_below around ss block rest)

    arms_below : (around : Bundle) (arms : ArmsSyntax) (arms' : Arms) → ResolvesArms integers resources arms arms'
        → EachHoldAmong Below around arms'
    arms_below around _ _ no_arm = tt
    arms_below around _ _ (arm_then arm arm' arms arms' one rest) =
        (block_below around arm arm' one, arms_below around arms arms' rest)

-- the processes of a program ask only for its resources
pub ask_below : (tree : ProgramSyntax) (program : Program) → Resolves tree program
    → AskBelow (length program.resources) program.processes
ask_below tree program is k d within =
    let from = zip_at (ResolvesProcess (resource_names program)) tree.processes program.processes k (get_or program.processes k d)
    is.processes (slice_get-get_or program.processes k d within) in
    let process = get_or program.processes k d in
    let below = block_below process.integers (resource_names program) [] from.0.body process.body from.2.body in
    subst (λ (n : ℕ). EachHold (λ around asked. All (λ pair. pair.resource < n) asked) [] process.body)
    (length-map program.resources (λ resource. resource.name)) below

-- each resource of an order is one of these many
pub order_below : (n : ℕ) (order : List ℕ) → IsOrder n order → All (λ r. r < n) order
order_below n order is =
    All-permutation (λ r. r < n) (range_with_len 0 n) order is
    (λ k d within. let b = range_below 0 n k d within in omega (arith, b))

-- each scarce resource of a program is there
pub scarce_below : (program : Program) (claims : Table) → All (λ r. r < length program.resources) (scarce_of program claims)
scarce_below program claims =
    subst (λ (n : ℕ). All (λ r. r < n) (scarce_of program claims)) (length-map program.resources (λ resource. resource.capital))
    (scarce_there claims (capital_of program))

-- an order of all resources that was found
pub whole_order : {X : Type 0} (items : X → List ℕ) (x : X) (n : ℕ) (processes : List Process) (program : Program)
    → n ≡ length program.resources → processes ≡ program.processes → IsOrder n (items x) → IsFollowed (items x) processes
    → IsOrderOf program (items x)
whole_order items x n processes program many same is followed = record {
  all = subst (λ (k : ℕ). IsOrder k (items x)) many is;
  followed = subst (IsFollowed (items x)) same followed;
}

-- none of all, by what was not found
pub no_whole : (processes : List Process) (program : Program) → processes ≡ program.processes
    → ((order : List ℕ) → IsFollowed order processes → ⊥) → HasNoOrder program
no_whole processes program same none order is = none order (subst (IsFollowed order) (sym same) is)

-- an order of some resources that was looked for, if there is none of all
pub of_some : {X E : Type 0} (items : X → List ℕ) (result : Result (Option X) E) (among : List ℕ) (processes : List Process) (program : Program)
    → processes ≡ program.processes → HasNoOrder program
    → IfOk result (λ found. IfSome found (λ x. IsPermutation among (items x)))
    → IfOk result (λ found. IfSome found (λ x. IsFollowedAmong among (items x) processes))
    → IfOk result (λ found. IfNone found ((other : List ℕ) → IsFollowedAmong among other processes → ⊥))
    → IfOk result (λ found. IsOrderIfAny program among (option_map items found))
of_some items (Ok (Some x)) among processes program same lacks is followed none =
    inr (lacks, record { all = is; followed = subst (IsFollowedAmong among (items x)) same followed })
of_some items (Ok None) among processes program same lacks is followed none =
    λ other of. none other (subst (IsFollowedAmong among other) (sym same) of)
of_some items (Err e) among processes program same lacks is followed none = tt

-- each resource of an order, if there is one, is there
pub found_below : {X : Type 0} (items : X → List ℕ) (found : Option X) (program : Program) (claims : Table) (n : ℕ)
    → length program.resources ≡ n → IsOrderIfAny program (scarce_of program claims) (option_map items found)
    → IfSome found (λ x. All (λ r. r < n) (items x))
found_below items (Some x) program claims n same (inl is) =
    subst (λ (k : ℕ). All (λ r. r < k) (items x)) same (order_below (length program.resources) (items x) is.all)
found_below items (Some x) program claims n same (inr is) =
    subst (λ (k : ℕ). All (λ r. r < k) (items x)) same
    (All-permutation (λ r. r < length program.resources) (scarce_of program claims) (items x) is.1.all (scarce_below program claims))
found_below items None program claims n same is = tt

-- if nothing was found, there is no order
pub no_order : {X : Type 0} (items : X → List ℕ) (found : Option X) (program : Program) (among : List ℕ) → found ≡ None
    → IsOrderIfAny program among (option_map items found) → HasNoOrderAmong program among
no_order items None program among same none = none
no_order items (Some x) program among same is = absurd cc

-- an order that was found is one
pub an_order : {X : Type 0} (items : X → List ℕ) (found : Option X) (x : X) (program : Program) (among : List ℕ) → found ≡ Some x
    → IsOrderIfAny program among (option_map items found) → IsOrderOf program (items x) ⊎ IsOrderAmong program among (items x)
an_order {X} items (Some y) x program among same is =
    let e : y ≡ x = cc in
    subst (λ (z : X). IsOrderOf program (items z) ⊎ IsOrderAmong program among (items z)) e
    (⊎_elim (λ all. inl all) (λ some. inr some.1) is)
an_order items None x program among same is = absurd cc

-- without an order of the scarce resources one of them is the bottleneck
pub some_bottleneck : (program : Program) (claims : Table) → HasNoOrderAmong program (scarce_of program claims)
    → (r : ℕ) × IsBottleneck claims (capital_of program) r
some_bottleneck program claims none = ⊎_elim
    (λ free.
    absurd (none [] (followed_of_none (scarce_of program claims) [] program.processes (none_scarce claims (capital_of program) free))))
    (λ most. most) (free_or_bottleneck claims (capital_of program))

-- no order was found
pub none_of : {X : Type 0} {P : Type 0} (found : Option X) → found ≡ None → IfNone found P → P
none_of None same none = none
none_of (Some x) same none = absurd cc

-- a circle belongs to a plan without an order, and no circle to one with an order
pub not_closed : {X Y : Type 0} (items : X → List ℕ) (Closed : Type 0) (circle : List Y) (found : Option X) (x : X)
    → found ≡ Some x → circle ≡ [] → MatchOption (option_map items found) Closed (λ some. circle ≡ [])
not_closed items Closed circle (Some y) x same empty = empty
not_closed items Closed circle None x same empty = absurd cc

pub is_closed : {X : Type 0} (items : X → List ℕ) (Closed Empty : Type 0) (found : Option X) → found ≡ None → Closed
    → MatchOption (option_map items found) Closed (λ some. Empty)
is_closed items Closed Empty None same is = is
is_closed items Closed Empty (Some x) same is = absurd cc

-- what was found has what is said of it
pub some_of : {X : Type 0} (P : X → Type 0) (found : Option X) (x : X) → found ≡ Some x → IfSome found P → P x
some_of P (Some y) x same is = let e : y ≡ x = cc in subst P e is
some_of P None x same is = absurd cc
