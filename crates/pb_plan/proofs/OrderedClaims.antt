-- Each hold of an accepted program asks for no more than there is.
use Rattle.std.proofs.Common.{◌≡◌, ◌≢◌, ⊎_elim, ℕ, ◌<◌, ◌≤◌, List, ◌++◌, length, Some, arith}
use Rattle.std.specs.Prelude.{slice_get, slice_index}
use Rattle.std.proofs.lemmas.Bool.{cases_lt}
use Rattle.std.proofs.lemmas.List.{length-map}
use Rattle.std.proofs.lemmas.List.Elements.{All-weaker}
use Rattle.std.proofs.lemmas.Option.{slice_get_within}
use Rattle.pb_base.proofs.LoanRows.{amount_in-absent}
use Rattle.pb_base.specs.Bundle.{amount_in}
use Rattle.pb_base.specs.declared.pair.Pair.{Pair}
use Rattle.pb_base.specs.Steppers.{Bundle, Table}
use Rattle.pb_claims.proofs.OnePass.{is_claim}
use Rattle.pb_claims.specs.Fits.{FitCapital}
use Rattle.pb_names.proofs.Holds.{numbers_below, zip_at}
use Rattle.pb_names.specs.Claims.{stmt_peak, peak, arms_peak}
use Rattle.pb_names.specs.Meaning.{AreClaims}
use Rattle.pb_names.specs.Program.{Name, Stmt, Assign, Print, If, While, Hold, Parbegin, Block, Skip, Then, Arms}
use Rattle.pb_names.specs.Program.{NoArm, AndArm, Process, Resource, Program, capital_of}
use Rattle.pb_names.specs.Resolves.{ResolvesDemands, ResolvesStmt, assign, print, if_else, while_do, hold, parbegin}
use Rattle.pb_names.specs.Resolves.{ResolvesStmts, no_stmt, stmt_then, ResolvesArms, no_arm, arm_then, ResolvesProcess}
use Rattle.pb_names.specs.Resolves.{Resolves, resource_names}
use Rattle.pb_plan.proofs.OrderedDeadlocks.{IsOrdered}
use Rattle.pb_plan.specs.Orders.{EachHoldOf, EachHold, EachHoldAmong}
use Rattle.pb_plan.specs.Scarce.{ComesLaterAmong}
use Rattle.pb_tree.specs.Syntax as tree

-- ---- what is asked for is part of the most that is held

module _ (among order : List ℕ) (capital : ℕ → ℕ) where
  mutual
    stmt_ordered : (outer : Bundle) (s : Stmt) → EachHoldOf (ComesLaterAmong among order) outer s
        → ((r : ℕ) → stmt_peak r s ≤ capital r) → EachHoldOf (IsOrdered among order capital) outer s
    stmt_ordered outer (Assign line x e) h most = tt
    stmt_ordered outer (Print line e) h most = tt
    stmt_ordered outer (If line e a b) h most = (
      ordered outer a h.0 (λ r. let m = most r in omega (arith, m)),
      ordered outer b h.1 (λ r. let m = most r in omega (arith, m)),
    )
    stmt_ordered outer (While line e body) h most = ordered outer body h most
    stmt_ordered outer (Hold line bundle body) h most = (
      record { later = h.0; within = λ r. let m = most r in omega (arith, m) },
      ordered (bundle ++ outer) body h.1 (λ r. let m = most r in omega (arith, m)),
    )
    stmt_ordered outer (Parbegin line first arms) h most = arms_ordered outer arms h most

    pub ordered : (outer : Bundle) (block : Block) → EachHold (ComesLaterAmong among order) outer block
        → ((r : ℕ) → peak r block ≤ capital r) → EachHold (IsOrdered among order capital) outer block
    ordered outer Skip h most = tt
    ordered outer (Then s block) h most = (
      stmt_ordered outer s h.0 (λ r. let m = most r in omega (arith, m)),
      ordered outer block h.1 (λ r. let m = most r in omega (arith, m)),
    )

    arms_ordered : (outer : Bundle) (arms : Arms) → EachHoldAmong (ComesLaterAmong among order) outer arms
        → ((r : ℕ) → arms_peak r arms ≤ capital r) → EachHoldAmong (IsOrdered among order capital) outer arms
    arms_ordered outer NoArm h most = tt
    arms_ordered outer (AndArm arm arms) h most = (
      ordered outer arm h.0 (λ r. let m = most r in omega (arith, m)),
      arms_ordered outer arms h.1 (λ r. let m = most r in omega (arith, m)),
    )

-- ---- nothing is held of a resource that is not there

module _ (integers resources : List Name) (r : ℕ) (past : length resources ≤ r) where
  none_of_demands : (demands : List tree.DemandSyntax) (bundle : Bundle)
      → ResolvesDemands resources demands bundle → amount_in bundle r ≡ 0
  none_of_demands demands bundle h =
      amount_in-absent bundle r
      (All-weaker (λ (pair : Pair). pair.resource < length resources) (λ (pair : Pair). pair.resource ≢ r)
      (λ pair u same. omega (arith, u, same, past)) bundle (numbers_below resources demands bundle h.each))

  mutual
    stmt_none : (s : tree.StmtSyntax) (s' : Stmt) → ResolvesStmt integers resources s s' → stmt_peak r s' ≡ 0
    stmt_none _ _ (assign line x i e e' is h) = omega arith
    stmt_none _ _ (print line e e' h) = omega arith
    stmt_none _ _ (if_else line e e' a b a' b' h k l) =
        let f = none_held a a' k in
        let g = none_held b b' l in
        omega (arith, f, g)
    stmt_none _ _ (while_do line e e' body body' h k) = none_held body body' k
    stmt_none _ _ (hold line demands bundle body body' h k) =
        let f = none_of_demands demands bundle h in
        let g = none_held body body' k in
        omega (arith, f, g)
    stmt_none _ _ (parbegin line first arms arms' few h) = arms_none arms arms' h

    none_held : (ss : tree.StmtsSyntax) (block : Block) → ResolvesStmts integers resources ss block
        → peak r block ≡ 0
    none_held _ _ no_stmt = omega arith
    none_held _ _ (stmt_then s s' ss block h k) =
        let f = stmt_none s s' h in
        let g = none_held ss block k in
        omega (arith, f, g)

    arms_none : (arms : tree.ArmsSyntax) (arms' : Arms) → ResolvesArms integers resources arms arms'
        → arms_peak r arms' ≡ 0
    arms_none _ _ no_arm = omega arith
    arms_none _ _ (arm_then arm arm' arms arms' h k) =
        let f = none_held arm arm' h in
        let g = arms_none arms arms' k in
        omega (arith, f, g)

-- ---- the most that is held is within the capital

module _ (tree : tree.ProgramSyntax) (program : Program) (claims : Table) (h : Resolves tree program)
    (are : AreClaims program claims) (fit : FitCapital claims (capital_of program)) where
  pub most_held : (p : ℕ) (process : Process) → slice_get program.processes p ≡ Some process
      → (r : ℕ) → peak r process.body ≤ slice_index (capital_of program) r
  most_held p process at r = ⊎_elim there past (cases_lt r (length program.resources))
    where
      there : r < length program.resources → peak r process.body ≤ slice_index (capital_of program) r
      there u =
          let greatest = (is_claim process r).1 in
          let most = (are.each p r process at u).0 greatest.0 greatest.1 in
          let is = greatest.2 in
          let n = length-map program.resources (λ (resource : Resource). resource.capital) in
          let inside = slice_get_within program.processes p process at in
          let rows = are.height in
          let enough = fit p (omega (arith, inside, rows)) r (omega (arith, u, n)) in
          omega (arith, most, is, enough)

      past : length program.resources ≤ r → peak r process.body ≤ slice_index (capital_of program) r
      past u =
          let n = length-map program.resources (λ (resource : Resource). resource.name) in
          let w =
          zip_at (ResolvesProcess (resource_names program)) tree.processes program.processes p process h.processes at in
          let none =
          none_held process.integers (resource_names program) r (omega (arith, n, u)) w.0.body process.body w.2.body in
          omega (arith, none)
