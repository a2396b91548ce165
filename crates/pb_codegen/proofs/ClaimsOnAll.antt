-- The claims of a resolved program are its claims on all resources: it holds none that isn't there.
use Rattle.std.proofs.Common.{◌≡◌, ◌≢◌, ◌⊎◌, inl, inr, ℕ, ◌<◌, ◌≤◌, List, length, Some, sym, ◌∙◌, subst}
use Rattle.std.proofs.Common.{arith}
use Rattle.std.specs.Prelude.{slice_get}
use Rattle.std.proofs.lemmas.Bool.{cases_lt}
use Rattle.std.proofs.lemmas.List.{get_or_past, length-map}
use Rattle.std.proofs.lemmas.List.Elements.{All-weaker}
use Rattle.std.proofs.lemmas.Option.{slice_get_within}
use Rattle.pb_base.specs.declared.pair.Pair.{Pair}
use Rattle.pb_base.specs.Banker.{cell, row_of}
use Rattle.pb_base.specs.Bundle.{amount_in}
use Rattle.pb_base.specs.Steppers.{Bundle, Table}
use Rattle.pb_base.proofs.LoanRows.{amount_in-absent}
use Rattle.pb_tree.specs.Syntax as tree
use Rattle.pb_names.specs.Claims.{IsClaim, stmt_peak, peak, arms_peak}
use Rattle.pb_names.specs.Meaning.{AreClaims}
use Rattle.pb_names.specs.Program.{Name, Stmt, Block, Arms, Process, Resource, Program}
use Rattle.pb_names.specs.Resolves.{ResolvesDemands, ResolvesStmt, assign, print, if_else, while_do, hold}
use Rattle.pb_names.specs.Resolves.{parbegin}
use Rattle.pb_names.specs.Resolves.{ResolvesStmts, no_stmt, stmt_then, ResolvesArms, no_arm, arm_then}
use Rattle.pb_names.specs.Resolves.{ResolvesProcess, Resolves, resource_names}
use Rattle.pb_claims.proofs.OnePass.{is_claim}
use Rattle.pb_names.proofs.Holds.{numbers_below, zip_at}

module _ (integers resources : List Name) (r : ℕ) (past : length resources ≤ r) where
  none_of_demands : (demands : List tree.DemandSyntax) (bundle : Bundle)
      → ResolvesDemands resources demands bundle
      → amount_in bundle r ≡ 0
  none_of_demands demands bundle h =
      amount_in-absent bundle r
      (All-weaker (λ (pair : Pair). pair.resource < length resources) (λ (pair : Pair). pair.resource ≢ r)
      (λ pair u same. omega (arith, u, same, past)) bundle (numbers_below resources demands bundle h.each))

  mutual
    stmt_none : (s : tree.StmtSyntax) (s' : Stmt) → ResolvesStmt integers resources s s' → stmt_peak r s' ≡ 0
    stmt_none _ _ (assign line x i e e' is h) = omega arith
    stmt_none _ _ (print line e e' h) = omega arith
    stmt_none _ _ (if_else line e e' a b a' b' h k l) =
        let f = none_held a a' k in
        let g = none_held b b' l in
        omega (arith, f, g)
    stmt_none _ _ (while_do line e e' body body' h k) = none_held body body' k
    stmt_none _ _ (hold line demands bundle body body' h k) =
        let f = none_of_demands demands bundle h in
        let g = none_held body body' k in
        omega (arith, f, g)
    stmt_none _ _ (parbegin line first arms arms' few h) = arms_none arms arms' h

    pub none_held : (ss : tree.StmtsSyntax) (block : Block) → ResolvesStmts integers resources ss block
        → peak r block ≡ 0
    none_held _ _ no_stmt = omega arith
    none_held _ _ (stmt_then s s' ss block h k) =
        let f = stmt_none s s' h in
        let g = none_held ss block k in
        omega (arith, f, g)

    arms_none : (arms : tree.ArmsSyntax) (arms' : Arms) → ResolvesArms integers resources arms arms'
        → arms_peak r arms' ≡ 0
    arms_none _ _ no_arm = omega arith
    arms_none _ _ (arm_then arm arm' arms arms' h k) =
        let f = none_held arm arm' h in
        let g = arms_none arms arms' k in
        omega (arith, f, g)

pub all_claims : (tree : tree.ProgramSyntax) (program : Program) (claims : Table) → Resolves tree program
    → AreClaims program claims → (p r : ℕ) (process : Process) → slice_get program.processes p ≡ Some process
    → IsClaim process r (cell claims p r)
all_claims tree program claims h are p r process at = go (cases_lt r (length program.resources))
  where
    go : (r < length program.resources) ⊎ (length program.resources ≤ r) → IsClaim process r (cell claims p r)
    go (inl u) = are.each p r process at u
    go (inr u) =
        let resources = resource_names program in
        let w =
        zip_at (ResolvesProcess resources) tree.processes program.processes p process h.processes at in
        let n = length-map program.resources (λ (resource : Resource). resource.name) in
        let there = slice_get_within program.processes p process at in
        let height = are.height in
        let wide = are.width p (omega (arith, there, height)) in
        let zero : cell claims p r ≡ 0 = get_or_past (row_of claims p) r 0 (omega (arith, wide, u)) in
        let none =
        none_held process.integers resources r (omega (arith, n, u)) w.0.body process.body w.2.body in
        subst (IsClaim process r) (none ∙ sym zero) (is_claim process r)
