-- A program that was resolved from a tree fits its claims, if these fit its capital.
use Rattle.std.proofs.Common.{◌≡◌, ℕ, zero, suc, ◌<◌, ◌≤◌, List, [], ◌∷◌, length, map, get_or, Some, None, subst}
use Rattle.std.proofs.Common.{arith}
use Rattle.std.specs.Prelude.{slice_get}
use Rattle.std.specs.List.{AllZip}
use Rattle.std.proofs.lemmas.List.{length-map}
use Rattle.std.proofs.lemmas.Option.{slice_get_within}
use Rattle.pb_base.specs.Steppers.{Bundle, Table}
use Rattle.pb_base.specs.declared.pair.Pair.{Pair}
use Rattle.pb_names.specs.Meaning.{AreClaims}
use Rattle.pb_names.specs.Program.{Name, Stmt, Block, Arms, Process, Program, Resource, IsWellNumbered}
use Rattle.pb_names.specs.Resolves.{ResolvesDemand, ResolvesStmt, assign, print, if_else, while_do, hold, parbegin}
use Rattle.pb_names.specs.Resolves.{ResolvesStmts}
use Rattle.pb_names.specs.Resolves.{no_stmt, stmt_then, ResolvesArms, no_arm, arm_then, ResolvesProcess}
use Rattle.pb_names.specs.Resolves.{ResolvesResource, Resolves, resource_names}
use Rattle.pb_tree.specs.Syntax as tree
use Rattle.pb_rewrite.specs.Sound.{StmtNames, BlockNames, ArmsName}
use Rattle.pb_rewrite.specs.Sources.{FitsClaims, FitsCapital}

demands_below : (resources : List Name) (demands : List tree.DemandSyntax) (pairs : Bundle) → AllZip (ResolvesDemand resources) demands pairs
    → (k : ℕ) (d : Pair) → k < length pairs → (get_or pairs k d).resource < length resources
demands_below resources demands [] h k d l = absurd (omega arith)
demands_below resources [] (pair ∷ pairs) h k d l = elim h [ ]
demands_below resources (demand ∷ demands) (pair ∷ pairs) h zero d l = slice_get_within resources pair.resource demand.resource.text h.0.resource
demands_below resources (demand ∷ demands) (pair ∷ pairs) h (suc k) d l = demands_below resources demands pairs h.1 k d (omega arith)

mutual
  stmt_names : (integers resources : List Name) (s : tree.StmtSyntax) (s' : Stmt)
      → ResolvesStmt integers resources s s' → StmtNames (length resources) s'
  stmt_names integers resources _ _ (assign line x i e e' is h) = tt
  stmt_names integers resources _ _ (print line e e' h) = tt
  stmt_names integers resources _ _ (if_else line e e' a b a' b' h k l) =
      (block_names integers resources a a' k, block_names integers resources b b' l)
  stmt_names integers resources _ _ (while_do line e e' body body' h k) = block_names integers resources body body' k
  stmt_names integers resources _ _ (hold line demands bundle body body' h k) =
      (demands_below resources demands bundle h.each, block_names integers resources body body' k)
  stmt_names integers resources _ _ (parbegin line first arms arms' few h) = arms_names integers resources arms arms' h

  block_names : (integers resources : List Name) (ss : tree.StmtsSyntax) (block : Block)
      → ResolvesStmts integers resources ss block → BlockNames (length resources) block
  block_names integers resources _ _ no_stmt = tt
  block_names integers resources _ _ (stmt_then s s' ss block h k) =
      (stmt_names integers resources s s' h, block_names integers resources ss block k)

  arms_names : (integers resources : List Name) (arms : tree.ArmsSyntax) (arms' : Arms)
      → ResolvesArms integers resources arms arms' → ArmsName (length resources) arms'
  arms_names integers resources _ _ no_arm = tt
  arms_names integers resources _ _ (arm_then arm arm' arms arms' h k) =
      (block_names integers resources arm arm' h, arms_names integers resources arms arms' k)

abbrev IsFine : ℕ → Process → Type 0
IsFine n process = IsWellNumbered process × BlockNames n process.body

some_same : (x y : Process) → Some x ≡ Some y → x ≡ y
some_same x y h = cc

all_fine : (resources : List Name) (written : List tree.ProcessSyntax) (processes : List Process) → AllZip (ResolvesProcess resources) written processes
    → (p : ℕ) (process : Process) → slice_get processes p ≡ Some process → IsFine (length resources) process
all_fine resources written [] h p process at = (let e : None ≡ Some process = at in cc)
all_fine resources [] (other ∷ processes) h p process at = elim h [ ]
all_fine resources (w ∷ written) (other ∷ processes) h zero process at =
    subst (IsFine (length resources)) (some_same other process at)
    (h.0.numbered, block_names other.integers resources w.body other.body h.0.body)
all_fine resources (w ∷ written) (other ∷ processes) h (suc p) process at = all_fine resources written processes h.1 p process at

all_small : (written : List tree.ResourceSyntax) (resources : List Resource) → AllZip ResolvesResource written resources
    → (k : ℕ) (d : ℕ) → k < length (map (λ resource. resource.capital) resources) → get_or (map (λ resource. resource.capital) resources) k d ≤ 1000000
all_small written [] h k d l = absurd (omega arith)
all_small [] (r ∷ resources) h k d l = elim h [ ]
all_small (w ∷ written) (r ∷ resources) h zero d l = h.0.small
all_small (w ∷ written) (r ∷ resources) h (suc k) d l = all_small written resources h.1 k d (omega arith)

pub resolved_fits : (written : tree.ProgramSyntax) (program : Program) (claims : Table) → Resolves written program
    → AreClaims program claims → FitsCapital program claims → FitsClaims program claims
resolved_fits written program claims h are within =
    let count = length-map program.resources (λ resource. resource.name) in record {
      some = h.some_processes;
      few_resources = h.few_resources;
      small = all_small written.resources program.resources h.resources;
      numbered = λ p process at. (all_fine (resource_names program) written.processes program.processes h.processes p process at).0;
      names = λ p process at.
          subst (λ n. BlockNames n process.body) count
          (all_fine (resource_names program) written.processes program.processes h.processes p process at).1;
      height = are.height;
      width = are.width;
      within = within;
    }
