-- The numbers in the code of a resolved program are those of integers, resources and few arms.
use Rattle.std.proofs.Common.{ℕ, ◌<◌, ◌≤◌, List, length}
use Rattle.std.specs.Prelude.{All}
use Rattle.std.proofs.lemmas.Option.{slice_get_within}
use Rattle.pb_tree.specs.Syntax as tree
use Rattle.pb_names.specs.Program.{Expr, Stmt, Block, Arms, Name, Process, arms_of, arms_in}
use Rattle.pb_names.specs.Program.{arms_list, arms_in_stmt, arms_in_arms}
use Rattle.pb_names.specs.Resolves.{ResolvesExpr, number, variable, unary, binary, ResolvesStmt, assign, print}
use Rattle.pb_names.specs.Resolves.{if_else, while_do, hold, parbegin, ResolvesStmts, no_stmt, stmt_then}
use Rattle.pb_names.specs.Resolves.{ResolvesArms, no_arm, arm_then}
use Rattle.pb_code.specs.Code.{Instr, Load, Store, Take, Give, Fork, Join}
use Rattle.pb_verifier.specs.Limits.{IsUpTo, IsSmallBundle}
use Rattle.pb_generator.specs.Generate.{process_code}
use Rattle.pb_codegen.proofs.TextBundles.{small_bundle}
use Rattle.pb_codegen.proofs.VerifiedInstructions.{IsElsewhere, NamesExpr, NamesStmt, Names, AllName, all_name-append}
use Rattle.pb_codegen.proofs.VerifiedInstructions.{EachInstr, each_of_arms}

-- an instruction names integers, resources and counts of arms that there are
abbrev pub NamesWell : (integers resources : ℕ) → Instr → Type 0
NamesWell integers resources (Load x) = x < integers
NamesWell integers resources (Store x) = x < integers
NamesWell integers resources (Take bundle) = IsSmallBundle bundle × All (λ pair. pair.resource < resources) bundle
NamesWell integers resources (Give bundle) = IsSmallBundle bundle × All (λ pair. pair.resource < resources) bundle
NamesWell integers resources (Fork first n) = IsUpTo 16 n
NamesWell integers resources (Join first n) = IsUpTo 16 n
NamesWell integers resources i = Unit {0}

names_elsewhere : (integers resources : ℕ) → IsElsewhere (NamesWell integers resources)
names_elsewhere integers resources = record {
  push = λ v. tt;
  compute1 = λ op. tt;
  compute2 = λ op. tt;
  jump = λ target. tt;
  test = λ target. tt;
  print = tt;
  ends = tt;
}

module _ (integers resources : List Name) (few : length resources ≤ 16) where
  abbrev Well : Instr → Type 0
  Well = NamesWell (length integers) (length resources)

  names_expr : (e : tree.ExprSyntax) (e' : Expr) → ResolvesExpr integers e e' → NamesExpr Well e'
  names_expr _ _ (number n) = tt
  names_expr _ _ (variable x i is) = slice_get_within integers i x.text is
  names_expr _ _ (unary op e e' h) = names_expr e e' h
  names_expr _ _ (binary op a b a' b' h k) = (names_expr a a' h, names_expr b b' k)

  -- those of the arm that has a statement, and those of the arms inside
  mutual
    names_stmt : (s : tree.StmtSyntax) (s' : Stmt) → ResolvesStmt integers resources s s'
        → NamesStmt Well s' × AllName Well (arms_in_stmt s')
    names_stmt _ _ (assign line x i e e' is h) = ((slice_get_within integers i x.text is, names_expr e e' h), tt)
    names_stmt _ _ (print line e e' h) = (names_expr e e' h, tt)
    names_stmt _ _ (if_else line e e' a b a' b' h k l) =
        let x = names_block a a' k in
        let y = names_block b b' l in
        ((names_expr e e' h, x.0, y.0), all_name-append Well (arms_in a') (arms_in b') x.1 y.1)
    names_stmt _ _ (while_do line e e' body body' h k) =
        let x = names_block body body' k in
        ((names_expr e e' h, x.0), x.1)
    names_stmt _ _ (hold line demands bundle body body' h k) =
        let x = names_block body body' k in
        let small = small_bundle resources demands bundle few h in
        ((small, small, x.0), x.1)
    names_stmt _ _ (parbegin line first arms arms' most h) =
        let x = names_arms arms arms' h in
        ((most, most), all_name-append Well (arms_list arms') (arms_in_arms arms') x.0 x.1)

    pub names_block : (ss : tree.StmtsSyntax) (block : Block) → ResolvesStmts integers resources ss block
        → Names (NamesWell (length integers) (length resources)) block
        × AllName (NamesWell (length integers) (length resources)) (arms_in block)
    names_block _ _ no_stmt = (tt, tt)
    names_block _ _ (stmt_then s s' ss block h k) =
        let x = names_stmt s s' h in
        let y = names_block ss block k in
        ((x.0, y.0), all_name-append Well (arms_in_stmt s') (arms_in block) x.1 y.1)

    names_arms : (arms : tree.ArmsSyntax) (arms' : Arms) → ResolvesArms integers resources arms arms'
        → AllName Well (arms_list arms') × AllName Well (arms_in_arms arms')
    names_arms _ _ no_arm = (tt, tt)
    names_arms _ _ (arm_then arm arm' arms arms' h k) =
        let x = names_block arm arm' h in
        let y = names_arms arms arms' k in
        ((x.0, y.0), all_name-append Well (arms_in arm') (arms_in_arms arms') x.1 y.1)

-- each instruction of a process's code
pub names_well : (resources : List Name) (process : Process) (ss : tree.StmtsSyntax) → length resources ≤ 16
    → ResolvesStmts process.integers resources ss process.body
    → EachInstr (NamesWell (length process.integers) (length resources)) (process_code process).instrs
names_well resources process ss few h =
    let names = names_block process.integers resources few ss process.body h in
    each_of_arms (NamesWell (length process.integers) (length resources))
    (names_elsewhere (length process.integers) (length resources)) 0 (arms_of process) names
