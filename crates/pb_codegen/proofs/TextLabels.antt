-- The labels of an accepted program fit its code.
use Rattle.std.proofs.Common.{◌≡◌, ℕ, zero, suc, ◌+◌, List, [], ◌∷◌, ◌++◌, length, replicate, Option, Some}
use Rattle.std.proofs.Common.{None, refl, sym, ap, ◌∙◌, subst, arith, length-append}
use Rattle.std.specs.Prelude.{All, slice_get}
use Rattle.std.proofs.lemmas.List.{length-map}
use Rattle.std.proofs.lemmas.List.Elements.{All-nil, All-cons, All-append, All-map}
use Rattle.pb_tree.specs.Syntax as tree
use Rattle.pb_names.specs.Program.{Stmt, Block, Arms, Name, Process, Program, arms_of, arms_in, arms_list}
use Rattle.pb_names.specs.Program.{arms_in_stmt, arms_in_arms}
use Rattle.pb_names.specs.Resolves.{ResolvesStmt, assign, print, if_else, while_do, hold, parbegin}
use Rattle.pb_names.specs.Resolves.{ResolvesStmts, no_stmt, stmt_then, ResolvesArms, no_arm, arm_then}
use Rattle.pb_names.specs.Resolves.{ResolvesProcess, Resolves, resource_names}
use Rattle.pb_base.specs.Steppers.{Table}
use Rattle.pb_base.proofs.Lists.{get_mapped}
use Rattle.pb_code.specs.Code.{End, ProcessCode}
use Rattle.pb_code.specs.Limits.{IsName, FitLabels, AreLabels}
use Rattle.pb_code.specs.Limits.{IsLine}
use Rattle.pb_code.specs.Whole.{ProcessLabels}
use Rattle.pb_verifier.proofs.LimitTests.{all_at}
use Rattle.pb_codegen.specs.Form.{IsSourceLine, IsFullStmt, IsFull, AreFull, IsFormedProcess, IsFormed}
use Rattle.pb_generator.specs.Generate.{expr_code, block_code, arm_code, arms_code, process_code, program_code}
use Rattle.pb_names.specs.HeadLines.{stmt_line}
use Rattle.pb_generator.specs.Lines.{block_line, stmt_lines, block_lines, arms_lines}
use Rattle.pb_generator.specs.Lines.{process_labels, program_labels}
use Rattle.pb_codegen.proofs.SimulationListings.{length-block_lines}
use Rattle.pb_names.proofs.Holds.{zip_at}

-- ---- a line or none for each place

arm_as_long : (p : ℕ) (arm : Block) → length (block_lines arm None ++ None ∷ []) ≡ length (arm_code p arm)
arm_as_long p arm =
    omega (
      arith,
      length-block_lines p arm None,
      length-append (block_lines arm None) (None ∷ []),
      length-append (block_code p arm) (End ∷ []),
    )

arms_as_long : (p : ℕ) (arms : List Block) → length (arms_lines arms) ≡ length (arms_code p arms)
arms_as_long p [] = refl
arms_as_long p (arm ∷ arms) =
    let next = p + length (arm_code p arm) in
    omega (
      arith,
      arm_as_long p arm,
      arms_as_long next arms,
      length-append (block_lines arm None ++ None ∷ []) (arms_lines arms),
      length-append (arm_code p arm) (arms_code next arms),
    )

-- ---- lines of the text

replicated : (n : ℕ) (line : Option ℕ) → IsLine line → All IsLine (replicate n line)
replicated zero line is = All-nil IsLine
replicated (suc n) line is = All-cons IsLine line (replicate n line) is (replicated n line is)

-- the lines of an arm
abbrev IsLined : Block → Type 0
IsLined arm = All IsLine (block_lines arm None)

abbrev AllLined : List Block → Type 0
AllLined [] = Unit {0}
AllLined (arm ∷ arms) = IsLined arm × AllLined arms

all_lined-append : (a b : List Block) → AllLined a → AllLined b → AllLined (a ++ b)
all_lined-append [] b h g = g
all_lined-append (arm ∷ a) b h g = (h.0, all_lined-append a b h.1 g)

lines_of_arms : (arms : List Block) → AllLined arms → All IsLine (arms_lines arms)
lines_of_arms [] h = All-nil IsLine
lines_of_arms (arm ∷ arms) h =
    All-append IsLine (block_lines arm None ++ None ∷ []) (arms_lines arms)
    (All-append IsLine (block_lines arm None) (None ∷ []) h.0 (All-cons IsLine None [] tt (All-nil IsLine)))
    (lines_of_arms arms h.1)

module _ (integers resources : List Name) where
  begins_on : (s : tree.StmtSyntax) (s' : Stmt) → IsFullStmt s → ResolvesStmt integers resources s s'
      → IsSourceLine (stmt_line s')
  begins_on _ _ full (assign line x i e e' is h) = full
  begins_on _ _ full (print line e e' h) = full
  begins_on _ _ full (if_else line e e' a b a' b' h k l) = full.0
  begins_on _ _ full (while_do line e e' body body' h k) = full.0
  begins_on _ _ full (hold line demands bundle body body' h k) = full.0
  begins_on _ _ full (parbegin line first arms arms' few h) = full.0

  -- if what follows a block has a line or none, so has what follows the statement before it
  line_behind : (ss : tree.StmtsSyntax) (block : Block) (after : Option ℕ) → IsFull ss
      → ResolvesStmts integers resources ss block → IsLine after → IsLine (block_line block after)
  line_behind _ _ after full no_stmt is = is
  line_behind _ _ after full (stmt_then s s' ss block h k) is = begins_on s s' full.0 h

  mutual
    lined_stmt : (s : tree.StmtSyntax) (s' : Stmt) (after : Option ℕ) → IsFullStmt s
        → ResolvesStmt integers resources s s' → IsLine after → All IsLine (stmt_lines s' after)
    lined_stmt _ _ after full (assign line x i e e' u h) is =
        replicated (suc (length (expr_code e'))) (Some line) full
    lined_stmt _ _ after full (print line e e' h) is =
        replicated (suc (length (expr_code e'))) (Some line) full
    lined_stmt _ _ after full (if_else line e e' a b a' b' h k l) is =
        let test = replicate (suc (length (expr_code e'))) (Some line) in
        All-append IsLine test (block_lines a' after ++ (after ∷ block_lines b' after))
        (replicated (suc (length (expr_code e'))) (Some line) full.0)
        (All-append IsLine (block_lines a' after) (after ∷ block_lines b' after)
        (lined_block a a' after full.1 k is)
        (All-cons IsLine after (block_lines b' after) is (lined_block b b' after full.2 l is)))
    lined_stmt _ _ after full (while_do line e e' body body' h k) is =
        let test = replicate (suc (length (expr_code e'))) (Some line) in
        All-append IsLine test (block_lines body' (Some line) ++ (Some line ∷ []))
        (replicated (suc (length (expr_code e'))) (Some line) full.0)
        (All-append IsLine (block_lines body' (Some line)) (Some line ∷ [])
        (lined_block body body' (Some line) full.1 k full.0)
        (All-cons IsLine (Some line) [] full.0 (All-nil IsLine)))
    lined_stmt _ _ after full (hold line demands bundle body body' h k) is =
        All-cons IsLine (Some line) (block_lines body' (Some line) ++ (Some line ∷ [])) full.0
        (All-append IsLine (block_lines body' (Some line)) (Some line ∷ [])
        (lined_block body body' (Some line) full.2 k full.0)
        (All-cons IsLine (Some line) [] full.0 (All-nil IsLine)))
    lined_stmt _ _ after full (parbegin line first arms arms' few h) is =
        All-cons IsLine (Some line) (Some line ∷ []) full.0
        (All-cons IsLine (Some line) [] full.0 (All-nil IsLine))

    lined_block : (ss : tree.StmtsSyntax) (block : Block) (after : Option ℕ) → IsFull ss
        → ResolvesStmts integers resources ss block → IsLine after → All IsLine (block_lines block after)
    lined_block _ _ after full no_stmt is = All-nil IsLine
    lined_block _ _ after full (stmt_then s s' ss block h k) is =
        All-append IsLine (stmt_lines s' (block_line block after)) (block_lines block after)
        (lined_stmt s s' (block_line block after) full.0 h (line_behind ss block after full.1 k is))
        (lined_block ss block after full.1 k is)

  -- the arms inside
  mutual
    inside_stmt : (s : tree.StmtSyntax) (s' : Stmt) → IsFullStmt s → ResolvesStmt integers resources s s'
        → AllLined (arms_in_stmt s')
    inside_stmt _ _ full (assign line x i e e' is h) = tt
    inside_stmt _ _ full (print line e e' h) = tt
    inside_stmt _ _ full (if_else line e e' a b a' b' h k l) =
        all_lined-append (arms_in a') (arms_in b') (inside a a' full.1 k) (inside b b' full.2 l)
    inside_stmt _ _ full (while_do line e e' body body' h k) = inside body body' full.1 k
    inside_stmt _ _ full (hold line demands bundle body body' h k) = inside body body' full.2 k
    inside_stmt _ _ full (parbegin line first arms arms' few h) =
        let x = inside_arms arms arms' full.2 h in
        all_lined-append (arms_list arms') (arms_in_arms arms') x.0 x.1

    inside : (ss : tree.StmtsSyntax) (block : Block) → IsFull ss → ResolvesStmts integers resources ss block
        → AllLined (arms_in block)
    inside _ _ full no_stmt = tt
    inside _ _ full (stmt_then s s' ss block h k) =
        all_lined-append (arms_in_stmt s') (arms_in block) (inside_stmt s s' full.0 h)
        (inside ss block full.1 k)

    inside_arms : (arms : tree.ArmsSyntax) (arms' : Arms) → AreFull arms
        → ResolvesArms integers resources arms arms'
        → AllLined (arms_list arms') × AllLined (arms_in_arms arms')
    inside_arms _ _ full no_arm = (tt, tt)
    inside_arms _ _ full (arm_then arm arm' arms arms' h k) =
        let x = inside_arms arms arms' full.1 k in (
          (lined_block arm arm' None full.0 h tt, x.0),
          all_lined-append (arms_in arm') (arms_in_arms arms') (inside arm arm' full.0 h) x.1,
        )

-- ---- labels

-- those of a process
fitting : (resources : List Name) (written : tree.ProcessSyntax) (process : Process) → IsFormedProcess written
    → ResolvesProcess resources written process → FitLabels (process_code process) (process_labels process)
fitting resources written process formed h = record {
  lines = arms_as_long 0 (arms_of process);
  small_lines = lines_of_arms (arms_of process) (
    lined_block process.integers resources written.body process.body None formed.full h.body tt,
    inside process.integers resources written.body process.body formed.full h.body,
  );
  integers = record {
    all = refl;
    formed =
        subst (All IsName) (sym h.integers)
        (All-map IsName (λ (n : tree.NameSyntax). n.text) written.integers formed.integers);
    apart = h.distinct;
  };
}

pub fitting_labels : (written : tree.ProgramSyntax) (program : Program) (claims : Table) → IsFormed written
    → Resolves written program → AreLabels (program_code program claims) (program_labels program)
fitting_labels written program claims formed h = record {
  all = length-map program.processes process_labels ∙ sym (length-map program.processes process_code);
  each = λ p c l in_code in_labels.
      let x = get_mapped process_code program.processes p c in_code in
      let y = get_mapped process_labels program.processes p l in_labels in
      let both : Some x.0 ≡ Some y.0 = sym x.1 ∙ y.1 in
      let same : x.0 ≡ y.0 = cc in
      subst (λ (code : ProcessCode). FitLabels code l) x.2
      (subst (λ (labels : ProcessLabels). FitLabels (process_code x.0) labels)
      (ap process_labels same ∙ y.2) (at p x.0 x.1));
}
  where
    at : (p : ℕ) (process : Process) → slice_get program.processes p ≡ Some process
        → FitLabels (process_code process) (process_labels process)
    at p process is =
        let w =
        zip_at (ResolvesProcess (resource_names program)) written.processes program.processes p process
        h.processes is
        in
        fitting (resource_names program) w.0 process
        (all_at IsFormedProcess written.processes formed.processes p w.0 w.1) w.2
