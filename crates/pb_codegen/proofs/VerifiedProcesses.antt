-- What is known of each process of an accepted program.
use Rattle.std.proofs.Common.{◌≡◌, ℕ, zero, suc, ◌≤◌, List, [], ◌∷◌, length, Some, ap, arith}
use Rattle.std.specs.Prelude.{All, slice_get}
use Rattle.std.specs.List.{AllZip}
use Rattle.std.proofs.lemmas.List.{length-map}
use Rattle.pb_tree.specs.Syntax.{ProcessSyntax, ProgramSyntax}
use Rattle.pb_tree.specs.Measure.{stmts_nodes, processes_nodes, stmts_height, processes_height}
use Rattle.pb_parser.specs.Limits.{IsSmallTree}
use Rattle.pb_names.specs.Program.{Name, Process, Resource, Program, AllWellNumbered}
use Rattle.pb_names.specs.Resolves.{Resolves, ResolvesProcess, ResolvesResource, resource_names}
use Rattle.pb_code.specs.Code.{Instr, Fork}
use Rattle.pb_verifier.specs.Faults.{HasForks}
use Rattle.pb_verifier.specs.Places.{InstrAt}
use Rattle.pb_verifier.proofs.LimitTests.{all_from, all_at}
use Rattle.pb_codegen.specs.Form.{IsFormed, IsFormedProcess}
use Rattle.pb_generator.specs.Generate.{process_code}
use Rattle.pb_generator.specs.Sizes.{IsGeneratableProcess, IsGeneratable}
use Rattle.pb_codegen.proofs.VerifiedForks.{has_forks}
use Rattle.pb_codegen.proofs.VerifiedHeights.{height, height-resolved}
use Rattle.pb_codegen.proofs.VerifiedInstructions.{each_instr_at}
use Rattle.pb_codegen.proofs.VerifiedLengths.{code_length}
use Rattle.pb_codegen.proofs.VerifiedNumbers.{NamesWell, names_well}
use Rattle.pb_names.proofs.Holds.{zip_at}

-- the arms of each process are numbered
pub well_numbered : (resources : List Name) (written : List ProcessSyntax) (processes : List Process)
    → AllZip (ResolvesProcess resources) written processes → AllWellNumbered processes
well_numbered resources [] [] h = tt
well_numbered resources [] (process ∷ processes) h = elim h [ ]
well_numbered resources (w ∷ written) [] h = elim h [ ]
well_numbered resources (w ∷ written) (process ∷ processes) h =
    (h.0.numbered, well_numbered resources written processes h.1)

-- the tree of a process
pub record HasTree (resources : List Name) (process : Process) : Type 0 where
  pub written : ProcessSyntax
  pub resolves : ResolvesProcess resources written process
  pub few_nodes : stmts_nodes written.body ≤ 16384
  pub low : stmts_height written.body ≤ 200

nodes_at : (ps : List ProcessSyntax) (k : ℕ) (p : ProcessSyntax) → slice_get ps k ≡ Some p
    → stmts_nodes p.body ≤ processes_nodes ps
nodes_at [] k p at = cc
nodes_at (q ∷ ps) zero p at =
    let e : Some q ≡ Some p = at in
    let same : q ≡ p = cc in
    let n = ap (λ (x : ProcessSyntax). stmts_nodes x.body) same in
    omega (arith, n)
nodes_at (q ∷ ps) (suc k) p at = let rest = nodes_at ps k p at in omega (arith, rest)

height_at : (ps : List ProcessSyntax) (k : ℕ) (p : ProcessSyntax) → slice_get ps k ≡ Some p
    → stmts_height p.body ≤ processes_height ps
height_at [] k p at = cc
height_at (q ∷ ps) zero p at =
    let e : Some q ≡ Some p = at in
    let same : q ≡ p = cc in
    let n = ap (λ (x : ProcessSyntax). stmts_height x.body) same in
    omega (arith, n)
height_at (q ∷ ps) (suc k) p at = let rest = height_at ps k p at in omega (arith, rest)

-- the limits of a tree are those of each process
limits_at : (tree : ProgramSyntax) (k : ℕ) (p : ProcessSyntax) → IsSmallTree tree
    → slice_get tree.processes k ≡ Some p
    → (stmts_nodes p.body ≤ 16384) × (stmts_height p.body ≤ 200)
limits_at tree k p limits at =
    let n = nodes_at tree.processes k p at in
    let m = height_at tree.processes k p at in
    let nodes = limits.nodes in
    let low = limits.height in
    (omega (arith, n, nodes), omega (arith, m, low))

pub small_capital : (tree : ProgramSyntax) (program : Program) → Resolves tree program
    → All (λ resource. resource.capital ≤ 1000000) program.resources
small_capital tree program h =
    all_from (λ (resource : Resource). resource.capital ≤ 1000000) program.resources (λ k resource at.
    (zip_at ResolvesResource tree.resources program.resources k resource h.resources at).2.small)

module _ (tree : ProgramSyntax) (program : Program) (limits : IsSmallTree tree) (h : Resolves tree program) where
  abbrev resources : List Name
  resources = resource_names program

  tree_of : (p : ℕ) (process : Process) → slice_get program.processes p ≡ Some process
      → HasTree resources process
  tree_of p process at =
      let w = zip_at (ResolvesProcess resources) tree.processes program.processes p process h.processes at in
      let u = limits_at tree p w.0 limits w.1 in
      record { written = w.0; resolves = w.2; few_nodes = u.0; low = u.1 }

  pub generatable : IsGeneratable program
  generatable = record {
    few_processes = h.few_processes;
    few_resources = h.few_resources;
    small = small_capital tree program h;
    each = all_from IsGeneratableProcess program.processes (λ k process at. small k process at);
  }
    where
      small : (p : ℕ) (process : Process) → slice_get program.processes p ≡ Some process
          → IsGeneratableProcess process
      small p process at =
          let t = tree_of p process at in
          let len = code_length resources process t.written.body t.resolves.body in
          let nodes = t.few_nodes in
          let few = t.resolves.few_arms in
          record {
            small = omega (arith, len, nodes, few);
            few_integers = t.resolves.few_integers;
            few_arms = few;
          }

-- a process whose tree has the form that the grammar gives
pub record IsFine (resources : List Name) (process : Process) : Type 0 where
  pub tree : HasTree resources process
  pub formed : IsFormedProcess tree.written
  pub few_resources : length resources ≤ 16

pub fine_process : (tree : ProgramSyntax) (program : Program) → IsFormed tree → IsSmallTree tree
    → Resolves tree program → (p : ℕ) (process : Process) → slice_get program.processes p ≡ Some process
    → IsFine (resource_names program) process
fine_process tree program formed limits h p process at =
    let w = zip_at (ResolvesProcess (resource_names program)) tree.processes program.processes p process h.processes at in
    let n = length-map program.resources (λ (resource : Resource). resource.name) in
    let few = h.few_resources in
    let u = limits_at tree p w.0 limits w.1 in
    record {
      tree = record { written = w.0; resolves = w.2; few_nodes = u.0; low = u.1 };
      formed = all_at IsFormedProcess tree.processes formed.processes p w.0 w.1;
      few_resources = omega (arith, n, few);
    }

module _ (resources : List Name) (process : Process) (fine : IsFine resources process) where
  pub low : height process.body ≤ 200
  low =
      let e = height-resolved process.integers resources fine.tree.written.body process.body fine.tree.resolves.body in
      let u = fine.tree.low in
      omega (arith, e, u)

  pub names_at : (place : ℕ) (i : Instr) → InstrAt (process_code process) place i
      → NamesWell (length process.integers) (length resources) i
  names_at place i at =
      each_instr_at (NamesWell (length process.integers) (length resources)) (process_code process).instrs place i
      (names_well resources process fine.tree.written.body fine.few_resources fine.tree.resolves.body) at

  pub sound_forks : HasForks (process_code process)
  sound_forks =
      has_forks process fine.tree.resolves.numbered (λ place first n at. (names_at place (Fork first n) at).0)
