-- A tree that has a numbered program is within the limits, and has no fault.
use Rattle.std.proofs.Common.{◌≡◌, ℕ, ◌+◌, ◌≤◌, List, [], ◌∷◌, length, arith, ap, refl}
use Rattle.std.specs.List.{AllZip}
use Rattle.std.proofs.lemmas.List.{length-map}
use Rattle.pb_tree.specs.Syntax as tree
use Rattle.pb_names.specs.Program.{Name, Stmt, Block, Arms, Program}
use Rattle.pb_names.specs.Resolves.{ResolvesStmt, assign, print, if_else, while_do, hold, parbegin}
use Rattle.pb_names.specs.Resolves.{ResolvesStmts, no_stmt, stmt_then, ResolvesArms, no_arm, arm_then}
use Rattle.pb_names.specs.Resolves.{ResolvesResource, ResolvesProcess, Resolves, resource_names}
use Rattle.pb_names.specs.Limits.{widest_in_stmt, widest_in, widest_in_arms, inner_arms}
use Rattle.pb_names.specs.Limits.{most, how_many, limit, IsTooMany, IsWithinLimits}
use Rattle.pb_names.specs.Faults.{IsFault}
use Rattle.pb_names.specs.declared.fault.Kind.{Kind}
use Rattle.pb_names.specs.declared.fault.Kind.TheVariants.{Processes, Resources, Integers, Fork, Arms as ArmsKind}
use Rattle.pb_names.specs.declared.fault.NameFault.{NameFault}
use Rattle.pb_names.specs.declared.fault.NameFault.TheVariants.{TooMany, Twice, Unknown, Amount, Repeated, NoMemory}
use Rattle.pb_names.proofs.NoCause.{program_free}
use Rattle.pb_names.proofs.NumberedLists.{count_resolved, inner_of}
use Rattle.pb_names.proofs.Wholes.{same_length}

-- what each process has at most, if each numbered one has
zip_most : {P : Type 0} (R : tree.ProcessSyntax → P → Type 0) (f : tree.ProcessSyntax → ℕ) (n : ℕ)
    → ((w : tree.ProcessSyntax) (p : P) → R w p → f w ≤ n)
    → (ws : List tree.ProcessSyntax) (ps : List P) → AllZip R ws ps → most f ws ≤ n
zip_most R f n each [] [] h = omega arith
zip_most R f n each [] (p ∷ ps) h = absurd h
zip_most R f n each (w ∷ ws) [] h = absurd h
zip_most R f n each (w ∷ ws) (p ∷ ps) h =
    let x = each w p h.0 in
    let y = zip_most R f n each ws ps h.1 in
    omega arith

module _ (integers resources : List Name) where
  -- no parbegin is wider than 16
  mutual
    stmt_narrow : (s : tree.StmtSyntax) (a : Stmt) → ResolvesStmt integers resources s a → widest_in_stmt s ≤ 16
    stmt_narrow _ _ (assign line x i e a is k) = omega arith
    stmt_narrow _ _ (print line e a k) = omega arith
    stmt_narrow _ _ (if_else line e e1 a b a1 b1 k ka kb) =
        let x = narrow a a1 ka in let y = narrow b b1 kb in omega arith
    stmt_narrow _ _ (while_do line e e1 a a1 k ka) = narrow a a1 ka
    stmt_narrow _ _ (hold line ds b a a1 k ka) = narrow a a1 ka
    stmt_narrow _ _ (parbegin line first arms a few k) =
        let x = count_resolved integers resources arms a k in
        let y = arms_narrow arms a k in omega (arith, few.1, x, y)

    narrow : (ss : tree.StmtsSyntax) (a : Block) → ResolvesStmts integers resources ss a → widest_in ss ≤ 16
    narrow _ _ no_stmt = omega arith
    narrow _ _ (stmt_then s s1 ss a k ka) = let x = stmt_narrow s s1 k in let y = narrow ss a ka in omega arith

    arms_narrow : (arms : tree.ArmsSyntax) (a : Arms) → ResolvesArms integers resources arms a → widest_in_arms arms ≤ 16
    arms_narrow _ _ no_arm = omega arith
    arms_narrow _ _ (arm_then arm a1 arms ar k ka) = let x = narrow arm a1 k in let y = arms_narrow arms ar ka in omega arith

pub within_limits : (written : tree.ProgramSyntax) (program : Program) → Resolves written program → IsWithinLimits written
within_limits written program h = record { within = each }
  where
    each : (kind : Kind) → how_many kind written ≤ limit kind
    each Processes = let x = same_length (ResolvesProcess (resource_names program)) written.processes program.processes h.processes in
        let y = h.few_processes in omega arith
    each Resources = let x = same_length ResolvesResource written.resources program.resources h.resources in
        let y = h.few_resources in omega arith
    each Integers = zip_most (ResolvesProcess (resource_names program)) (λ process. length process.integers) 64
        (λ w p r. let x = r.few_integers in let y = ap length r.integers in
        let z = length-map w.integers (λ n. n.text) in omega arith)
        written.processes program.processes h.processes
    each Fork = zip_most (ResolvesProcess (resource_names program)) (λ process. widest_in process.body) 16
        (λ w p r. narrow p.integers (resource_names program) w.body p.body r.body)
        written.processes program.processes h.processes
    each ArmsKind = zip_most (ResolvesProcess (resource_names program)) (λ process. 1 + inner_arms process.body) 64
        (λ w p r. let x = inner_of p.integers (resource_names program) w.body p.body r.body in
        let y = r.few_arms in omega arith)
        written.processes program.processes h.processes

too_many : (p : tree.ProgramSyntax) (a : Kind) → IsWithinLimits p → IsTooMany p a → ⊥
too_many p a w h =
    let few = w.within a in
    let many = h.passed in
    absurd (omega arith)

pub no_fault : (written : tree.ProgramSyntax) (program : Program) (e : NameFault) → Resolves written program
    → (e ≡ NoMemory → ⊥) → IsFault written e → ⊥
no_fault written program (TooMany kind) h other k = too_many written kind (within_limits written program h) k
no_fault written program (Twice at) h other k = program_free written program h _ k.stands
no_fault written program (Unknown at) h other k = program_free written program h _ k.stands
no_fault written program (Amount at) h other k = program_free written program h _ k.stands
no_fault written program (Repeated at) h other k = program_free written program h _ k.stands
no_fault written program NoMemory h other k = other refl
