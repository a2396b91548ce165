-- The measure of one more statement, arm or process.
use Rattle.std.proofs.Common.{◌≡◌, ℕ, ◌+◌, max, List, [], ◌∷◌, sym, subst, arith}
use Rattle.pb_tree.specs.Syntax.{StmtSyntax, StmtsSyntax, ArmsSyntax, ProcessSyntax, no_stmt, stmt_then, no_arm}
use Rattle.pb_tree.specs.Syntax.{arm_then}
use Rattle.pb_tree.specs.Measure.{stmt_height, stmts_height, arms_height, processes_height, stmt_nodes, stmts_nodes}
use Rattle.pb_tree.specs.Measure.{arms_nodes, processes_nodes}
use Rattle.pb_parser.specs.declared.measure.Measure.{Measure}
use Rattle.pb_grammar.specs.Lists.{append, append_arms, single, single_arm}
use Rattle.pb_parser.specs.Measured.{IsMeasure}
use Rattle.pb_grammar.specs.StatementReader.{concat}

-- the same measure, of numbers that are equal
as_measured : (m : Measure) (h n k l : ℕ) → h ≡ k → n ≡ l → IsMeasure m k l → IsMeasure m h n
as_measured m h n k l p q is = subst (λ x. IsMeasure m x n) (sym p) (subst (λ x. IsMeasure m k x) (sym q) is)

stmts_high : (a : StmtsSyntax) (s : StmtSyntax) → stmts_height (append a (single s)) ≡ max (stmts_height a) (stmt_height s)
stmts_high no_stmt s = omega arith
stmts_high (stmt_then x a) s = omega (arith, stmts_high a s)

stmts_many : (a : StmtsSyntax) (s : StmtSyntax) → stmts_nodes (append a (single s)) ≡ stmts_nodes a + stmt_nodes s
stmts_many no_stmt s = omega arith
stmts_many (stmt_then x a) s = omega (arith, stmts_many a s)

arms_high : (a : ArmsSyntax) (s : StmtsSyntax) → arms_height (append_arms a (single_arm s)) ≡ max (arms_height a) (stmts_height s)
arms_high no_arm s = omega arith
arms_high (arm_then x a) s = omega (arith, arms_high a s)

arms_many : (a : ArmsSyntax) (s : StmtsSyntax) → arms_nodes (append_arms a (single_arm s)) ≡ arms_nodes a + stmts_nodes s
arms_many no_arm s = omega arith
arms_many (arm_then x a) s = omega (arith, arms_many a s)

processes_high : (ps : List ProcessSyntax) (p : ProcessSyntax)
    → processes_height (concat ps (p ∷ [])) ≡ max (processes_height ps) (stmts_height p.body)
processes_high [] p = omega arith
processes_high (q ∷ ps) p = omega (arith, processes_high ps p)

processes_many : (ps : List ProcessSyntax) (p : ProcessSyntax)
    → processes_nodes (concat ps (p ∷ [])) ≡ processes_nodes ps + (1 + stmts_nodes p.body)
processes_many [] p = omega arith
processes_many (q ∷ ps) p = omega (arith, processes_many ps p)

pub stmt_measured : (m : Measure) (a : StmtsSyntax) (s : StmtSyntax)
    → IsMeasure m (max (stmts_height a) (stmt_height s)) (stmts_nodes a + stmt_nodes s)
    → IsMeasure m (stmts_height (append a (single s))) (stmts_nodes (append a (single s)))
stmt_measured m a s is = as_measured m _ _ _ _ (stmts_high a s) (stmts_many a s) is

pub arm_measured : (m : Measure) (a : ArmsSyntax) (s : StmtsSyntax)
    → IsMeasure m (max (arms_height a) (stmts_height s)) (arms_nodes a + stmts_nodes s)
    → IsMeasure m (arms_height (append_arms a (single_arm s))) (arms_nodes (append_arms a (single_arm s)))
arm_measured m a s is = as_measured m _ _ _ _ (arms_high a s) (arms_many a s) is

pub process_measured : (m : Measure) (ps : List ProcessSyntax) (p : ProcessSyntax)
    → IsMeasure m (max (processes_height ps) (stmts_height p.body)) (processes_nodes ps + (1 + stmts_nodes p.body))
    → IsMeasure m (processes_height (concat ps (p ∷ []))) (processes_nodes (concat ps (p ∷ [])))
process_measured m ps p is = as_measured m _ _ _ _ (processes_high ps p) (processes_many ps p) is
