-- A tree that has a numbered program has no cause of a fault.
use Rattle.std.proofs.Common.{◌≡◌, ℕ, zero, suc, List, [], ◌∷◌, map, take, Some, arith, ap, sym, ◌∙◌, refl}
use Rattle.std.proofs.Common.{subst, inl, inr}
use Rattle.std.specs.Prelude.{slice_get}
use Rattle.std.specs.List.{AllZip}
use Rattle.std.proofs.lemmas.Option.{slice_get_within, get_or_from_slice_get}
use Rattle.pb_base.specs.Steppers.{Bundle}
use Rattle.pb_tree.specs.Syntax as tree
use Rattle.pb_names.specs.Program.{Name, Expr, Stmt, Block, Arms, Program}
use Rattle.pb_names.specs.Resolves.{texts, AreDistinct, ResolvesExpr, number, variable, unary, binary}
use Rattle.pb_names.specs.Resolves.{ResolvesStmt, assign, print, if_else, while_do, hold, parbegin, ResolvesDemands}
use Rattle.pb_names.specs.Resolves.{ResolvesDemand}
use Rattle.pb_names.specs.Resolves.{ResolvesStmts, no_stmt, stmt_then, ResolvesArms, no_arm, arm_then}
use Rattle.pb_names.specs.Resolves.{ResolvesResource, ResolvesProcess, Resolves, resource_names, process_names}
use Rattle.pb_names.specs.Causes.{Among, IsAgain, InExpr, InDemand, InStmt, InStmts, InArms}
use Rattle.pb_names.specs.Causes.{InInteger, InProgram}
use Rattle.pb_names.specs.declared.causes.Cause.{Cause}
use Rattle.pb_names.specs.declared.causes.Wrong.{Wrong}
use Rattle.pb_names.specs.declared.causes.Wrong.TheVariants.{Twice}
use Rattle.pb_names.proofs.NameNumbers.{take_read, text_read, name_read, taken_texts, taken_names}
use Rattle.pb_names.proofs.OneNumbering.{name_once}
use Rattle.pb_names.proofs.Wholes.{resource_names_kept, process_names_kept}
use Rattle.pb_base.proofs.Lists.{some_same, get_mapped}

-- what an element of the first list was numbered as
pub numbered_at : {W P : Type 0} (R : W → P → Type 0) (ws : List W) (ps : List P) (i : ℕ) (w : W) → AllZip R ws ps
    → slice_get ws i ≡ Some w → (p : P) × (slice_get ps i ≡ Some p) × R w p
numbered_at R [] ps i w h is = absurd (cc)
numbered_at R (x ∷ ws) [] i w h is = absurd h
numbered_at R (x ∷ ws) (p ∷ ps) zero w h is = (p, refl, subst (λ y. R y p) (some_same is) h.0)
numbered_at R (x ∷ ws) (p ∷ ps) (suc i) w h is = numbered_at R ws ps i w h.1 is

-- a name among the first names of a list is before
stands_before : (names : List Name) (n first : ℕ) (x : Name) → AreDistinct names → slice_get (take n names) first ≡ Some x
    → slice_get names n ≡ Some x → ⊥
stands_before names n first x distinct again here =
    let before = take_read names n first x again in
    let same : first ≡ n = name_once names x first n distinct before.1 here in
    let less = before.0 in
    absurd (omega arith)

-- ---- statements

module _ (integers resources : List Name) (known : AreDistinct resources) where
  expr_free : (e : tree.ExprSyntax) (a : Expr) → ResolvesExpr integers e a → (c : Cause) → InExpr integers e c → ⊥
  expr_free _ _ (number n) c h = h
  expr_free _ _ (variable x i is) c h = h.undeclared i is
  expr_free _ _ (unary op e a k) c h = expr_free e a k c h
  expr_free _ _ (binary op e f a b k l) c h = elim h [ inl x ↦ expr_free e a k c x | inr x ↦ expr_free f b l c x ]

  demands_free : (ds : List tree.DemandSyntax) (b : Bundle) → ResolvesDemands resources ds b → (c : Cause)
      → Among (InDemand resources) ds c → ⊥
  demands_free ds b h c k =
      let at = numbered_at (ResolvesDemand resources) ds b k.place k.element h.each k.here in
      elim k.wrong [
        | inl x ↦ x.outside at.0.amount at.2.some at.2.small at.2.amount
        | inr y ↦ elim y [
          | inl x ↦ x.undeclared at.0.resource at.2.resource
          | inr x ↦
              (let all = texts (map (λ d. d.resource) ds) in
              let again = take_read all k.place x.first k.element.resource.text
              (ap (λ ts. slice_get ts x.first) (taken_names (λ d. d.resource) ds k.place) ∙ x.again) in
              let t = get_mapped (λ n. n.text) (map (λ d. d.resource) ds) x.first k.element.resource.text again.1 in
              let d = get_mapped (λ d. d.resource) ds x.first t.0 t.1 in
              let other = numbered_at (ResolvesDemand resources) ds b x.first d.0 h.each d.1 in
              let same_text : d.0.resource.text ≡ k.element.resource.text = ap (λ n. n.text) d.2 ∙ t.2 in
              let same : other.0.resource ≡ at.0.resource = name_once resources k.element.resource.text other.0.resource at.0.resource known
              (other.2.resource ∙ ap Some same_text) at.2.resource in
              h.distinct x.first k.place at.0 again.0 (slice_get_within b k.place at.0 at.1)
              (ap (λ p. p.resource) (get_or_from_slice_get b x.first other.0 at.0 other.1) ∙ same
              ∙ sym (ap (λ p. p.resource) (get_or_from_slice_get b k.place at.0 at.0 at.1))))
        ]
      ]

  mutual
    stmt_free : (s : tree.StmtSyntax) (a : Stmt) → ResolvesStmt integers resources s a → (c : Cause)
        → InStmt integers resources s c → ⊥
    stmt_free _ _ (assign line x i e a is k) c h =
        elim h [ inl y ↦ y.undeclared i is | inr y ↦ expr_free e a k c y ]
    stmt_free _ _ (print line e a k) c h = expr_free e a k c h
    stmt_free _ _ (if_else line e e1 a b a1 b1 k ka kb) c h =
        elim h [
          | inl y ↦ expr_free e e1 k c y
          | inr z ↦ elim z [ inl y ↦ stmts_free a a1 ka c y | inr y ↦ stmts_free b b1 kb c y ]
        ]
    stmt_free _ _ (while_do line e e1 a a1 k ka) c h =
        elim h [ inl y ↦ expr_free e e1 k c y | inr y ↦ stmts_free a a1 ka c y ]
    stmt_free _ _ (hold line ds b a a1 k ka) c h =
        elim h [ inl y ↦ demands_free ds b k c y | inr y ↦ stmts_free a a1 ka c y ]
    stmt_free _ _ (parbegin line first arms a few k) c h = arms_free arms a k c h

    stmts_free : (ss : tree.StmtsSyntax) (a : Block) → ResolvesStmts integers resources ss a → (c : Cause)
        → InStmts integers resources ss c → ⊥
    stmts_free _ _ no_stmt c h = h
    stmts_free _ _ (stmt_then s s1 ss a k ka) c h =
        elim h [ inl y ↦ stmt_free s s1 k c y | inr y ↦ stmts_free ss a ka c y ]

    arms_free : (arms : tree.ArmsSyntax) (a : Arms) → ResolvesArms integers resources arms a → (c : Cause)
        → InArms integers resources arms c → ⊥
    arms_free _ _ no_arm c h = h
    arms_free _ _ (arm_then arm a1 arms ar k ka) c h =
        elim h [ inl y ↦ stmts_free arm a1 k c y | inr y ↦ arms_free arms ar ka c y ]

-- ---- declarations

again_free : {T : Type 0} (name : T → tree.NameSyntax) (xs : List T) (wrong : Wrong) → AreDistinct (texts (map name xs))
    → (c : Cause) (place : ℕ) (x : T) → slice_get xs place ≡ Some x
    → IsAgain wrong (texts (map name (take place xs))) (name x) c → ⊥
again_free name xs wrong distinct c place x here h =
    stands_before (texts (map name xs)) place h.first (name x).text distinct
    (ap (λ ts. slice_get ts h.first) (taken_names name xs place) ∙ h.again) (name_read name xs place x here)

integers_free : (xs : List tree.NameSyntax) → AreDistinct (texts xs) → (c : Cause) → Among InInteger xs c → ⊥
integers_free xs distinct c k =
    stands_before (texts xs) k.place k.wrong.first k.element.text distinct
    (ap (λ ts. slice_get ts k.wrong.first) (taken_texts xs k.place) ∙ k.wrong.again)
    (text_read xs k.place k.element k.here)

-- ---- programs

pub program_free : (written : tree.ProgramSyntax) (program : Program) → Resolves written program → (c : Cause)
    → InProgram written c → ⊥
program_free written program h c k =
    let rs : resource_names program ≡ texts (map (λ r. r.name) written.resources) =
    resource_names_kept written.resources program.resources h.resources in
    let ps : process_names program ≡ texts (map (λ p. p.name) written.processes) =
    process_names_kept (resource_names program) written.processes program.processes h.processes in
    let known = subst AreDistinct rs h.distinct_resources in
    let named = subst AreDistinct ps h.distinct_processes in
    elim k [
      | inl x ↦
          (let at = numbered_at ResolvesResource written.resources program.resources x.place x.element h.resources x.here in
          elim x.wrong [
            | inl y ↦ again_free (λ r. r.name) written.resources Twice known c x.place x.element x.here y
            | inr y ↦ y.outside at.0.capital (omega arith) at.2.small at.2.capital
          ])
      | inr x ↦
          (let at = numbered_at (ResolvesProcess (resource_names program)) written.processes program.processes x.place x.element
          h.processes x.here in
          elim x.wrong [
            | inl y ↦ again_free (λ p. p.name) written.processes Twice named c x.place x.element x.here y
            | inr z ↦ elim z [
              | inl y ↦ integers_free x.element.integers (subst AreDistinct at.2.integers at.2.distinct) c y
              | inr y ↦ stmts_free (texts x.element.integers) (texts (map (λ r. r.name) written.resources)) known
                  x.element.body at.0.body
                  (subst (λ names. ResolvesStmts (texts x.element.integers) names x.element.body at.0.body) rs
                  (subst (λ ints. ResolvesStmts ints (resource_names program) x.element.body at.0.body) at.2.integers at.2.body))
                  c y
            ]
          ])
    ]
