-- A tree has at most one numbered program.
use Rattle.std.proofs.Common.{◌≡◌, ℕ, ◌+◌, ◌<◌, List, [], ◌∷◌, map, length, Some, arith, ap, sym, ◌∙◌, refl, subst}
use Rattle.std.proofs.Common.{suc, pos}
use Rattle.std.specs.Prelude.{slice_get}
use Rattle.std.proofs.lemmas.Option.{slice_get_within, get_or_from_slice_get}
use Rattle.pb_tree.specs.Syntax as tree
use Rattle.pb_names.specs.Program.{Name, Expr, Variable, Unary}
use Rattle.pb_names.specs.Program.{Stmt, Print, Block, Arms}
use Rattle.pb_names.specs.Program.{IsNumberedStmt, IsNumbered, AreNumbered, arms_in, arms_in_stmt, count}
use Rattle.pb_names.specs.Resolves.{AreDistinct, ResolvesExpr, number, variable, unary, binary}
use Rattle.pb_names.specs.Resolves.{ResolvesStmt, assign, print, if_else, while_do, hold, parbegin}
use Rattle.pb_names.specs.Resolves.{ResolvesStmts, no_stmt, stmt_then, ResolvesArms, no_arm, arm_then}
use Rattle.pb_base.specs.Steppers.{Bundle}
use Rattle.pb_base.specs.declared.pair.Pair.{Pair}
use Rattle.std.specs.List.{AllZip}
use Rattle.pb_names.specs.Resolves.{ResolvesDemand, ResolvesResource, ResolvesProcess, Resolves, resource_names}
use Rattle.pb_names.specs.Program.{Resource, Process, Program}

not_below : (names : List Name) (x : Name) (i j : ℕ) → AreDistinct names
    → slice_get names i ≡ Some x → slice_get names j ≡ Some x → i < j → ⊥
not_below names x i j d h k less =
    let below = slice_get_within names j x k in
    d i j [] less below (get_or_from_slice_get names i x [] h ∙ sym (get_or_from_slice_get names j x [] k))

pub name_once : (names : List Name) (x : Name) (i j : ℕ) → AreDistinct names
    → slice_get names i ≡ Some x → slice_get names j ≡ Some x → i ≡ j
name_once names x i j d h k =
    let a = not_below names x i j d h k in
    let b = not_below names x j i d k h in
    omega arith

module _ (integers : List Name) (distinct : AreDistinct integers) where
  expr_once : (e : tree.ExprSyntax) (a b : Expr) → ResolvesExpr integers e a → ResolvesExpr integers e b → a ≡ b
  expr_once _ _ _ (number n) (number _) = refl
  expr_once _ _ _ (variable x i h) (variable _ j k) = ap Variable (name_once integers x.text i j distinct h k)
  expr_once _ _ _ (unary op e a h) (unary _ _ b k) = ap (Unary op) (expr_once e a b h k)
  expr_once _ _ _ (binary op e f a b h k) (binary _ _ _ a' b' h' k') =
      let x = expr_once e a a' h h' in
      let y = expr_once f b b' k k' in
      rw (x, y) refl

  module _ (resources : List Name) (known : AreDistinct resources) where
    demand_once : (d : tree.DemandSyntax) (p q : Pair) → ResolvesDemand resources d p → ResolvesDemand resources d q → p ≡ q
    demand_once d p q h k =
        let x : p.resource ≡ q.resource = name_once resources d.resource.text p.resource q.resource known h.resource k.resource in
        let y : pos p.amount ≡ pos q.amount = sym h.amount ∙ k.amount in
        let z : p.amount ≡ q.amount = cc in
        let e : p ≡ record { resource = q.resource; amount = q.amount } = rw (sym x, sym z) refl in
        e

    demands_once : (ds : List tree.DemandSyntax) (a b : Bundle) → AllZip (ResolvesDemand resources) ds a
        → AllZip (ResolvesDemand resources) ds b → a ≡ b
    demands_once [] [] [] h k = refl
    demands_once [] [] (q ∷ b) h k = absurd k
    demands_once [] (p ∷ a) b h k = absurd h
    demands_once (d ∷ ds) [] b h k = absurd h
    demands_once (d ∷ ds) (p ∷ a) [] h k = absurd k
    demands_once (d ∷ ds) (p ∷ a) (q ∷ b) h k =
        let x = demand_once d p q h.0 k.0 in
        let y = demands_once ds a b h.1 k.1 in
        rw (x, y) refl

    count_once : (arms : tree.ArmsSyntax) (a b : Arms) → ResolvesArms integers resources arms a
        → ResolvesArms integers resources arms b → count a ≡ count b
    count_once _ _ _ no_arm no_arm = refl
    count_once _ _ _ (arm_then arm a arms ar h k) (arm_then _ b _ bs h' k') = ap suc (count_once arms ar bs k k')

    mutual
      stmt_once : (n : ℕ) (s : tree.StmtSyntax) (a b : Stmt) → ResolvesStmt integers resources s a → IsNumberedStmt n a
          → ResolvesStmt integers resources s b → IsNumberedStmt n b → a ≡ b
      stmt_once n _ _ _ (assign line x i e a h k) m (assign _ _ j _ b h' k') m' =
          let p = name_once integers x.text i j distinct h h' in
          let q = expr_once e a b k k' in
          rw (p, q) refl
      stmt_once n _ _ _ (print line e a h) m (print _ _ b k) m' = ap (Print line) (expr_once e a b h k)
      stmt_once n _ _ _ (if_else line e e1 a b a1 b1 h ha hb) m (if_else _ _ e2 _ _ a2 b2 k ka kb) m' =
          let x = expr_once e e1 e2 h k in
          let y = stmts_once n a a1 a2 ha m.0 ka m'.0 in
          let z = stmts_once (n + length (arms_in a1)) b b1 b2 hb m.1 kb
          (subst (λ c. IsNumbered (n + length (arms_in c)) b2) (sym y) m'.1) in
          rw (x, y, z) refl
      stmt_once n _ _ _ (while_do line e e1 a a1 h ha) m (while_do _ _ e2 _ a2 k ka) m' =
          let x = expr_once e e1 e2 h k in
          let y = stmts_once n a a1 a2 ha m ka m' in
          rw (x, y) refl
      stmt_once n _ _ _ (hold line ds p a a1 h ha) m (hold _ _ q _ a2 k ka) m' =
          let x = demands_once ds p q h.each k.each in
          let y = stmts_once n a a1 a2 ha m ka m' in
          rw (x, y) refl
      stmt_once n _ _ _ (parbegin line f arms a few h) m (parbegin _ g _ b few' k) m' =
          let x : f ≡ g = m.0 ∙ sym m'.0 in
          let c = count_once arms a b h k in
          let y = arms_once (n + count a) arms a b h m.1 k (subst (λ c. AreNumbered (n + c) b) (sym c) m'.1) in
          rw (x, y) refl

      stmts_once : (n : ℕ) (ss : tree.StmtsSyntax) (a b : Block) → ResolvesStmts integers resources ss a → IsNumbered n a
          → ResolvesStmts integers resources ss b → IsNumbered n b → a ≡ b
      stmts_once n _ _ _ no_stmt m no_stmt m' = refl
      stmts_once n _ _ _ (stmt_then s s1 ss a h ha) m (stmt_then _ s2 _ b k kb) m' =
          let x = stmt_once n s s1 s2 h m.0 k m'.0 in
          let y = stmts_once (n + length (arms_in_stmt s1)) ss a b ha m.1 kb
          (subst (λ c. IsNumbered (n + length (arms_in_stmt c)) b) (sym x) m'.1) in
          rw (x, y) refl

      arms_once : (n : ℕ) (arms : tree.ArmsSyntax) (a b : Arms) → ResolvesArms integers resources arms a → AreNumbered n a
          → ResolvesArms integers resources arms b → AreNumbered n b → a ≡ b
      arms_once n _ _ _ no_arm m no_arm m' = refl
      arms_once n _ _ _ (arm_then arm a1 arms ar h k) m (arm_then _ b1 _ bs h' k') m' =
          let x = stmts_once n arm a1 b1 h m.0 h' m'.0 in
          let y = arms_once (n + length (arms_in a1)) arms ar bs k m.1 k'
          (subst (λ c. AreNumbered (n + length (arms_in c)) bs) (sym x) m'.1) in
          rw (x, y) refl

resource_once : (w : tree.ResourceSyntax) (p q : Resource) → ResolvesResource w p → ResolvesResource w q → p ≡ q
resource_once w p q h k =
    let x : p.name ≡ q.name = h.name ∙ sym k.name in
    let y : pos p.capital ≡ pos q.capital = sym h.capital ∙ k.capital in
    let z : p.capital ≡ q.capital = cc in
    let e : p ≡ record { name = q.name; capital = q.capital } = rw (sym x, sym z) refl in
    e

process_once : (resources : List Name) → AreDistinct resources → (w : tree.ProcessSyntax) (p q : Process)
    → ResolvesProcess resources w p → ResolvesProcess resources w q → p ≡ q
process_once resources known w p q h k =
    let n : p.name ≡ q.name = h.name ∙ sym k.name in
    let i : p.integers ≡ q.integers = h.integers ∙ sym k.integers in
    let b : p.body ≡ q.body = stmts_once p.integers h.distinct resources known 1 w.body p.body q.body h.body h.numbered
    (subst (λ x. ResolvesStmts x resources w.body q.body) (sym i) k.body) k.numbered in
    let e : p ≡ record { name = q.name; integers = q.integers; body = q.body } = rw (sym n, sym i, sym b) refl in
    e

zip_once : {W P : Type 0} (R : W → P → Type 0) → ((w : W) (p q : P) → R w p → R w q → p ≡ q)
    → (ws : List W) (ps qs : List P) → AllZip R ws ps → AllZip R ws qs → ps ≡ qs
zip_once R once [] [] [] h k = refl
zip_once R once [] [] (q ∷ qs) h k = absurd k
zip_once R once [] (p ∷ ps) qs h k = absurd h
zip_once R once (w ∷ ws) [] qs h k = absurd h
zip_once R once (w ∷ ws) (p ∷ ps) [] h k = absurd k
zip_once R once (w ∷ ws) (p ∷ ps) (q ∷ qs) h k =
    let x = once w p q h.0 k.0 in
    let y = zip_once R once ws ps qs h.1 k.1 in
    rw (x, y) refl

pub resolves_once : (written : tree.ProgramSyntax) (p q : Program) → Resolves written p → Resolves written q → p ≡ q
resolves_once written p q h k =
    let r : p.resources ≡ q.resources = zip_once ResolvesResource resource_once written.resources p.resources q.resources
    h.resources k.resources in
    let names : resource_names p ≡ resource_names q = ap (map (λ resource. resource.name)) r in
    let ps : p.processes ≡ q.processes = zip_once (ResolvesProcess (resource_names p))
    (process_once (resource_names p) h.distinct_resources) written.processes p.processes q.processes h.processes
    (subst (λ x. AllZip (ResolvesProcess x) written.processes q.processes) (sym names) k.processes) in
    let e : p ≡ record { resources = q.resources; processes = q.processes } = rw (sym r, sym ps) refl in
    e
