-- What each place of generated code holds and needs.
use Rattle.std.proofs.Common.{◌≡◌, ℕ, zero, suc, ◌+◌, ◌≤◌, List, [], ◌∷◌, ◌++◌, length, Some, subst, arith}
use Rattle.std.specs.Prelude.{slice_get}
use Rattle.pb_base.specs.Steppers.{Bundle}
use Rattle.pb_names.specs.Program.{Expr, Number, Variable, Unary, Binary, Stmt, Assign, Print, If, While, Hold}
use Rattle.pb_names.specs.Program.{Parbegin, Block, Skip, Then, count}
use Rattle.pb_names.specs.Claims.{stmt_peak, peak, arms_peak}
use Rattle.pb_code.specs.Code.{Instr, Store, Compute1, Compute2, Jump, JumpIfZero, PrintTop, Give, End}
use Rattle.pb_generator.specs.Generate.{expr_code, stmt_code, block_code, arm_code}
use Rattle.pb_codegen.proofs.VerifiedHeights.{expr_height, stmt_height, height}
use Rattle.pb_codegen.proofs.VerifiedNotedCode.{Shape}
use Rattle.pb_verifier.specs.Faults.{in_holdings, in_joined, sum_of_arms}
use Rattle.pb_codegen.proofs.VerifiedNotes.{shape, expr_shapes, stmt_shapes, block_shapes}

-- a property of each instruction and the shape beside it
abbrev pub Each : (Instr → Shape → Type 0) → List Instr → List Shape → Type 0
Each P [] [] = Unit {0}
Each P [] (s ∷ ss) = ⊥
Each P (i ∷ is) [] = ⊥
Each P (i ∷ is) (s ∷ ss) = P i s × Each P is ss

pub each_append : (P : Instr → Shape → Type 0) (a : List Instr) (s : List Shape) (b : List Instr)
    (t : List Shape)
    → Each P a s → Each P b t → Each P (a ++ b) (s ++ t)
each_append P [] [] b t h g = g
each_append P [] (x ∷ s) b t h g = elim h [ ]
each_append P (i ∷ a) [] b t h g = elim h [ ]
each_append P (i ∷ a) (x ∷ s) b t h g = (h.0, each_append P a s b t h.1 g)

pub each_at : (P : Instr → Shape → Type 0) (a : List Instr) (s : List Shape) (k : ℕ) (i : Instr) (x : Shape)
    → Each P a s → slice_get a k ≡ Some i → slice_get s k ≡ Some x → P i x
each_at P [] s k i x h g f = cc
each_at P (j ∷ a) [] k i x h g f = elim h [ ]
each_at P (j ∷ a) (y ∷ s) zero i x h g f =
    let e : Some j ≡ Some i = g in let e' : j ≡ i = cc in
    let d : Some y ≡ Some x = f in let d' : y ≡ x = cc in
    subst (λ z. P i z) d' (subst (λ z. P z y) e' h.0)
each_at P (j ∷ a) (y ∷ s) (suc k) i x h g f = each_at P a s k i x h.1 g f

module _ (r : ℕ) (most : ℕ → ℕ) where
  -- the arms of each parbegin have the peaks of the one pass
  abbrev mutual
    pub KnownStmt : Stmt → Type 0
    KnownStmt (Assign line x e) = Unit {0}
    KnownStmt (Print line e) = Unit {0}
    KnownStmt (If line e a b) = Known a × Known b
    KnownStmt (While line e body) = Known body
    KnownStmt (Hold line bundle body) = Known body
    KnownStmt (Parbegin line first arms) = sum_of_arms most first (count arms) ≡ arms_peak r arms

    pub Known : Block → Type 0
    Known Skip = Unit {0}
    Known (Then s block) = KnownStmt s × Known block

module _ (r : ℕ) (most : ℕ → ℕ) (bound : ℕ) where
  -- shallow, and within the bound
  abbrev pub Under : Instr → Shape → Type 0
  Under i s =
      (s.depth ≤ 256) × (length s.holdings ≤ 256) × (in_holdings r s.holdings + in_joined most i ≤ bound)

  expr_each : (d : ℕ) (hs : List Bundle) (e : Expr) → d + expr_height e ≤ 256 → length hs ≤ 256
      → in_holdings r hs ≤ bound → Each Under (expr_code e) (expr_shapes d hs e)
  expr_each d hs (Number v) h l u = ((omega (arith, h), l, omega (arith, u)), tt)
  expr_each d hs (Variable x) h l u = ((omega (arith, h), l, omega (arith, u)), tt)
  expr_each d hs (Unary op a) h l u =
      each_append Under (expr_code a) (expr_shapes d hs a) (Compute1 op ∷ []) (shape (suc d) hs ∷ [])
      (expr_each d hs a (omega (arith, h)) l u) ((omega (arith, h), l, omega (arith, u)), tt)
  expr_each d hs (Binary op a b) h l u =
      let some = some_height a in
      each_append Under (expr_code a) (expr_shapes d hs a) (expr_code b ++ (Compute2 op ∷ []))
      (expr_shapes (suc d) hs b ++ (shape (suc (suc d)) hs ∷ [])) (expr_each d hs a (omega (arith, h)) l u)
      (each_append Under (expr_code b) (expr_shapes (suc d) hs b) (Compute2 op ∷ []) (shape (suc (suc d)) hs ∷ [])
      (expr_each (suc d) hs b (omega (arith, h)) l u) ((omega (arith, h, some), l, omega (arith, u)), tt))
    where
      some_height : (e : Expr) → 1 ≤ expr_height e
      some_height (Number v) = omega arith
      some_height (Variable x) = omega arith
      some_height (Unary op a) = omega arith
      some_height (Binary op a b) = omega arith

  mutual
    stmt_each : (p : ℕ) (hs : List Bundle) (s : Stmt) → length hs + stmt_height s ≤ 255
        → in_holdings r hs + stmt_peak r s ≤ bound → KnownStmt r most s
        → Each Under (stmt_code p s) (stmt_shapes hs s)
    stmt_each p hs (Assign line x e) h u k =
        each_append Under (expr_code e) (expr_shapes 0 hs e) (Store x ∷ []) (shape 1 hs ∷ [])
        (expr_each 0 hs e (omega (arith, h)) (omega (arith, h)) (omega (arith, u)))
        ((omega arith, omega (arith, h), omega (arith, u)), tt)
    stmt_each p hs (Print line e) h u k =
        each_append Under (expr_code e) (expr_shapes 0 hs e) (PrintTop ∷ []) (shape 1 hs ∷ [])
        (expr_each 0 hs e (omega (arith, h)) (omega (arith, h)) (omega (arith, u)))
        ((omega arith, omega (arith, h), omega (arith, u)), tt)
    stmt_each p hs (If line e a b) h u k =
        let then = p + length (expr_code e) + 1 in
        let other = then + length (block_code then a) + 1 in
        let after = other + length (block_code other b) in
        each_append Under (expr_code e) (expr_shapes 0 hs e)
        (JumpIfZero other ∷ (block_code then a ++ (Jump after ∷ block_code other b)))
        (shape 1 hs ∷ (block_shapes hs a ++ (shape 0 hs ∷ block_shapes hs b)))
        (expr_each 0 hs e (omega (arith, h)) (omega (arith, h)) (omega (arith, u))) (
          (omega arith, omega (arith, h), omega (arith, u)),
          each_append Under (block_code then a) (block_shapes hs a) (Jump after ∷ block_code other b)
              (shape 0 hs ∷ block_shapes hs b) (block_each then hs a (omega (arith, h)) (omega (arith, u)) k.0)
              ((omega arith, omega (arith, h), omega (arith, u)), block_each other hs b (omega (arith, h)) (omega (arith, u)) k.1),
        )
    stmt_each p hs (While line e body) h u k =
        let start = p + length (expr_code e) + 1 in
        let after = start + length (block_code start body) + 1 in
        each_append Under (expr_code e) (expr_shapes 0 hs e)
        (JumpIfZero after ∷ (block_code start body ++ (Jump p ∷ [])))
        (shape 1 hs ∷ (block_shapes hs body ++ (shape 0 hs ∷ [])))
        (expr_each 0 hs e (omega (arith, h)) (omega (arith, h)) (omega (arith, u))) (
          (omega arith, omega (arith, h), omega (arith, u)),
          each_append Under (block_code start body) (block_shapes hs body) (Jump p ∷ []) (shape 0 hs ∷ [])
              (block_each start hs body (omega (arith, h)) (omega (arith, u)) k)
              ((omega arith, omega (arith, h), omega (arith, u)), tt),
        )
    stmt_each p hs (Hold line bundle body) h u k = (
      (omega arith, omega (arith, h), omega (arith, u)),
      each_append Under (block_code (p + 1) body) (block_shapes (bundle ∷ hs) body) (Give bundle ∷ [])
          (shape 0 (bundle ∷ hs) ∷ [])
          (block_each (p + 1) (bundle ∷ hs) body (omega (arith, h)) (omega (arith, u)) k)
          ((omega arith, omega (arith, h), omega (arith, u)), tt),
    )
    stmt_each p hs (Parbegin line first arms) h u k =
        ((omega arith, omega (arith, h), omega (arith, u)), ((omega arith, omega (arith, h), omega (arith, u, k)), tt))

    block_each : (p : ℕ) (hs : List Bundle) (block : Block) → length hs + height block ≤ 255
        → in_holdings r hs + peak r block ≤ bound → Known r most block
        → Each Under (block_code p block) (block_shapes hs block)
    block_each p hs Skip h u k = tt
    block_each p hs (Then s block) h u k =
        each_append Under (stmt_code p s) (stmt_shapes hs s) (block_code (p + length (stmt_code p s)) block)
        (block_shapes hs block)
        (stmt_each p hs s (omega (arith, h)) (omega (arith, u)) k.0)
        (block_each (p + length (stmt_code p s)) hs block (omega (arith, h)) (omega (arith, u)) k.1)

  pub arm_each : (p : ℕ) (arm : Block) → height arm ≤ 255 → peak r arm ≤ bound → Known r most arm
      → Each Under (arm_code p arm) (block_shapes [] arm ++ (shape 0 [] ∷ []))
  arm_each p arm h u k =
      each_append Under (block_code p arm) (block_shapes [] arm) (End ∷ []) (shape 0 [] ∷ [])
      (block_each p [] arm (omega (arith, h)) (omega (arith, u)) k)
      ((omega arith, omega arith, omega arith), tt)
