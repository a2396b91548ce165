-- What holds of each instruction of generated code.
use Rattle.std.proofs.Common.{◌≡◌, ℕ, zero, suc, ◌+◌, List, [], ◌∷◌, ◌++◌, length, Some, subst}
use Rattle.std.specs.Prelude.{slice_get}
use Rattle.pb_base.specs.declared.operators.UnaryOp.{UnaryOp}
use Rattle.pb_base.specs.declared.operators.BinaryOp.{BinaryOp}
use Rattle.std.specs.Prelude.{ℤ}
use Rattle.pb_names.specs.Program.{Expr, Number, Variable, Unary, Binary, Stmt, Assign, Print, If, While, Hold}
use Rattle.pb_names.specs.Program.{Parbegin, Block, Skip, Then, count}
use Rattle.pb_code.specs.Code.{Instr, Push, Load, Store, Compute1, Compute2, Jump, JumpIfZero, PrintTop, Take}
use Rattle.pb_code.specs.Code.{Give, Fork, Join, End}
use Rattle.pb_generator.specs.Generate.{expr_code, stmt_code, block_code, arm_code, arms_code}

-- a property of each instruction
abbrev pub EachInstr : (Instr → Type 0) → List Instr → Type 0
EachInstr P [] = Unit {0}
EachInstr P (i ∷ is) = P i × EachInstr P is

pub each_instr-append : (P : Instr → Type 0) (a b : List Instr)
    → EachInstr P a → EachInstr P b → EachInstr P (a ++ b)
each_instr-append P [] b h g = g
each_instr-append P (i ∷ a) b h g = (h.0, each_instr-append P a b h.1 g)

pub each_instr_at : (P : Instr → Type 0) (a : List Instr) (k : ℕ) (i : Instr)
    → EachInstr P a → slice_get a k ≡ Some i → P i
each_instr_at P [] k i h g = cc
each_instr_at P (j ∷ a) zero i h g = let e : Some j ≡ Some i = g in let e' : j ≡ i = cc in subst P e' h.0
each_instr_at P (j ∷ a) (suc k) i h g = each_instr_at P a k i h.1 g

-- a property of all instructions that name no integer, no resource and no arm
pub record IsElsewhere (P : Instr → Type 0) : Type 0 where
  pub push : (v : ℤ) → P (Push v)
  pub compute1 : (op : UnaryOp) → P (Compute1 op)
  pub compute2 : (op : BinaryOp) → P (Compute2 op)
  pub jump : (target : ℕ) → P (Jump target)
  pub test : (target : ℕ) → P (JumpIfZero target)
  pub print : P PrintTop
  pub ends : P End

module _ (P : Instr → Type 0) where
  -- the other instructions of an expression have the property
  abbrev pub NamesExpr : Expr → Type 0
  NamesExpr (Number v) = Unit {0}
  NamesExpr (Variable x) = P (Load x)
  NamesExpr (Unary op a) = NamesExpr a
  NamesExpr (Binary op a b) = NamesExpr a × NamesExpr b

  -- and those of the arm that has a statement
  abbrev mutual
    pub NamesStmt : Stmt → Type 0
    NamesStmt (Assign line x e) = P (Store x) × NamesExpr e
    NamesStmt (Print line e) = NamesExpr e
    NamesStmt (If line e a b) = NamesExpr e × Names a × Names b
    NamesStmt (While line e body) = NamesExpr e × Names body
    NamesStmt (Hold line bundle body) = P (Take bundle) × P (Give bundle) × Names body
    NamesStmt (Parbegin line first arms) = P (Fork first (count arms)) × P (Join first (count arms))

    pub Names : Block → Type 0
    Names Skip = Unit {0}
    Names (Then s block) = NamesStmt s × Names block

  -- and those of each arm
  abbrev pub AllName : List Block → Type 0
  AllName [] = Unit {0}
  AllName (arm ∷ arms) = Names arm × AllName arms

  pub all_name-append : (a b : List Block) → AllName a → AllName b → AllName (a ++ b)
  all_name-append [] b h g = g
  all_name-append (x ∷ a) b h g = (h.0, all_name-append a b h.1 g)

  module _ (elsewhere : IsElsewhere P) where
    each_of_expr : (e : Expr) → NamesExpr e → EachInstr P (expr_code e)
    each_of_expr (Number v) h = (elsewhere.push v, tt)
    each_of_expr (Variable x) h = (h, tt)
    each_of_expr (Unary op a) h =
        each_instr-append P (expr_code a) (Compute1 op ∷ []) (each_of_expr a h) (elsewhere.compute1 op, tt)
    each_of_expr (Binary op a b) h =
        each_instr-append P (expr_code a) (expr_code b ++ (Compute2 op ∷ [])) (each_of_expr a h.0)
        (each_instr-append P (expr_code b) (Compute2 op ∷ []) (each_of_expr b h.1) (elsewhere.compute2 op, tt))

    mutual
      each_of_stmt : (p : ℕ) (s : Stmt) → NamesStmt s → EachInstr P (stmt_code p s)
      each_of_stmt p (Assign line x e) h =
          each_instr-append P (expr_code e) (Store x ∷ []) (each_of_expr e h.1) (h.0, tt)
      each_of_stmt p (Print line e) h =
          each_instr-append P (expr_code e) (PrintTop ∷ []) (each_of_expr e h) (elsewhere.print, tt)
      each_of_stmt p (If line e a b) h =
          let then = p + length (expr_code e) + 1 in
          let other = then + length (block_code then a) + 1 in
          let after = other + length (block_code other b) in
          each_instr-append P (expr_code e)
          (JumpIfZero other ∷ (block_code then a ++ (Jump after ∷ block_code other b))) (each_of_expr e h.0) (
            elsewhere.test other,
            each_instr-append P (block_code then a) (Jump after ∷ block_code other b) (each_of_block then a h.1)
                (elsewhere.jump after, each_of_block other b h.2),
          )
      each_of_stmt p (While line e body) h =
          let start = p + length (expr_code e) + 1 in
          let after = start + length (block_code start body) + 1 in
          each_instr-append P (expr_code e) (JumpIfZero after ∷ (block_code start body ++ (Jump p ∷ [])))
          (each_of_expr e h.0) (
            elsewhere.test after,
            each_instr-append P (block_code start body) (Jump p ∷ []) (each_of_block start body h.1)
                (elsewhere.jump p, tt),
          )
      each_of_stmt p (Hold line bundle body) h = (
        h.0,
        each_instr-append P (block_code (p + 1) body) (Give bundle ∷ []) (each_of_block (p + 1) body h.2)
            (h.1, tt),
      )
      each_of_stmt p (Parbegin line first arms) h = (h.0, (h.1, tt))

      pub each_of_block : (p : ℕ) (block : Block) → Names block → EachInstr P (block_code p block)
      each_of_block p Skip h = tt
      each_of_block p (Then s block) h =
          let next = p + length (stmt_code p s) in
          each_instr-append P (stmt_code p s) (block_code next block) (each_of_stmt p s h.0)
          (each_of_block next block h.1)

    pub each_of_arm : (p : ℕ) (arm : Block) → Names arm → EachInstr P (arm_code p arm)
    each_of_arm p arm h =
        each_instr-append P (block_code p arm) (End ∷ []) (each_of_block p arm h) (elsewhere.ends, tt)

    pub each_of_arms : (p : ℕ) (arms : List Block) → AllName arms → EachInstr P (arms_code p arms)
    each_of_arms p [] h = tt
    each_of_arms p (arm ∷ arms) h =
        let next = p + length (arm_code p arm) in
        each_instr-append P (arm_code p arm) (arms_code next arms) (each_of_arm p arm h.0)
        (each_of_arms next arms h.1)
