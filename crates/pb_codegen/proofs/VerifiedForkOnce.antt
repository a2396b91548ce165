-- Each arm of generated code but the first is named by one fork.
use Rattle.std.proofs.Common.{◌≡◌, ℕ, ◌+◌, List, [], ◌∷◌, ◌++◌, length, refl, ap, arith, length-append}
use Rattle.pb_names.specs.Program.{Expr, Number, Variable, Unary, Binary, Stmt, Assign, Print, If, While, Hold}
use Rattle.pb_names.specs.Program.{Parbegin, Block, Skip, Then, Arms, NoArm, AndArm, count, arms_list}
use Rattle.pb_names.specs.Program.{arms_in}
use Rattle.pb_names.specs.Program.{arms_in_stmt, arms_in_arms, IsNumbered, IsNumberedStmt, AreNumbered}
use Rattle.pb_code.specs.Code.{Store, Compute1, Compute2, Jump, JumpIfZero, PrintTop, Give, End}
use Rattle.pb_generator.specs.Generate.{expr_code, stmt_code, block_code, arm_code, arms_code}
use Rattle.pb_codegen.proofs.VerifiedForkCounts.{among, among-add, times_in, times_in-append}
use Rattle.pb_names.proofs.NumberedLists.{length-arms_list}

-- ---- the forks of a block that are not in its arms

abbrev mutual
  own_stmt : ℕ → Stmt → ℕ
  own_stmt b (Assign line x e) = 0
  own_stmt b (Print line e) = 0
  own_stmt b (If line e a c) = own b a + own b c
  own_stmt b (While line e body) = own b body
  own_stmt b (Hold line bundle body) = own b body
  own_stmt b (Parbegin line first arms) = among b first (count arms)

  own : ℕ → Block → ℕ
  own b Skip = 0
  own b (Then s block) = own_stmt b s + own b block

-- and those of some arms
abbrev all_own : ℕ → List Block → ℕ
all_own b [] = 0
all_own b (arm ∷ arms) = own b arm + all_own b arms

all_own-append : (b : ℕ) (xs ys : List Block) → all_own b (xs ++ ys) ≡ all_own b xs + all_own b ys
all_own-append b [] ys = omega arith
all_own-append b (x ∷ xs) ys = let rest = all_own-append b xs ys in omega (arith, rest)

module _ (b : ℕ) where
  times_in-expr : (e : Expr) → times_in b (expr_code e) ≡ 0
  times_in-expr (Number v) = refl
  times_in-expr (Variable x) = refl
  times_in-expr (Unary op a) =
      let x = times_in-expr a in
      let n = times_in-append b (expr_code a) (Compute1 op ∷ []) in
      omega (arith, x, n)
  times_in-expr (Binary op a c) =
      let x = times_in-expr a in
      let y = times_in-expr c in
      let n = times_in-append b (expr_code a) (expr_code c ++ (Compute2 op ∷ [])) in
      let m = times_in-append b (expr_code c) (Compute2 op ∷ []) in
      omega (arith, x, y, n, m)

  mutual
    times_in-stmt : (p : ℕ) (s : Stmt) → times_in b (stmt_code p s) ≡ own_stmt b s
    times_in-stmt p (Assign line x e) =
        let y = times_in-expr e in
        let n = times_in-append b (expr_code e) (Store x ∷ []) in
        omega (arith, y, n)
    times_in-stmt p (Print line e) =
        let y = times_in-expr e in
        let n = times_in-append b (expr_code e) (PrintTop ∷ []) in
        omega (arith, y, n)
    times_in-stmt p (If line e a c) =
        let then = p + length (expr_code e) + 1 in
        let other = then + length (block_code then a) + 1 in
        let after = other + length (block_code other c) in
        let x = times_in-expr e in
        let y = times_in-block then a in
        let z = times_in-block other c in
        let n =
        times_in-append b (expr_code e)
        (JumpIfZero other ∷ (block_code then a ++ (Jump after ∷ block_code other c)))
        in
        let m = times_in-append b (block_code then a) (Jump after ∷ block_code other c) in
        omega (arith, x, y, z, n, m)
    times_in-stmt p (While line e body) =
        let start = p + length (expr_code e) + 1 in
        let after = start + length (block_code start body) + 1 in
        let x = times_in-expr e in
        let y = times_in-block start body in
        let n =
        times_in-append b (expr_code e) (JumpIfZero after ∷ (block_code start body ++ (Jump p ∷ []))) in
        let m = times_in-append b (block_code start body) (Jump p ∷ []) in
        omega (arith, x, y, n, m)
    times_in-stmt p (Hold line bundle body) =
        let y = times_in-block (p + 1) body in
        let m = times_in-append b (block_code (p + 1) body) (Give bundle ∷ []) in
        omega (arith, y, m)
    times_in-stmt p (Parbegin line first arms) = omega arith

    times_in-block : (p : ℕ) (block : Block) → times_in b (block_code p block) ≡ own b block
    times_in-block p Skip = refl
    times_in-block p (Then s block) =
        let next = p + length (stmt_code p s) in
        let x = times_in-stmt p s in
        let y = times_in-block next block in
        let n = times_in-append b (stmt_code p s) (block_code next block) in
        omega (arith, x, y, n)

  times_in-arms : (p : ℕ) (arms : List Block) → times_in b (arms_code p arms) ≡ all_own b arms
  times_in-arms p [] = refl
  times_in-arms p (arm ∷ arms) =
      let next = p + length (arm_code p arm) in
      let x = times_in-block p arm in
      let y = times_in-arms next arms in
      let n = times_in-append b (arm_code p arm) (arms_code next arms) in
      let m = times_in-append b (block_code p arm) (End ∷ []) in
      omega (arith, x, y, n, m)

  -- ---- the numbers of the arms inside are each named once

  mutual
    named_once_stmt : (n : ℕ) (s : Stmt) → IsNumberedStmt n s
        → own_stmt b s + all_own b (arms_in_stmt s) ≡ among b n (length (arms_in_stmt s))
    named_once_stmt n (Assign line x e) h = refl
    named_once_stmt n (Print line e) h = refl
    named_once_stmt n (If line e a c) h =
        let x = named_once n a h.0 in
        let y = named_once (n + length (arms_in a)) c h.1 in
        let split = among-add b n (length (arms_in a)) (length (arms_in c)) in
        let len = ap (among b n) (length-append (arms_in a) (arms_in c)) in
        let sum = all_own-append b (arms_in a) (arms_in c) in
        omega (arith, x, y, split, len, sum)
    named_once_stmt n (While line e body) h = named_once n body h
    named_once_stmt n (Hold line bundle body) h = named_once n body h
    named_once_stmt n (Parbegin line first arms) h =
        let x = named_once_arms (n + count arms) arms h.1 in
        let inner = arms_in_arms arms in
        let split = among-add b n (count arms) (length inner) in
        let len : length (arms_list arms ++ inner) ≡ count arms + length inner =
        omega (arith, length-append (arms_list arms) inner, length-arms_list arms)
        in
        let all = ap (among b n) len in
        let sum = all_own-append b (arms_list arms) inner in
        let here = ap (λ k. among b k (count arms)) h.0 in
        omega (arith, x, split, all, sum, here)

    named_once : (n : ℕ) (block : Block) → IsNumbered n block
        → own b block + all_own b (arms_in block) ≡ among b n (length (arms_in block))
    named_once n Skip h = refl
    named_once n (Then s block) h =
        let x = named_once_stmt n s h.0 in
        let y = named_once (n + length (arms_in_stmt s)) block h.1 in
        let split = among-add b n (length (arms_in_stmt s)) (length (arms_in block)) in
        let len = ap (among b n) (length-append (arms_in_stmt s) (arms_in block)) in
        let sum = all_own-append b (arms_in_stmt s) (arms_in block) in
        omega (arith, x, y, split, len, sum)

    named_once_arms : (n : ℕ) (arms : Arms) → AreNumbered n arms
        → all_own b (arms_list arms) + all_own b (arms_in_arms arms) ≡ among b n (length (arms_in_arms arms))
    named_once_arms n NoArm h = refl
    named_once_arms n (AndArm arm arms) h =
        let x = named_once n arm h.0 in
        let y = named_once_arms (n + length (arms_in arm)) arms h.1 in
        let split = among-add b n (length (arms_in arm)) (length (arms_in_arms arms)) in
        let len = ap (among b n) (length-append (arms_in arm) (arms_in_arms arms)) in
        let sum = all_own-append b (arms_in arm) (arms_in_arms arms) in
        omega (arith, x, y, split, len, sum)

  -- in the code of a body and of the arms inside it
  pub times_in-body : (body : Block) → IsNumbered 1 body
      → times_in b (arms_code 0 (body ∷ arms_in body)) ≡ among b 1 (length (arms_in body))
  times_in-body body h =
      let x = times_in-arms 0 (body ∷ arms_in body) in
      let y = named_once 1 body h in
      omega (arith, x, y)
