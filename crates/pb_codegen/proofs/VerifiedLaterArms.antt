-- The forks of an arm of generated code name later arms.
use Rattle.std.proofs.Common.{◌≡◌, ℕ, zero, suc, ◌+◌, ◌<◌, ◌≤◌, List, [], ◌∷◌, ◌++◌, length, sym, ap, subst}
use Rattle.std.proofs.Common.{arith}
use Rattle.pb_names.specs.Program.{Stmt, Assign, Print, If, While, Hold, Parbegin, Block, Skip, Then, Arms}
use Rattle.pb_names.specs.Program.{NoArm}
use Rattle.pb_names.specs.Program.{AndArm, Expr, Number, Variable, Unary, Binary, count, arms_list, arms_in}
use Rattle.pb_names.specs.Program.{arms_in_stmt, arms_in_arms, IsNumbered, IsNumberedStmt, AreNumbered}
use Rattle.pb_code.specs.Code.{Instr, Fork}
use Rattle.pb_codegen.proofs.VerifiedInstructions.{IsElsewhere, NamesExpr, NamesStmt, Names}
use Rattle.pb_codegen.proofs.VerifiedArmRanges.{block_at}
use Rattle.pb_names.proofs.NumberedLists.{length-arms_list}

-- an instruction forks only arms from n on
abbrev pub ForksFrom : ℕ → Instr → Type 0
ForksFrom n (Fork first count) = n ≤ first
ForksFrom n i = Unit {0}

pub forks_from_elsewhere : (n : ℕ) → IsElsewhere (ForksFrom n)
forks_from_elsewhere n = record {
  push = λ v. tt;
  compute1 = λ op. tt;
  compute2 = λ op. tt;
  jump = λ target. tt;
  test = λ target. tt;
  print = tt;
  ends = tt;
}

expr_forks : (n : ℕ) (e : Expr) → NamesExpr (ForksFrom n) e
expr_forks n (Number v) = tt
expr_forks n (Variable x) = tt
expr_forks n (Unary op a) = expr_forks n a
expr_forks n (Binary op a b) = (expr_forks n a, expr_forks n b)

-- a block whose arms are numbered from n on forks no earlier one
mutual
  stmt_forks : (n k : ℕ) (s : Stmt) → k ≤ n → IsNumberedStmt n s → NamesStmt (ForksFrom k) s
  stmt_forks n k (Assign line x e) l h = (tt, expr_forks k e)
  stmt_forks n k (Print line e) l h = expr_forks k e
  stmt_forks n k (If line e a b) l h =
      (expr_forks k e, block_forks n k a l h.0, block_forks (n + length (arms_in a)) k b (omega (arith, l)) h.1)
  stmt_forks n k (While line e body) l h = (expr_forks k e, block_forks n k body l h)
  stmt_forks n k (Hold line bundle body) l h = (tt, tt, block_forks n k body l h)
  stmt_forks n k (Parbegin line first arms) l h = let e = h.0 in (omega (arith, e, l), tt)

  block_forks : (n k : ℕ) (block : Block) → k ≤ n → IsNumbered n block → Names (ForksFrom k) block
  block_forks n k Skip l h = tt
  block_forks n k (Then s block) l h =
      (stmt_forks n k s l h.0, block_forks (n + length (arms_in_stmt s)) k block (omega (arith, l)) h.1)

-- ---- each arm forks later ones, if the first has the number n

abbrev ForkLater : ℕ → List Block → Type 0
ForkLater n [] = Unit {0}
ForkLater n (arm ∷ arms) = Names (ForksFrom (suc n)) arm × ForkLater (n + 1) arms

later-append : (n : ℕ) (a b : List Block) → ForkLater n a → ForkLater (n + length a) b → ForkLater n (a ++ b)
later-append n [] b h g = let e : n + 0 ≡ n = omega arith in subst (λ k. ForkLater k b) e g
later-append n (x ∷ a) b h g =
    let e : n + suc (length a) ≡ n + 1 + length a = omega arith in
    (h.0, later-append (n + 1) a b h.1 (subst (λ k. ForkLater k b) e g))

-- the arms of a parbegin, if those inside them are numbered from a later number on
later_list : (n m : ℕ) (arms : Arms) → n + count arms ≤ m → AreNumbered m arms → ForkLater n (arms_list arms)
later_list n m NoArm l h = tt
later_list n m (AndArm arm arms) l h = (
  block_forks m (suc n) arm (omega (arith, l)) h.0,
  later_list (n + 1) (m + length (arms_in arm)) arms (omega (arith, l)) h.1,
)

mutual
  later_stmt : (n : ℕ) (s : Stmt) → IsNumberedStmt n s → ForkLater n (arms_in_stmt s)
  later_stmt n (Assign line x e) h = tt
  later_stmt n (Print line e) h = tt
  later_stmt n (If line e a b) h =
      later-append n (arms_in a) (arms_in b) (later_block n a h.0) (later_block (n + length (arms_in a)) b h.1)
  later_stmt n (While line e body) h = later_block n body h
  later_stmt n (Hold line bundle body) h = later_block n body h
  later_stmt n (Parbegin line first arms) h =
      let e : n + count arms ≡ n + length (arms_list arms) = ap (λ k. n + k) (sym (length-arms_list arms)) in
      later-append n (arms_list arms) (arms_in_arms arms) (later_list n (n + count arms) arms (omega arith) h.1)
      (subst (λ k. ForkLater k (arms_in_arms arms)) e (later_arms (n + count arms) arms h.1))

  later_block : (n : ℕ) (block : Block) → IsNumbered n block → ForkLater n (arms_in block)
  later_block n Skip h = tt
  later_block n (Then s block) h =
      later-append n (arms_in_stmt s) (arms_in block) (later_stmt n s h.0)
      (later_block (n + length (arms_in_stmt s)) block h.1)

  later_arms : (n : ℕ) (arms : Arms) → AreNumbered n arms → ForkLater n (arms_in_arms arms)
  later_arms n NoArm h = tt
  later_arms n (AndArm arm arms) h =
      later-append n (arms_in arm) (arms_in_arms arms) (later_block n arm h.0)
      (later_arms (n + length (arms_in arm)) arms h.1)

at_number : (n a : ℕ) (arms : List Block) → a < length arms → ForkLater n arms
    → Names (ForksFrom (suc (n + a))) (block_at arms a)
at_number n a [] u h = absurd (omega (arith, u))
at_number n zero (arm ∷ arms) u h =
    let e : n ≡ n + 0 = omega arith in subst (λ k. Names (ForksFrom (suc k)) arm) e h.0
at_number n (suc a) (arm ∷ arms) u h =
    let e : n + 1 + a ≡ n + suc a = omega arith in
    subst (λ k. Names (ForksFrom (suc k)) (block_at arms a)) e (at_number (n + 1) a arms (omega (arith, u)) h.1)

-- of a body and the arms inside it
pub forks_later : (body : Block) (a : ℕ) → IsNumbered 1 body → a < length (body ∷ arms_in body)
    → Names (ForksFrom (suc a)) (block_at (body ∷ arms_in body) a)
forks_later body a h u =
    let e : 0 + a ≡ a = omega arith in
    subst (λ k. Names (ForksFrom (suc k)) (block_at (body ∷ arms_in body) a)) e
    (at_number 0 a (body ∷ arms_in body) u (block_forks 1 1 body (omega arith) h, later_block 1 body h))
