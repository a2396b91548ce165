-- In generated code each fork has its join after it, and each join its fork before it.
use Rattle.std.proofs.Common.{◌≡◌, ℕ, zero, suc, ◌+◌, List, [], ◌∷◌, ◌++◌, length, Some, ap, refl, subst}
use Rattle.std.specs.Prelude.{slice_get}
use Rattle.pb_names.specs.Program.{Expr, Number, Variable, Unary, Binary, Stmt, Assign, Print, If, While, Hold}
use Rattle.pb_names.specs.Program.{Parbegin, Block, Skip, Then, count}
use Rattle.pb_code.specs.Code.{Instr, Push, Load, Store, Compute1, Compute2, Jump, JumpIfZero, PrintTop, Take}
use Rattle.pb_code.specs.Code.{Give, Fork, Join, End}
use Rattle.pb_generator.specs.Generate.{expr_code, stmt_code, block_code, arm_code, arms_code}

-- neither a fork nor a join
abbrev pub IsAlone : Instr → Type 0
IsAlone (Fork first count) = ⊥
IsAlone (Join first count) = ⊥
IsAlone i = Unit {0}

-- instructions that are neither forks nor joins, and forks with their joins
pub data ArePaired : List Instr → Type 0 where
  none : ArePaired []
  alone : (i : Instr) (is : List Instr) → IsAlone i → ArePaired is → ArePaired (i ∷ is)
  both : (first n : ℕ) (is : List Instr) → ArePaired is → ArePaired (Fork first n ∷ Join first n ∷ is)

paired-append : (a b : List Instr) → ArePaired a → ArePaired b → ArePaired (a ++ b)
paired-append _ b none g = g
paired-append _ b (alone i is here h) g = alone i (is ++ b) here (paired-append is b h g)
paired-append _ b (both first n is h) g = both first n (is ++ b) (paired-append is b h g)

one : (i : Instr) → IsAlone i → ArePaired (i ∷ [])
one i h = alone i [] h none

paired_expr : (e : Expr) → ArePaired (expr_code e)
paired_expr (Number v) = one (Push v) tt
paired_expr (Variable x) = one (Load x) tt
paired_expr (Unary op a) =
    paired-append (expr_code a) (Compute1 op ∷ []) (paired_expr a) (one (Compute1 op) tt)
paired_expr (Binary op a b) =
    paired-append (expr_code a) (expr_code b ++ (Compute2 op ∷ [])) (paired_expr a)
    (paired-append (expr_code b) (Compute2 op ∷ []) (paired_expr b) (one (Compute2 op) tt))

mutual
  paired_stmt : (p : ℕ) (s : Stmt) → ArePaired (stmt_code p s)
  paired_stmt p (Assign line x e) = paired-append (expr_code e) (Store x ∷ []) (paired_expr e) (one (Store x) tt)
  paired_stmt p (Print line e) = paired-append (expr_code e) (PrintTop ∷ []) (paired_expr e) (one PrintTop tt)
  paired_stmt p (If line e a b) =
      let then = p + length (expr_code e) + 1 in
      let other = then + length (block_code then a) + 1 in
      let after = other + length (block_code other b) in
      let tail = block_code then a ++ (Jump after ∷ block_code other b) in
      paired-append (expr_code e) (JumpIfZero other ∷ tail) (paired_expr e)
      (alone (JumpIfZero other) tail tt
      (paired-append (block_code then a) (Jump after ∷ block_code other b) (paired_block then a)
      (alone (Jump after) (block_code other b) tt (paired_block other b))))
  paired_stmt p (While line e body) =
      let start = p + length (expr_code e) + 1 in
      let after = start + length (block_code start body) + 1 in
      let tail = block_code start body ++ (Jump p ∷ []) in
      paired-append (expr_code e) (JumpIfZero after ∷ tail) (paired_expr e)
      (alone (JumpIfZero after) tail tt
      (paired-append (block_code start body) (Jump p ∷ []) (paired_block start body) (one (Jump p) tt)))
  paired_stmt p (Hold line bundle body) =
      alone (Take bundle) (block_code (p + 1) body ++ (Give bundle ∷ [])) tt
      (paired-append (block_code (p + 1) body) (Give bundle ∷ []) (paired_block (p + 1) body) (one (Give bundle) tt))
  paired_stmt p (Parbegin line first arms) = both first (count arms) [] none

  paired_block : (p : ℕ) (block : Block) → ArePaired (block_code p block)
  paired_block p Skip = none
  paired_block p (Then s block) =
      let next = p + length (stmt_code p s) in
      paired-append (stmt_code p s) (block_code next block) (paired_stmt p s) (paired_block next block)

paired_arm : (p : ℕ) (arm : Block) → ArePaired (arm_code p arm)
paired_arm p arm = paired-append (block_code p arm) (End ∷ []) (paired_block p arm) (one End tt)

pub paired_arms : (p : ℕ) (arms : List Block) → ArePaired (arms_code p arms)
paired_arms p [] = none
paired_arms p (arm ∷ arms) =
    let next = p + length (arm_code p arm) in
    paired-append (arm_code p arm) (arms_code next arms) (paired_arm p arm) (paired_arms next arms)

-- ---- what this says of a place

pub join_after : (is : List Instr) (place first n : ℕ) → ArePaired is
    → slice_get is place ≡ Some (Fork first n) → slice_get is (suc place) ≡ Some (Join first n)
join_after _ place first n none at = cc
join_after _ zero first n (alone i is here h) at =
    let e : Some i ≡ Some (Fork first n) = at in
    let e' : i ≡ Fork first n = cc in
    elim (subst IsAlone e' here) [ ]
join_after _ (suc place) first n (alone i is here h) at = join_after is place first n h at
join_after _ zero first n (both f m is h) at =
    let e : Some (Fork f m) ≡ Some (Fork first n) = at in
    let same : f ≡ first = cc in
    let as_many : m ≡ n = cc in
    cc
join_after _ (suc zero) first n (both f m is h) at = let e : Some (Join f m) ≡ Some (Fork first n) = at in cc
join_after _ (suc (suc place)) first n (both f m is h) at = join_after is place first n h at

-- a fork is before the join at a place
abbrev pub IsAfterFork : List Instr → (place first n : ℕ) → Type 0
IsAfterFork is place first n =
    (before : ℕ) × (place ≡ suc before) × (slice_get is before ≡ Some (Fork first n))

pub fork_before : (is : List Instr) (place first n : ℕ) → ArePaired is
    → slice_get is place ≡ Some (Join first n) → IsAfterFork is place first n
fork_before _ place first n none at = cc
fork_before _ zero first n (alone i is here h) at =
    let e : Some i ≡ Some (Join first n) = at in
    let e' : i ≡ Join first n = cc in
    elim (subst IsAlone e' here) [ ]
fork_before _ (suc place) first n (alone i is here h) at =
    let w = fork_before is place first n h at in (suc w.0, ap suc w.1, w.2)
fork_before _ zero first n (both f m is h) at = let e : Some (Fork f m) ≡ Some (Join first n) = at in cc
fork_before _ (suc zero) first n (both f m is h) at =
    let e : Some (Join f m) ≡ Some (Join first n) = at in
    let same : f ≡ first = cc in
    let as_many : m ≡ n = cc in
    (0, refl, cc)
fork_before _ (suc (suc place)) first n (both f m is h) at =
    let w = fork_before is place first n h at in (suc (suc w.0), ap suc (ap suc w.1), w.2)
