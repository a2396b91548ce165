-- A part of a program is smaller than the whole, so a recursion down a program ends.
use Rattle.std.proofs.Common.{◌≡◌, ℕ, ◌+◌, ◌<◌, ◌≤◌, ◌∙◌, List, Vec, length, get_or, arith, ap}
use Rattle.pb_names.specs.Program as plain
use Rattle.pb_names.specs.Program.{Assign, Print, If, While, Hold, Block, Skip, Then, Arms, NoArm, AndArm}
use Rattle.pb_names.specs.View.{stmt_view, block_view, arm_view, arms_view}
use Rattle.pb_names.specs.declared.resolved.Stmt.{Stmt, Parbegin}
use Rattle.pb_base.proofs.Lists.{item_within}
use Rattle.pb_names.proofs.Views.{numbered-Parbegin}

-- how many statements a statement has, itself included
abbrev mutual
  pub stmt_size : plain.Stmt → ℕ
  stmt_size (Assign line x e) = 1
  stmt_size (Print line e) = 1
  stmt_size (If line e a b) = 1 + (block_size a + block_size b)
  stmt_size (While line e body) = 1 + block_size body
  stmt_size (Hold line bundle body) = 1 + block_size body
  stmt_size (plain.Parbegin line first arms) = 1 + arms_size arms

  pub block_size : Block → ℕ
  block_size Skip = 0
  block_size (Then s block) = stmt_size s + block_size block

  pub arms_size : Arms → ℕ
  arms_size NoArm = 0
  arms_size (AndArm arm arms) = block_size arm + arms_size arms

-- a statement of a list, as a loop reads it
pub stmt_size_within : {A : Type 0} (all ss : List (Stmt A)) (i : ℕ) (s : Stmt A)
    → ss ≡ all → s ≡ get_or ss i s → i < length ss
    → stmt_size (stmt_view s) ≤ block_size (block_view all)
stmt_size_within all ss i s =
    item_within (λ y. stmt_size (stmt_view y)) (λ ys. block_size (block_view ys)) all ss i s (λ y ys. omega arith)

-- an arm of a parbegin, as a loop reads it
pub arm_size_within : {A : Type 0} (all arms : List (Vec (Stmt A) A)) (i : ℕ) (a : Vec (Stmt A) A)
    → arms ≡ all → a ≡ get_or arms i a → i < length arms
    → block_size (block_view a.items) ≤ arms_size (arms_view all)
unfolding arm_view
arm_size_within all arms i a =
    item_within (λ y. block_size (block_view y.items)) (λ ys. arms_size (arms_view ys)) all arms i a (λ y ys. omega arith)

-- all arms of a parbegin
pub arms_size_within : {A : Type 0} (s : Stmt A) (line first : ℕ) (arms : Vec (Vec (Stmt A) A) A)
    → s ≡ Parbegin line first arms
    → arms_size (arms_view arms.items) < stmt_size (stmt_view s)
unfolding arm_view
arms_size_within s line first arms is = omega (arith, ap stmt_size (ap stmt_view is ∙ numbered-Parbegin line first arms))
