-- Where a claim comes from: the holds that a process is inside of at once when it holds the most.
use Rattle.std.specs.Prelude.{ℕ, ◌==◌, cond, nat_lt, List, [], ◌∷◌, ◌++◌, sum_by}
use Rattle.pb_base.specs.Bundle.{amount_in}
use Rattle.pb_names.specs.Program.{Stmt, Assign, Print, If, While, Hold, Parbegin, Block, Skip, Then, Arms, NoArm}
use Rattle.pb_names.specs.Program.{AndArm}
use Rattle.pb_plan.specs.declared.part.Part.{Part}

-- how much the parts take together
abbrev pub weight : List Part → ℕ
weight parts = sum_by (λ part. part.amount) parts

-- of two lists of parts the one that takes more, the first if both take as much
abbrev pub heavier : List Part → List Part → List Part
heavier a b = cond (nat_lt (weight a) (weight b)) b a

-- the part of one hold: none if it takes nothing
abbrev pub hold_part : (line amount : ℕ) → List Part
hold_part line amount = cond (amount == 0) [] (record { line = line; amount = amount } ∷ [])

-- the parts of a claim: of a list and of the sides of a test those of the first that takes most, of a hold its own
-- and those of its body, of a parbegin those of all arms
abbrev mutual
  pub stmt_parts : ℕ → Stmt → List Part
  stmt_parts r (Assign line x e) = []
  stmt_parts r (Print line e) = []
  stmt_parts r (If line e a b) = heavier (parts r a) (parts r b)
  stmt_parts r (While line e body) = parts r body
  stmt_parts r (Hold line bundle body) = hold_part line (amount_in bundle r) ++ parts r body
  stmt_parts r (Parbegin line first arms) = arms_parts r arms

  pub parts : ℕ → Block → List Part
  parts r Skip = []
  parts r (Then s block) = heavier (stmt_parts r s) (parts r block)

  pub arms_parts : ℕ → Arms → List Part
  arms_parts r NoArm = []
  arms_parts r (AndArm arm arms) = parts r arm ++ arms_parts r arms
