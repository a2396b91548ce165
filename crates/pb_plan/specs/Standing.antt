-- Where the holds of a process stand.
use Rattle.std.specs.Prelude.{◌≡◌, ◌⊎◌, ℕ}
use Rattle.pb_base.specs.Steppers.{Bundle}
use Rattle.pb_names.specs.Program.{Stmt, Assign, Print, If, While, Hold, Parbegin, Block, Skip, Then, Arms, NoArm}
use Rattle.pb_names.specs.Program.{AndArm}

-- a hold: its line, what it asks for, and what stands inside it
pub record OneHold : Type 0 where
  pub line : ℕ
  pub asked : Bundle
  pub body : Block

-- the hold is this statement, or stands in it, however deep
abbrev mutual
  pub StandsInStmt : OneHold → Stmt → Type 0
  StandsInStmt it (Assign line x e) = ⊥
  StandsInStmt it (Print line e) = ⊥
  StandsInStmt it (If line e a b) = StandsIn it a ⊎ StandsIn it b
  StandsInStmt it (While line e body) = StandsIn it body
  StandsInStmt it (Hold line bundle body) = (it ≡ record { line = line; asked = bundle; body = body }) ⊎ StandsIn it body
  StandsInStmt it (Parbegin line first arms) = StandsInArms it arms

  -- the hold stands in a list
  pub StandsIn : OneHold → Block → Type 0
  StandsIn it Skip = ⊥
  StandsIn it (Then s block) = StandsInStmt it s ⊎ StandsIn it block

  pub StandsInArms : OneHold → Arms → Type 0
  StandsInArms it NoArm = ⊥
  StandsInArms it (AndArm arm arms) = StandsIn it arm ⊎ StandsInArms it arms
