-- What each step keeps: the arms of a run have numbers of their own, holds name resources that are there, and
-- what is lent to a process is what its run is to give back.
use Rattle.std.specs.Prelude.{◌≡◌, ◌⊎◌, ℕ, ◌+◌, ◌<◌, ◌≤◌, List, [], ◌∷◌, length, Option, Some, None, ⊤}
use Rattle.std.specs.Prelude.{slice_get, slice_index}
use Rattle.pb_base.specs.Banker.{BankerState, processes, resources, row_of}
use Rattle.pb_names.specs.Claims.{held}
use Rattle.pb_names.specs.Program.{Stmt, Assign, Print, If, While, Hold, Parbegin, Block, Skip, Then, Arms}
use Rattle.pb_names.specs.Program.{NoArm, AndArm, count, arms_in, arms_in_arms, IsNumbered, AreNumbered}
use Rattle.pb_names.specs.Source.{Item, GiveBack, Arm, Doing, running_arms}
use Rattle.pb_names.specs.Source.{Waiting, Ended, Running, Nothing, Beside, SourceProcess, find, find_among}
use Rattle.pb_rewrite.specs.Steps.{AreBelow}

-- each hold inside names some of n resources
abbrev mutual
  pub StmtNames : ℕ → Stmt → Type 0
  StmtNames n (Assign line x e) = ⊤
  StmtNames n (Print line e) = ⊤
  StmtNames n (If line e a b) = BlockNames n a × BlockNames n b
  StmtNames n (While line e body) = BlockNames n body
  StmtNames n (Hold line bundle body) = AreBelow n bundle × BlockNames n body
  StmtNames n (Parbegin line first arms) = ArmsName n arms

  pub BlockNames : ℕ → Block → Type 0
  BlockNames n Skip = ⊤
  BlockNames n (Then s block) = StmtNames n s × BlockNames n block

  pub ArmsName : ℕ → Arms → Type 0
  ArmsName n NoArm = ⊤
  ArmsName n (AndArm arm arms) = BlockNames n arm × ArmsName n arms

-- the arms inside have their numbers from lo up to hi, and each hold names some of n resources
abbrev pub OwnsBlock : ℕ → ℕ → ℕ → Block → Type 0
OwnsBlock n lo hi block =
    BlockNames n block
    × ((m : ℕ) × (lo ≤ m) × IsNumbered m block × (m + length (arms_in block) ≤ hi))

-- so it is with what is inside an item
abbrev pub OwnsItem : ℕ → ℕ → ℕ → Item → Type 0
OwnsItem n lo hi (Item.Assign line x e) = ⊤
OwnsItem n lo hi (Item.Print line e) = ⊤
OwnsItem n lo hi (Item.If line e a b) = OwnsBlock n lo hi a × OwnsBlock n lo hi b
OwnsItem n lo hi (Item.While line test e body) = OwnsBlock n lo hi body
OwnsItem n lo hi (Item.Hold line bundle body) = AreBelow n bundle × OwnsBlock n lo hi body
OwnsItem n lo hi (GiveBack line bundle) = AreBelow n bundle
OwnsItem n lo hi (Item.Parbegin line first arms) =
    ArmsName n arms × (lo ≤ first) × AreNumbered (first + count arms) arms
    × (first + count arms + length (arms_in_arms arms) ≤ hi)

-- and inside each item of a list
abbrev pub Owns : ℕ → ℕ → ℕ → List Item → Type 0
Owns n lo hi [] = lo ≤ hi
Owns n lo hi (item ∷ items) = OwnsItem n lo hi item × Owns n lo hi items

-- each running arm has a range of numbers of its own for the arms inside it
abbrev mutual
  pub IsOwned : ℕ → ℕ → ℕ → Arm → Type 0
  IsOwned n lo hi (Doing items) = Owns n lo hi items
  IsOwned n lo hi (Waiting line first arms rest) =
      (lo ≤ first) × AreOwned n (first + running_arms arms) hi arms × Owns n lo hi rest
  IsOwned n lo hi Ended = lo ≤ hi

  pub AreOwned : ℕ → ℕ → ℕ → Running → Type 0
  AreOwned n lo hi Nothing = lo ≤ hi
  AreOwned n lo hi (Beside arm arms) = (mid : ℕ) × IsOwned n lo mid arm × AreOwned n mid hi arms

-- no two running arms lead to one number
abbrev mutual
  pub IsSingle : ℕ → Arm → Type 0
  IsSingle a (Doing items) = ⊤
  IsSingle a (Waiting line first arms rest) = AreSingle a first arms
  IsSingle a Ended = ⊤

  pub AreSingle : ℕ → ℕ → Running → Type 0
  AreSingle a n Nothing = ⊤
  AreSingle a n (Beside arm arms) =
      IsSingle a arm × ((find a n arm ≡ None) ⊎ (find_among a (n + 1) arms ≡ None)) × AreSingle a (n + 1) arms

-- of a run over n resources, to which this row is lent
abbrev pub IsSoundRun : ℕ → List ℕ → Option Arm → Type 0
IsSoundRun n row None = ⊤
IsSoundRun n row (Some run) =
    ((hi : ℕ) × IsOwned n 1 hi run) × ((r : ℕ) → r < n → slice_index row r ≡ held r run)

-- so is each run, beside what the banker has lent
pub record AreSound (s : BankerState) (sources : List SourceProcess) : Type 0 where
  pub number : length sources ≡ processes s
  pub each : (p : ℕ) (process : SourceProcess) → slice_get sources p ≡ Some process
      → IsSoundRun (resources s) (row_of s.loans p) process.run
