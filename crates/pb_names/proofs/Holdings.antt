-- Arms that have just begun, and arms that have ended, hold nothing.
use Rattle.std.proofs.Common.{◌≡◌, ℕ, true, List, ◌++◌, refl, arith}
use Rattle.pb_names.specs.Claims.{held_in, held_in_list, held_among}
use Rattle.pb_names.specs.Program.{Stmt, Assign, Print, If, While, Hold, Parbegin, Block, Skip, Then}
use Rattle.pb_names.specs.Program.{Arms, NoArm, AndArm}
use Rattle.pb_names.specs.Source.{Item, item_of, items_of, Doing, Waiting, Ended, Running, Nothing, Beside}
use Rattle.pb_names.specs.Source.{begin, all_ended}

pub stmt_held : (r : ℕ) (s : Stmt) → held_in r (item_of s) ≡ 0
stmt_held r (Assign line x e) = refl
stmt_held r (Print line e) = refl
stmt_held r (If line e a b) = refl
stmt_held r (While line e body) = refl
stmt_held r (Hold line bundle body) = refl
stmt_held r (Parbegin line first arms) = refl

pub block_held : (r : ℕ) (block : Block) (rest : List Item)
    → held_in_list r (items_of block ++ rest) ≡ held_in_list r rest
block_held r Skip rest = refl
block_held r (Then s block) rest = omega (arith, block_held r block rest, stmt_held r s)

pub items_held : (r : ℕ) (block : Block) → held_in_list r (items_of block) ≡ 0
items_held r Skip = refl
items_held r (Then s block) = omega (arith, items_held r block, stmt_held r s)

pub begin_held : (r : ℕ) (arms : Arms) → held_among r (begin arms) ≡ 0
begin_held r NoArm = refl
begin_held r (AndArm arm arms) = omega (arith, begin_held r arms, items_held r arm)

pub ended_held : (r : ℕ) (arms : Running) → all_ended arms ≡ true → held_among r arms ≡ 0
ended_held r Nothing e = refl
ended_held r (Beside (Doing items) arms) e = cc
ended_held r (Beside (Waiting line first inner rest) arms) e = cc
ended_held r (Beside Ended arms) e = omega (arith, ended_held r arms e)
