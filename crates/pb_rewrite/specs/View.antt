-- What contracts see of the residual trees: the plain runs of which the definitions of the source speak.
-- It does not depend on where they are in memory, nor on whether a list or a test was already begun.
use Rattle.std.specs.Prelude.{List, [], ◌∷◌, map, option_map, reverse}
use Rattle.pb_base.specs.Banker.{BankerState}
use Rattle.pb_base.specs.Steppers.{Bank}
use Rattle.pb_base.specs.declared.lending.Lending.TheVariants.{ByBanker}
use Rattle.pb_names.specs.Source as plain
use Rattle.pb_names.specs.Source.{Running, Nothing, Beside, item_of, items_of}
use Rattle.pb_names.specs.View.{expr_view, stmt_view, block_view}
use Rattle.pb_rewrite.specs.declared.item.Item.{Item}
use Rattle.pb_rewrite.specs.declared.item.Item.TheVariants as item
use Rattle.pb_rewrite.specs.declared.arm.Arm.{Arm, fold-Arm}
use Rattle.pb_rewrite.specs.declared.arm.Arm.TheOpen.{Arm-F}
use Rattle.pb_rewrite.specs.declared.process.SourceProcess.{SourceProcess}

-- a loop that is a statement has its whole test left
abbrev pub item_view : {A : Type 0} → Item A → plain.Item
item_view (item.Left stmt) = item_of (stmt_view stmt)
item_view (item.While line test left body) =
    plain.While line (expr_view test) (expr_view left) (block_view body.items)
item_view (item.GiveBack line bundle) = plain.GiveBack line bundle

-- a list that is kept last first
abbrev pub items_view : {A : Type 0} → List (Item A) → List plain.Item
items_view items = map item_view (reverse items)

-- a list of plain arms as running arms
abbrev pub running_of : List plain.Arm → Running
running_of [] = Nothing
running_of (arm ∷ arms) = Beside arm (running_of arms)

-- one level, with each arm inside already seen as its plain arm
abbrev pub arm_step : {A : Type 0} → Arm-F A plain.Arm → plain.Arm
arm_step (Arm-F.Fresh body) = plain.Doing (items_of (block_view body.items))
arm_step (Arm-F.Doing items) = plain.Doing (items_view items.items)
arm_step (Arm-F.Waiting line first arms rest) =
    plain.Waiting line first (running_of arms.items) (items_view rest.items)
arm_step Arm-F.Ended = plain.Ended

-- the plain arm of an arm in memory
abbrev pub arm_view : {A : Type 0} → Arm A → plain.Arm
arm_view {A} = fold-Arm A plain.Arm arm_step

-- the plain arms of running arms in memory
abbrev pub running_view : {A : Type 0} → List (Arm A) → Running
running_view arms = running_of (map arm_view arms)

-- the plain process of a process in memory
abbrev pub process_view : {A : Type 0} → SourceProcess A → plain.SourceProcess
process_view p = record { vars = p.vars.items; run = option_map arm_view p.run }

-- the capital and the claims that the banker knows
abbrev pub bank_view : BankerState → Bank
bank_view s = record { capital = s.capital; claims = s.claims; lends = ByBanker }
