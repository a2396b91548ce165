-- The line of a statement, and the line at which an arm of a run is: that of its first item.
use Rattle.std.specs.Prelude.{ℕ, List, [], ◌∷◌, Option, Some, None}
use Rattle.pb_names.specs.Program.{Stmt}
use Rattle.pb_names.specs.Source.{Item, GiveBack, Arm, Doing, item_of}
use Rattle.pb_names.specs.Source.{Waiting, Ended}

-- the line of an item, which is that of its statement
abbrev pub item_line : Item → ℕ
item_line (Item.Assign line x e) = line
item_line (Item.Print line e) = line
item_line (Item.If line e a b) = line
item_line (Item.While line test e body) = line
item_line (Item.Hold line bundle body) = line
item_line (GiveBack line bundle) = line
item_line (Item.Parbegin line first arms) = line

-- the line of a statement's first token
abbrev pub stmt_line : Stmt → ℕ
stmt_line s = item_line (item_of s)

-- the line of the first item, if there is one
abbrev pub first_line : List Item → Option ℕ
first_line [] = None
first_line (item ∷ items) = Some (item_line item)

-- the line of an arm's first item; none if its list is empty
abbrev pub head_line : Arm → Option ℕ
head_line (Doing items) = first_line items
head_line (Waiting line first arms rest) = Some line
head_line Ended = None
