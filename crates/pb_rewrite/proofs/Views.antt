-- The view of each kind of arm.
use Rattle.std.proofs.Common.{◌≡◌, ℕ, Vec, rules}
use Rattle.pb_names.specs.Source as plain
use Rattle.pb_names.specs.Source.{items_of}
use Rattle.pb_names.specs.View.{block_view}
use Rattle.pb_names.specs.declared.resolved.Stmt.{Stmt}
use Rattle.pb_rewrite.specs.View.{arm_view, items_view, running_view}
use Rattle.pb_rewrite.specs.declared.item.Item.{Item}
use Rattle.pb_rewrite.specs.declared.arm.Arm.{Arm, Fresh, Doing, Waiting, Ended, the_lemmas}

pub view-Fresh : {A : Type 0} (body : Vec (Stmt A) A)
    → arm_view (Fresh body) ≡ plain.Doing (items_of (block_view body.items))
view-Fresh body = search (rules, the_lemmas)

pub view-Doing : {A : Type 0} (items : Vec (Item A) A) → arm_view (Doing items) ≡ plain.Doing (items_view items.items)
view-Doing items = search (rules, the_lemmas)

pub view-Waiting : {A : Type 0} (line first : ℕ) (arms : Vec (Arm A) A) (rest : Vec (Item A) A)
    → arm_view (Waiting line first arms rest)
    ≡ plain.Waiting line first (running_view arms.items) (items_view rest.items)
view-Waiting line first arms rest = search (rules, the_lemmas)

pub view-Ended : (A : Type 0) → arm_view {A = A} Ended ≡ plain.Ended
view-Ended A = search (rules, the_lemmas)

pub ruleset arm_views = (view-Fresh, view-Doing, view-Waiting, view-Ended)
