-- The view of an arm after an item was put in front of its list, or the statements of a body.
use Rattle.std.proofs.Common.{◌≡◌, ℕ, List, ◌∷◌, Bool, true, false, cond, Vec, ap, refl, ◌∙◌}
use Rattle.pb_base.specs.Steppers.{Bundle}
use Rattle.pb_names.specs.Source as plain
use Rattle.pb_names.specs.Source.{item_of}
use Rattle.pb_names.specs.View.{expr_view, block_view, arms_view}
use Rattle.pb_names.specs.declared.resolved.Expr.{Expr}
use Rattle.pb_names.specs.declared.resolved.Stmt.{Stmt, Assign, Print, If, While, Hold, Parbegin}
use Rattle.pb_names.proofs.Views.{numbered-Assign, numbered-Print, numbered-If, numbered-While, numbered-Hold, numbered-Parbegin}
use Rattle.pb_rewrite.specs.View.{arm_view, item_view, items_view}
use Rattle.pb_rewrite.specs.declared.item.Item.{Item}
use Rattle.pb_rewrite.specs.declared.item.Item.TheVariants as item
use Rattle.pb_rewrite.specs.declared.item.Item.TheVariants.{Left}
use Rattle.pb_rewrite.specs.declared.arm.Arm.{Doing}
use Rattle.pb_rewrite.proofs.Views.{view-Doing}

module _ {A : Type 0} (v : Vec (Item A) A) (old : List plain.Item) where
  kept : (x : Item A) (shown : plain.Item) → items_view v.items ≡ item_view x ∷ old → item_view x ≡ shown
      → arm_view (Doing v) ≡ plain.Doing (shown ∷ old)
  kept x shown put same = view-Doing v ∙ ap plain.Doing (put ∙ ap (λ i. i ∷ old) same)

  pub kept_assign : (line x : ℕ) (e : Expr A) → items_view v.items ≡ item_view (Left (Assign line x e)) ∷ old
      → arm_view (Doing v) ≡ plain.Doing (plain.Assign line x (expr_view e) ∷ old)
  kept_assign line x e put = kept (Left (Assign line x e)) _ put (ap item_of (numbered-Assign line x e))

  pub kept_print : (line : ℕ) (e : Expr A) → items_view v.items ≡ item_view (Left (Print line e)) ∷ old
      → arm_view (Doing v) ≡ plain.Doing (plain.Print line (expr_view e) ∷ old)
  kept_print line e put = kept (Left (Print line e)) _ put (ap item_of (numbered-Print line e))

  pub kept_if : (line : ℕ) (e : Expr A) (a b : Vec (Stmt A) A) → items_view v.items ≡ item_view (Left (If line e a b)) ∷ old
      → arm_view (Doing v) ≡ plain.Doing (plain.If line (expr_view e) (block_view a.items) (block_view b.items) ∷ old)
  kept_if line e a b put = kept (Left (If line e a b)) _ put (ap item_of (numbered-If line e a b))

  pub kept_while : (line : ℕ) (e : Expr A) (body : Vec (Stmt A) A) → items_view v.items ≡ item_view (Left (While line e body)) ∷ old
      → arm_view (Doing v) ≡ plain.Doing (plain.While line (expr_view e) (expr_view e) (block_view body.items) ∷ old)
  kept_while line e body put = kept (Left (While line e body)) _ put (ap item_of (numbered-While line e body))

  pub kept_hold : (line : ℕ) (bundle : Bundle) (body : Vec (Stmt A) A) → items_view v.items ≡ item_view (Left (Hold line bundle body)) ∷ old
      → arm_view (Doing v) ≡ plain.Doing (plain.Hold line bundle (block_view body.items) ∷ old)
  kept_hold line bundle body put = kept (Left (Hold line bundle body)) _ put (ap item_of (numbered-Hold line bundle body))

  pub kept_fork : (line first : ℕ) (arms : Vec (Vec (Stmt A) A) A) → items_view v.items ≡ item_view (Left (Parbegin line first arms)) ∷ old
      → arm_view (Doing v) ≡ plain.Doing (plain.Parbegin line first (arms_view arms.items) ∷ old)
  kept_fork line first arms put = kept (Left (Parbegin line first arms)) _ put (ap item_of (numbered-Parbegin line first arms))

  pub kept_loop : (line : ℕ) (test left : Expr A) (body : Vec (Stmt A) A) → items_view v.items ≡ item_view (item.While line test left body) ∷ old
      → arm_view (Doing v) ≡ plain.Doing (plain.While line (expr_view test) (expr_view left) (block_view body.items) ∷ old)
  kept_loop line test left body put = kept (item.While line test left body) _ put refl

-- the list is all that is seen of the arm
pub entered : {A : Type 0} (v : Vec (Item A) A) (shown : List plain.Item) → items_view v.items ≡ shown
    → arm_view (Doing v) ≡ plain.Doing shown
entered v shown put = view-Doing v ∙ ap plain.Doing put

-- the body of the list that was chosen
pub chosen_view : {A : Type 0} (z : Bool) (a b v : Vec (Stmt A) A) → v ≡ cond z b a
    → block_view v.items ≡ cond z (block_view b.items) (block_view a.items)
chosen_view true a b v h = ap (λ w. block_view w.items) h
chosen_view false a b v h = ap (λ w. block_view w.items) h
