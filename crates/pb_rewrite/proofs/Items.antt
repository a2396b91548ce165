-- One step at each kind of item, by what the step of its expression is.
use Rattle.std.proofs.Common.{◌≡◌, ℕ, ℤ, cond, List, ◌∷◌, ◌++◌, set, ap}
use Rattle.pb_base.specs.Arithmetic.{is_zero}
use Rattle.pb_base.specs.Steppers.{Silent, Prints}
use Rattle.pb_names.specs.Program.{Expr, Number, Block}
use Rattle.pb_names.specs.Source.{Item, items_of, Doing, Goes, evaluate}
use Rattle.pb_names.specs.Source.{step_expr, step_items, Becomes}

module _ (vars : List ℤ) (line : ℕ) (rest : List Item) where
  module _ (x : ℕ) where
    pub assign_is : (e : Expr) (v : ℤ) → e ≡ Number v
        → step_items vars (Item.Assign line x e ∷ rest) ≡ Goes (set vars x v) (Doing rest) Silent
    assign_is e v h = ap (λ y. step_items vars (Item.Assign line x y ∷ rest)) h

    pub assign_becomes : (e e' : Expr) → step_expr vars e ≡ Becomes e'
        → step_items vars (Item.Assign line x e ∷ rest) ≡ Goes vars (Doing (Item.Assign line x e' ∷ rest)) Silent
    assign_becomes e e' h =
        ap (λ r. evaluate r (λ y. Goes vars (Doing (Item.Assign line x y ∷ rest)) Silent) (λ v. Goes (set vars x v) (Doing rest) Silent)) h

  pub print_is : (e : Expr) (v : ℤ) → e ≡ Number v
      → step_items vars (Item.Print line e ∷ rest) ≡ Goes vars (Doing rest) (Prints v)
  print_is e v h = ap (λ y. step_items vars (Item.Print line y ∷ rest)) h

  pub print_becomes : (e e' : Expr) → step_expr vars e ≡ Becomes e'
      → step_items vars (Item.Print line e ∷ rest) ≡ Goes vars (Doing (Item.Print line e' ∷ rest)) Silent
  print_becomes e e' h =
      ap (λ r. evaluate r (λ y. Goes vars (Doing (Item.Print line y ∷ rest)) Silent) (λ v. Goes vars (Doing rest) (Prints v))) h

  module _ (a b : Block) where
    pub choice_is : (e : Expr) (v : ℤ) → e ≡ Number v
        → step_items vars (Item.If line e a b ∷ rest) ≡ Goes vars (Doing (items_of (cond (is_zero v) b a) ++ rest)) Silent
    choice_is e v h = ap (λ y. step_items vars (Item.If line y a b ∷ rest)) h

    pub choice_becomes : (e e' : Expr) → step_expr vars e ≡ Becomes e'
        → step_items vars (Item.If line e a b ∷ rest) ≡ Goes vars (Doing (Item.If line e' a b ∷ rest)) Silent
    choice_becomes e e' h =
        ap (λ r. evaluate r (λ y. Goes vars (Doing (Item.If line y a b ∷ rest)) Silent)
        (λ v. Goes vars (Doing (items_of (cond (is_zero v) b a) ++ rest)) Silent)) h

  module _ (test : Expr) (body : Block) where
    pub loop_is : (e : Expr) (v : ℤ) → e ≡ Number v
        → step_items vars (Item.While line test e body ∷ rest)
        ≡ Goes vars (Doing (cond (is_zero v) rest (items_of body ++ Item.While line test test body ∷ rest))) Silent
    loop_is e v h = ap (λ y. step_items vars (Item.While line test y body ∷ rest)) h

    pub loop_becomes : (e e' : Expr) → step_expr vars e ≡ Becomes e'
        → step_items vars (Item.While line test e body ∷ rest) ≡ Goes vars (Doing (Item.While line test e' body ∷ rest)) Silent
    loop_becomes e e' h =
        ap (λ r. evaluate r (λ y. Goes vars (Doing (Item.While line test y body ∷ rest)) Silent)
        (λ v. Goes vars (Doing (cond (is_zero v) rest (items_of body ++ Item.While line test test body ∷ rest))) Silent)) h
