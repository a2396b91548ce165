-- Lists with equal views, and a loop that compares them.
use Rattle.std.proofs.Common.{◌≡◌, ℕ, ◌+◌, ◌<◌, List, [], ◌∷◌, ◌++◌, map, length, take, get_or, ap, ap₂}
use Rattle.std.proofs.Common.{◌≤◌, Bool, true, false, arith, sym, ◌∙◌, refl}
use Rattle.std.proofs.lemmas.List.{map_more, get_or-map, length-map, take_all}
use Rattle.pb_tree.specs.Syntax.{StmtSyntax, StmtsSyntax}
use Rattle.pb_tree.specs.View.{stmts_of, joined_arms}

-- a list of statements is told by its elements
pub same_stmts : (xs ys : List StmtSyntax) → stmts_of xs ≡ stmts_of ys → xs ≡ ys
same_stmts [] [] e = refl
same_stmts [] (y ∷ ys) e = absurd (cc)
same_stmts (x ∷ xs) [] e = absurd (cc)
same_stmts (x ∷ xs) (y ∷ ys) e =
    let tails : stmts_of xs ≡ stmts_of ys = cc in
    let rest = same_stmts xs ys tails in
    cc

-- a list of arms is told by its elements
pub same_arms : (xs ys : List StmtsSyntax) → joined_arms xs ≡ joined_arms ys → xs ≡ ys
same_arms [] [] e = refl
same_arms [] (y ∷ ys) e = absurd (cc)
same_arms (x ∷ xs) [] e = absurd (cc)
same_arms (x ∷ xs) (y ∷ ys) e =
    let tails : joined_arms xs ≡ joined_arms ys = cc in
    let rest = same_arms xs ys tails in
    cc

module _ {X Y Z : Type 0} (f : X → Z) (g : Y → Z) (xs : List X) (ys : List Y) where
  pub same_length : map f xs ≡ map g ys → length xs ≡ length ys
  same_length e = sym (length-map xs f) ∙ ap length e ∙ length-map ys g

  pub same_at : (i : ℕ) (x : X) (y : Y) → map f xs ≡ map g ys → i < length xs → i < length ys
      → x ≡ get_or xs i x → y ≡ get_or ys i y → f x ≡ g y
  same_at i x y e below below' at_x at_y =
      ap f at_x
      ∙ sym (get_or-map f xs i x (f x) below)
      ∙ ap (λ zs. get_or zs i (f x)) e
      ∙ get_or-map g ys i y (f x) below'
      ∙ ap g (sym at_y)

  pub same_more : (i : ℕ) (x : X) (y : Y) → map f (take i xs) ≡ map g (take i ys) → f x ≡ g y
      → i < length xs → i < length ys → x ≡ get_or xs i x → y ≡ get_or ys i y
      → map f (take (i + 1) xs) ≡ map g (take (i + 1) ys)
  same_more i x y so_far here below below' at_x at_y =
      map_more f xs i x below
      ∙ ap₂ (λ zs z. zs ++ z ∷ []) so_far (ap f (sym at_x) ∙ here ∙ ap g at_y)
      ∙ sym (map_more g ys i y below')

-- what a loop over both lists has read of lists that are the same
pub same_read : {X Y Z : Type 0} (f : X → Z) (g : Y → Z) (all xs : List X) (ys : List Y)
    (i : ℕ) (x : X) (y : Y)
    → map f all ≡ map g ys → xs ≡ all → i < length xs → i < length ys
    → x ≡ get_or xs i x → y ≡ get_or ys i y → f x ≡ g y
same_read f g all xs ys i x y e list below below' at_x at_y =
    same_at f g xs ys i x y (ap (map f) list ∙ e) below below' at_x at_y

-- one more element, with the first list read through a slice of it
pub same_step : {X Y Z : Type 0} (f : X → Z) (g : Y → Z) (all xs : List X) (ys : List Y)
    (i : ℕ) (x : X) (y : Y)
    → map f (take i all) ≡ map g (take i ys) → f x ≡ g y → xs ≡ all → i < length xs → i < length ys
    → x ≡ get_or xs i x → y ≡ get_or ys i y → map f (take (i + 1) all) ≡ map g (take (i + 1) ys)
same_step f g all xs ys i x y so_far here list below below' at_x at_y =
    ap (λ zs. map f (take (i + 1) zs)) (sym list)
    ∙ same_more f g xs ys i x y (ap (λ zs. map f (take i zs)) list ∙ so_far) here below below' at_x at_y

-- after the last element of lists of one length
pub same_all : {X Y Z : Type 0} (f : X → Z) (g : Y → Z) (all xs : List X) (ys : List Y) (i : ℕ)
    → map f (take i all) ≡ map g (take i ys) → xs ≡ all → length xs ≤ i → length all ≡ length ys
    → map f all ≡ map g ys
same_all f g all xs ys i so_far list end lengths =
    let lengths_of_slice = ap length list in
    ap (map f) (sym (take_all i all (omega arith)))
    ∙ so_far
    ∙ ap (map g) (take_all i ys (omega arith))

-- no test both fails and holds
pub not_both : {X : Type 0} {x y : X} {b : Bool} → b ≡ false → b ≡ true → x ≡ y
not_both fails holds = absurd (cc)
