-- The first nest in the first statements of a list, in the first arms of a parbegin, or in the first processes: one
-- more at a time.
use Rattle.std.proofs.Common.{◌≡◌, ◌∙◌, ℕ, zero, suc, ◌+◌, ◌<◌, ◌==◌, ◌||◌, Bool, true, false, eqb, List, [], ◌∷◌, ◌++◌}
use Rattle.std.proofs.Common.{Vec, length, take, get_or, map, Option, Some, None, refl, sym, ap, arith, add-one}
use Rattle.std.specs.Prelude.{slice_get}
use Rattle.pb_base.proofs.Lists.{take_next}
use Rattle.pb_base.specs.declared.pair.Pair.{Pair}
use Rattle.pb_base.specs.Steppers.{Bundle}
use Rattle.pb_names.specs.View.{stmt_view, block_view, arm_view, arms_view, process_view}
use Rattle.pb_names.specs.declared.resolved.Process.{Process}
use Rattle.pb_names.specs.declared.resolved.Stmt.{Stmt}
use Rattle.pb_plan.specs.Nests.{arms_nest, asks, first, nest, nest_among, stmt_nest}
use Rattle.pb_plan.specs.declared.nest.Nest.{Nest}

-- ---- what a bundle asks for

or-assoc : (a b c : Bool) → (a || (b || c)) ≡ ((a || b) || c)
or-assoc true b c = refl
or-assoc false b c = refl

or-false : (a : Bool) → (a || false) ≡ a
or-false true = refl
or-false false = refl

asks-append : (r : ℕ) (xs ys : Bundle) → asks r (xs ++ ys) ≡ (asks r xs || asks r ys)
asks-append r [] ys = refl
asks-append r (x ∷ xs) ys =
    ap (λ b. eqb x.resource r || b) (asks-append r xs ys) ∙ or-assoc (eqb x.resource r) (asks r xs) (asks r ys)

pub asks_more : (bundle : Bundle) (i r : ℕ) (pair : Pair) → slice_get bundle i ≡ Some pair
    → asks r (take (i + 1) bundle) ≡ (asks r (take i bundle) || (pair.resource == r))
asks_more bundle i r pair at =
    ap (asks r) (take_next bundle i pair at) ∙ asks-append r (take i bundle) (pair ∷ [])
    ∙ ap (λ b. asks r (take i bundle) || b) (or-false (eqb pair.resource r))

-- ---- the first of several

pub first-assoc : (a b c : Option Nest) → first (first a b) c ≡ first a (first b c)
first-assoc (Some found) b c = refl
first-assoc None b c = refl

first_none : (a : Option Nest) → first a None ≡ a
first_none (Some found) = refl
first_none None = refl

module _ (outer inner : ℕ) (held : Option ℕ) where
  nest_suc : {A : Type 0} (ss : List (Stmt A)) (i : ℕ) (d : Stmt A) → i < length ss
      → nest outer inner held (block_view (take (suc i) ss))
      ≡ first (nest outer inner held (block_view (take i ss))) (stmt_nest outer inner held (stmt_view (get_or ss i d)))
  nest_suc [] i d h = absurd (omega arith)
  nest_suc (s ∷ ss) zero d h = first_none (stmt_nest outer inner held (stmt_view s))
  nest_suc (s ∷ ss) (suc i) d h =
      ap (first (stmt_nest outer inner held (stmt_view s))) (nest_suc ss i d (omega arith))
      ∙ sym (first-assoc (stmt_nest outer inner held (stmt_view s)) (nest outer inner held (block_view (take i ss)))
      (stmt_nest outer inner held (stmt_view (get_or ss i d))))

  arms_nest_suc : {A : Type 0} (arms : List (Vec (Stmt A) A)) (i : ℕ) (d : Vec (Stmt A) A) → i < length arms
      → arms_nest outer inner held (arms_view (take (suc i) arms))
      ≡ first (arms_nest outer inner held (arms_view (take i arms)))
      (nest outer inner held (block_view (get_or arms i d).items))
  unfolding arm_view
  arms_nest_suc [] i d h = absurd (omega arith)
  arms_nest_suc (a ∷ arms) zero d h = first_none (nest outer inner held (block_view a.items))
  arms_nest_suc (a ∷ arms) (suc i) d h =
      ap (first (nest outer inner held (block_view a.items))) (arms_nest_suc arms i d (omega arith))
      ∙ sym (first-assoc (nest outer inner held (block_view a.items))
      (arms_nest outer inner held (arms_view (take i arms)))
      (nest outer inner held (block_view (get_or arms i d).items)))

  -- the same at an element that a loop has read

  pub nest_more : {A : Type 0} (ss : List (Stmt A)) (i : ℕ) (s : Stmt A) → s ≡ get_or ss i s → i < length ss
      → nest outer inner held (block_view (take (i + 1) ss))
      ≡ first (nest outer inner held (block_view (take i ss))) (stmt_nest outer inner held (stmt_view s))
  nest_more ss i s here h =
      rw add-one (nest_suc ss i s h
      ∙ ap (λ y. first (nest outer inner held (block_view (take i ss))) (stmt_nest outer inner held (stmt_view y)))
      (sym here))

  pub arms_nest_more : {A : Type 0} (arms : List (Vec (Stmt A) A)) (i : ℕ) (a : Vec (Stmt A) A)
      → a ≡ get_or arms i a → i < length arms
      → arms_nest outer inner held (arms_view (take (i + 1) arms))
      ≡ first (arms_nest outer inner held (arms_view (take i arms))) (nest outer inner held (block_view a.items))
  unfolding arm_view
  arms_nest_more arms i a here h =
      rw add-one (arms_nest_suc arms i a h
      ∙ ap (λ y. first (arms_nest outer inner held (arms_view (take i arms))) (nest outer inner held (block_view y.items)))
      (sym here))

among_suc : {A : Type 0} (outer inner : ℕ) (ps : List (Process A)) (i : ℕ) (d : Process A) → i < length ps
    → nest_among outer inner (map process_view (take (suc i) ps))
    ≡ first (nest_among outer inner (map process_view (take i ps)))
    (nest outer inner None (block_view (get_or ps i d).body.items))
among_suc outer inner [] i d h = absurd (omega arith)
among_suc outer inner (p ∷ ps) zero d h = first_none (nest outer inner None (block_view p.body.items))
among_suc outer inner (p ∷ ps) (suc i) d h =
    ap (first (nest outer inner None (block_view p.body.items))) (among_suc outer inner ps i d (omega arith))
    ∙ sym (first-assoc (nest outer inner None (block_view p.body.items))
    (nest_among outer inner (map process_view (take i ps)))
    (nest outer inner None (block_view (get_or ps i d).body.items)))

pub among_more : {A : Type 0} (outer inner : ℕ) (ps : List (Process A)) (i : ℕ) (p : Process A) → p ≡ get_or ps i p
    → i < length ps
    → nest_among outer inner (map process_view (take (i + 1) ps))
    ≡ first (nest_among outer inner (map process_view (take i ps))) (nest outer inner None (block_view p.body.items))
among_more outer inner ps i p here h =
    rw add-one (among_suc outer inner ps i p h
    ∙ ap (λ (y : Process _). first (nest_among outer inner (map process_view (take i ps)))
    (nest outer inner None (block_view y.body.items))) (sym here))
