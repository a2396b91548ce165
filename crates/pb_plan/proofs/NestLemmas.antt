-- Nests tell what is so of each hold and the holds around it.
use Rattle.std.proofs.Common.{◌≡◌, ◌∙◌, ◌⊎◌, inl, inr, ⊎_elim, ℕ, zero, suc, ◌<◌, ◌||◌, true, cond, eqb}
use Rattle.std.proofs.Common.{List, [], ◌∷◌, ◌++◌, length, get_or, Option, Some, None, refl, sym, ap, subst, arith}
use Rattle.std.proofs.Common.{eq-eqb, eqb-true}
use Rattle.std.specs.Prelude.{All}
use Rattle.std.proofs.lemmas.List.Elements.{All-append, All-cons}
use Rattle.pb_base.proofs.Cases.{bool_cases}
use Rattle.pb_base.specs.declared.pair.Pair.{Pair}
use Rattle.pb_base.specs.Steppers.{Bundle}
use Rattle.pb_names.specs.Program.{Stmt, Assign, Print, If, While, Hold, Parbegin, Block, Skip, Then, Arms, NoArm}
use Rattle.pb_names.specs.Program.{AndArm, Process}
use Rattle.pb_plan.proofs.OrderedDeadlocks.{all_behind, all_before}
use Rattle.pb_plan.specs.Nests.{arms_nest, asks, first, held_inside, nest, nest_among, own_nest, stmt_nest, AskBelow}
use Rattle.pb_plan.specs.Orders.{EachHoldOf, EachHold, EachHoldAmong}
use Rattle.pb_plan.specs.declared.nest.Nest.{Nest}

-- ---- what a bundle asks for

asks_at : (r : ℕ) (bundle : Bundle) (k : ℕ) (d : Pair) → k < length bundle → (get_or bundle k d).resource ≡ r
    → asks r bundle ≡ true
asks_at r [] k d u e = absurd (omega (arith, u))
asks_at r (pair ∷ bundle) zero d u e = ap (λ b. b || asks r bundle) (eq-eqb pair.resource r e)
asks_at r (pair ∷ bundle) (suc k) d u e = ⊎_elim
    (λ own. ap (λ b. b || asks r bundle) own)
    (λ other. ap (λ b. b || asks r bundle) other ∙ asks_at r bundle k d (omega (arith, u)) e)
    (bool_cases (eqb pair.resource r))

-- what is so of all that is asked for is so of this
pub of_asked : (P : ℕ → Type 0) (r : ℕ) (bundle : Bundle) → asks r bundle ≡ true
    → All (λ (pair : Pair). P pair.resource) bundle → P r
of_asked P r [] e all = cc
of_asked P r (pair ∷ bundle) e all = ⊎_elim
    (λ own. subst P (eqb-true pair.resource r own) (all 0 pair (omega arith)))
    (λ other.
    of_asked P r bundle (sym (ap (λ b. b || asks r bundle) other) ∙ e) (λ k d u. all (suc k) d (omega (arith, u))))
    (bool_cases (eqb pair.resource r))

-- ---- the first of two

pub which : (a b : Option Nest) (found : Nest) → first a b ≡ Some found → (a ≡ Some found) ⊎ (b ≡ Some found)
which (Some other) b found e = inl e
which None b found e = inr e

both_none : (a b : Option Nest) → first a b ≡ None → (a ≡ None) × (b ≡ None)
both_none (Some found) b e = cc
both_none None b e = (refl, e)

-- ---- what a nest tells

-- it has the resources that were asked for, both of the holds that are there
module _ (n outer inner : ℕ) where
  pub record IsNestOf (found : Nest) : Type 0 where
    pub outer_is : found.outer ≡ outer
    pub inner_is : found.inner ≡ inner
    pub outer_below : outer < n
    pub inner_below : inner < n

  abbrev Below : (around asked : Bundle) → Type 0
  Below around asked = All (λ (pair : Pair). pair.resource < n) asked

  abbrev HeldBelow : Option ℕ → Type 0
  HeldBelow None = Unit {0}
  HeldBelow (Some line) = outer < n

  own_is : (held : Option ℕ) (line : ℕ) (bundle : Bundle) (found : Nest) → HeldBelow held
      → All (λ (pair : Pair). pair.resource < n) bundle → own_nest outer inner held line bundle ≡ Some found
      → IsNestOf found
  own_is None line bundle found held below e = cc
  own_is (Some around) line bundle found held below e = ⊎_elim
      (λ asked.
      let it : Nest = record { outer_line = around; outer = outer; inner_line = line; inner = inner } in
      let same : Some it ≡ Some found = sym (ap (λ b. cond b (Some it) None) asked) ∙ e in
      let same' : it ≡ found = cc in
      subst IsNestOf same' (record {
        outer_is = refl;
        inner_is = refl;
        outer_below = held;
        inner_below = of_asked (λ r. r < n) inner bundle asked below;
      }))
      (λ none.
      let it : Nest = record { outer_line = around; outer = outer; inner_line = line; inner = inner } in
      let w : None ≡ Some found = sym (ap (λ b. cond b (Some it) None) none) ∙ e in
      cc)
      (bool_cases (asks inner bundle))

  inside_below : (held : Option ℕ) (line : ℕ) (bundle : Bundle) → HeldBelow held
      → All (λ (pair : Pair). pair.resource < n) bundle → HeldBelow (held_inside outer held line bundle)
  inside_below held line bundle h below = ⊎_elim
      (λ asked.
      subst HeldBelow (sym (ap (λ b. cond b (Some line) held) asked))
      (of_asked (λ r. r < n) outer bundle asked below))
      (λ none. subst HeldBelow (sym (ap (λ b. cond b (Some line) held) none)) h)
      (bool_cases (asks outer bundle))

  mutual
    stmt_is : (held : Option ℕ) (around : Bundle) (s : Stmt) (found : Nest) → HeldBelow held
        → EachHoldOf Below around s → stmt_nest outer inner held s ≡ Some found → IsNestOf found
    stmt_is held around (Assign line x e) found h below is = cc
    stmt_is held around (Print line e) found h below is = cc
    stmt_is held around (If line e a b) found h below is = ⊎_elim
        (λ l. nest_is held around a found h below.0 l) (λ r. nest_is held around b found h below.1 r)
        (which (nest outer inner held a) (nest outer inner held b) found is)
    stmt_is held around (While line e body) found h below is = nest_is held around body found h below is
    stmt_is held around (Hold line bundle body) found h below is = ⊎_elim
        (λ l. own_is held line bundle found h below.0 l)
        (λ r.
        nest_is (held_inside outer held line bundle) (bundle ++ around) body found
        (inside_below held line bundle h below.0) below.1 r)
        (which (own_nest outer inner held line bundle) (nest outer inner (held_inside outer held line bundle) body)
        found is)
    stmt_is held around (Parbegin line number arms) found h below is = arms_is held around arms found h below is

    nest_is : (held : Option ℕ) (around : Bundle) (block : Block) (found : Nest) → HeldBelow held
        → EachHold Below around block → nest outer inner held block ≡ Some found → IsNestOf found
    nest_is held around Skip found h below is = cc
    nest_is held around (Then s block) found h below is = ⊎_elim
        (λ l. stmt_is held around s found h below.0 l) (λ r. nest_is held around block found h below.1 r)
        (which (stmt_nest outer inner held s) (nest outer inner held block) found is)

    arms_is : (held : Option ℕ) (around : Bundle) (arms : Arms) (found : Nest) → HeldBelow held
        → EachHoldAmong Below around arms → arms_nest outer inner held arms ≡ Some found → IsNestOf found
    arms_is held around NoArm found h below is = cc
    arms_is held around (AndArm arm arms) found h below is = ⊎_elim
        (λ l. nest_is held around arm found h below.0 l) (λ r. arms_is held around arms found h below.1 r)
        (which (nest outer inner held arm) (arms_nest outer inner held arms) found is)

  pub among_is : (processes : List Process) (found : Nest) → AskBelow n processes
      → nest_among outer inner processes ≡ Some found → IsNestOf found
  among_is [] found below is = cc
  among_is (process ∷ processes) found below is = ⊎_elim
      (λ l. nest_is None [] process.body found tt (below 0 process (omega arith)) l)
      (λ r. among_is processes found (λ k d u. below (suc k) d (omega (arith, u))) r)
      (which (nest outer inner None process.body) (nest_among outer inner processes) found is)

-- ---- what is so of all nests is so of all holds

-- `Before` is what is so of the outer and the inner resource of each
module _ (Before : (outer inner : ℕ) → Type 0) where
  -- what is asked for is so to all that is asked for around it
  abbrev Comes : (around asked : Bundle) → Type 0
  Comes around asked =
      All (λ (pair : Pair). All (λ (outer : Pair). Before outer.resource pair.resource) around) asked

  -- wherever there is a nest, it is so of its resources
  abbrev Fits : (ℕ → ℕ → Option Nest) → Type 0
  Fits nests = (outer inner : ℕ) → (nests outer inner ≡ None → ⊥) → Before outer inner

  abbrev IsHeld : (ℕ → Option ℕ) → Bundle → Type 0
  IsHeld held around = All (λ (pair : Pair). held pair.resource ≡ None → ⊥) around

  fits_left : (f g : ℕ → ℕ → Option Nest) → Fits (λ o i. first (f o i) (g o i)) → Fits f
  fits_left f g fits o i some = fits o i (λ none. some (both_none (f o i) (g o i) none).0)

  fits_right : (f g : ℕ → ℕ → Option Nest) → Fits (λ o i. first (f o i) (g o i)) → Fits g
  fits_right f g fits o i some = fits o i (λ none. some (both_none (f o i) (g o i) none).1)

  own_there : (outer inner line : ℕ) (held : Option ℕ) (bundle : Bundle) → (held ≡ None → ⊥)
      → asks inner bundle ≡ true → own_nest outer inner held line bundle ≡ None → ⊥
  own_there outer inner line None bundle some asked none = some refl
  own_there outer inner line (Some around) bundle some asked none =
      let it : Nest = record { outer_line = around; outer = outer; inner_line = line; inner = inner } in
      let w : Some it ≡ None = sym (ap (λ b. cond b (Some it) None) asked) ∙ none in
      cc

  own_later : (held : ℕ → Option ℕ) (around bundle : Bundle) (line : ℕ) → IsHeld held around
      → Fits (λ o i. own_nest o i (held o) line bundle) → Comes around bundle
  own_later held around bundle line is fits k d u k' d' u' =
      let outer = (get_or around k' d').resource in
      let inner = (get_or bundle k d).resource in
      fits outer inner (own_there outer inner line (held outer) bundle (is k' d' u') (asks_at inner bundle k d u refl))

  held_more : (held : ℕ → Option ℕ) (around bundle : Bundle) (line : ℕ) → IsHeld held around
      → IsHeld (λ o. held_inside o (held o) line bundle) (bundle ++ around)
  held_more held around bundle line is =
      All-append (λ (pair : Pair). held_inside pair.resource (held pair.resource) line bundle ≡ None → ⊥) bundle around
      (λ k d u none.
      let r = (get_or bundle k d).resource in
      let w : Some line ≡ None =
      sym (ap (λ b. cond b (Some line) (held r)) (asks_at r bundle k d u refl)) ∙ none in
      cc)
      (λ k d u none.
      let r = (get_or around k d).resource in
      ⊎_elim
      (λ asked. let w : Some line ≡ None = sym (ap (λ b. cond b (Some line) (held r)) asked) ∙ none in cc)
      (λ other. is k d u (sym (ap (λ b. cond b (Some line) (held r)) other) ∙ none))
      (bool_cases (asks r bundle)))

  mutual
    stmt_later : (held : ℕ → Option ℕ) (around : Bundle) (s : Stmt) → IsHeld held around
        → Fits (λ o i. stmt_nest o i (held o) s) → EachHoldOf Comes around s
    stmt_later held around (Assign line x e) is fits = tt
    stmt_later held around (Print line e) is fits = tt
    stmt_later held around (If line e a b) is fits = (
      later held around a is (fits_left (λ o i. nest o i (held o) a) (λ o i. nest o i (held o) b) fits),
      later held around b is (fits_right (λ o i. nest o i (held o) a) (λ o i. nest o i (held o) b) fits),
    )
    stmt_later held around (While line e body) is fits = later held around body is fits
    stmt_later held around (Hold line bundle body) is fits = (
      own_later held around bundle line is
          (fits_left (λ o i. own_nest o i (held o) line bundle)
          (λ o i. nest o i (held_inside o (held o) line bundle) body) fits),
      later (λ o. held_inside o (held o) line bundle) (bundle ++ around) body
          (held_more held around bundle line is)
          (fits_right (λ o i. own_nest o i (held o) line bundle)
          (λ o i. nest o i (held_inside o (held o) line bundle) body) fits),
    )
    stmt_later held around (Parbegin line number arms) is fits = arms_later held around arms is fits

    later : (held : ℕ → Option ℕ) (around : Bundle) (block : Block) → IsHeld held around
        → Fits (λ o i. nest o i (held o) block) → EachHold Comes around block
    later held around Skip is fits = tt
    later held around (Then s block) is fits = (
      stmt_later held around s is
          (fits_left (λ o i. stmt_nest o i (held o) s) (λ o i. nest o i (held o) block) fits),
      later held around block is
          (fits_right (λ o i. stmt_nest o i (held o) s) (λ o i. nest o i (held o) block) fits),
    )

    arms_later : (held : ℕ → Option ℕ) (around : Bundle) (arms : Arms) → IsHeld held around
        → Fits (λ o i. arms_nest o i (held o) arms) → EachHoldAmong Comes around arms
    arms_later held around NoArm is fits = tt
    arms_later held around (AndArm arm arms) is fits = (
      later held around arm is
          (fits_left (λ o i. nest o i (held o) arm) (λ o i. arms_nest o i (held o) arms) fits),
      arms_later held around arms is
          (fits_right (λ o i. nest o i (held o) arm) (λ o i. arms_nest o i (held o) arms) fits),
    )

  pub followed : (processes : List Process) → Fits (λ o i. nest_among o i processes) → All (λ process. EachHold Comes [] process.body) processes
  followed [] fits = λ k d u. absurd (omega (arith, u))
  followed (process ∷ processes) fits =
      All-cons (λ (p : Process). EachHold Comes [] p.body) process processes
      (later (λ o. None) [] process.body (λ k d u. absurd (omega (arith, u)))
      (fits_left (λ o i. nest o i None process.body) (λ o i. nest_among o i processes) fits))
      (followed processes
      (fits_right (λ o i. nest o i None process.body) (λ o i. nest_among o i processes) fits))

  -- ---- what is so of all holds is so of all nests

  module _ (outer inner : ℕ) where
    -- if the outer resource is held, then what is so to all that is held around is so to it
    abbrev IsAround : Option ℕ → Bundle → Type 0
    IsAround held around =
        (held ≡ None → ⊥) → All (λ (pair : Pair). Before pair.resource inner) around
        → Before outer inner

    own_fits : (held : Option ℕ) (around bundle : Bundle) (line : ℕ) (found : Nest) → IsAround held around
        → Comes around bundle → own_nest outer inner held line bundle ≡ Some found
        → Before outer inner
    own_fits None around bundle line found is comes e = cc
    own_fits (Some at) around bundle line found is comes e = ⊎_elim
        (λ asked.
        is (λ none. let w : Some at ≡ None = none in cc)
        (of_asked (λ r. All (λ (pair : Pair). Before pair.resource r) around) inner bundle asked comes))
        (λ none.
        let it : Nest = record { outer_line = at; outer = outer; inner_line = line; inner = inner } in
        let w : None ≡ Some found = sym (ap (λ b. cond b (Some it) None) none) ∙ e in
        cc)
        (bool_cases (asks inner bundle))

    around_more : (held : Option ℕ) (around bundle : Bundle) (line : ℕ) → IsAround held around
        → IsAround (held_inside outer held line bundle) (bundle ++ around)
    around_more held around bundle line is some all = ⊎_elim
        (λ asked.
        of_asked (λ r. Before r inner) outer bundle asked
        (all_before (λ (pair : Pair). Before pair.resource inner) bundle around all))
        (λ other.
        is (λ none. some (ap (λ b. cond b (Some line) held) other ∙ none))
        (all_behind (λ (pair : Pair). Before pair.resource inner) bundle around all))
        (bool_cases (asks outer bundle))

    mutual
      stmt_fits : (held : Option ℕ) (around : Bundle) (s : Stmt) (found : Nest) → IsAround held around
          → EachHoldOf Comes around s → stmt_nest outer inner held s ≡ Some found
          → Before outer inner
      stmt_fits held around (Assign line x e) found is h e' = cc
      stmt_fits held around (Print line e) found is h e' = cc
      stmt_fits held around (If line e a b) found is h e' = ⊎_elim
          (λ l. fits held around a found is h.0 l) (λ r. fits held around b found is h.1 r)
          (which (nest outer inner held a) (nest outer inner held b) found e')
      stmt_fits held around (While line e body) found is h e' = fits held around body found is h e'
      stmt_fits held around (Hold line bundle body) found is h e' = ⊎_elim
          (λ l. own_fits held around bundle line found is h.0 l)
          (λ r.
          fits (held_inside outer held line bundle) (bundle ++ around) body found
          (around_more held around bundle line is) h.1 r)
          (which (own_nest outer inner held line bundle) (nest outer inner (held_inside outer held line bundle) body)
          found e')
      stmt_fits held around (Parbegin line number arms) found is h e' = arms_fits held around arms found is h e'

      fits : (held : Option ℕ) (around : Bundle) (block : Block) (found : Nest) → IsAround held around
          → EachHold Comes around block → nest outer inner held block ≡ Some found
          → Before outer inner
      fits held around Skip found is h e = cc
      fits held around (Then s block) found is h e = ⊎_elim
          (λ l. stmt_fits held around s found is h.0 l) (λ r. fits held around block found is h.1 r)
          (which (stmt_nest outer inner held s) (nest outer inner held block) found e)

      arms_fits : (held : Option ℕ) (around : Bundle) (arms : Arms) (found : Nest) → IsAround held around
          → EachHoldAmong Comes around arms → arms_nest outer inner held arms ≡ Some found
          → Before outer inner
      arms_fits held around NoArm found is h e = cc
      arms_fits held around (AndArm arm arms) found is h e = ⊎_elim
          (λ l. fits held around arm found is h.0 l) (λ r. arms_fits held around arms found is h.1 r)
          (which (nest outer inner held arm) (arms_nest outer inner held arms) found e)

    pub among_fits : (processes : List Process) (found : Nest) → All (λ process. EachHold Comes [] process.body) processes
        → nest_among outer inner processes ≡ Some found → Before outer inner
    among_fits [] found h e = cc
    among_fits (process ∷ processes) found h e = ⊎_elim
        (λ l. fits None [] process.body found (λ some all. absurd (some refl)) (h 0 process (omega arith)) l)
        (λ r. among_fits processes found (λ k d u. h (suc k) d (omega (arith, u))) r)
        (which (nest outer inner None process.body) (nest_among outer inner processes) found e)
