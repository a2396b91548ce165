-- A nest that was found is a hold that stands inside another one.
use Rattle.std.proofs.Common.{◌≡◌, ◌∙◌, ◌⊎◌, inl, inr, ⊎_elim, ℕ, ◌<◌, true, cond, [], ◌++◌, Option, Some, None, refl, sym, ap, subst}
use Rattle.std.specs.Prelude.{All}
use Rattle.pb_base.proofs.Cases.{bool_cases}
use Rattle.pb_base.specs.declared.pair.Pair.{Pair}
use Rattle.pb_base.specs.Steppers.{Bundle}
use Rattle.pb_names.specs.Program.{Stmt, Assign, Print, If, While, Hold, Parbegin, Block, Skip, Then, Arms, NoArm}
use Rattle.pb_names.specs.Program.{AndArm}
use Rattle.pb_plan.proofs.NestLemmas.{of_asked, which}
use Rattle.pb_plan.specs.Circles.{IsNestIn}
use Rattle.pb_plan.specs.Nests.{arms_nest, asks, held_inside, nest, own_nest, stmt_nest}
use Rattle.pb_plan.specs.Orders.{EachHold, EachHoldAmong, EachHoldOf}
use Rattle.pb_plan.specs.Standing.{OneHold, StandsIn, StandsInArms, StandsInStmt}
use Rattle.pb_plan.specs.declared.nest.Nest.{Nest}

-- a hold at the inner line that asks for the inner resource, by where it stands
pub record IsInner (Stands : OneHold → Type 0) (found : Nest) : Type 0 where
  pub inside : OneHold
  pub within : Stands inside
  pub inner_line : inside.line ≡ found.inner_line
  pub inner : asks found.inner inside.asked ≡ true

-- both holds, by where they stand
pub record AreBoth (Stands : OneHold → Type 0) (found : Nest) : Type 0 where
  pub around : OneHold
  pub stands : Stands around
  pub outer_line : around.line ≡ found.outer_line
  pub outer : asks found.outer around.asked ≡ true
  pub rest : IsInner (λ it. StandsIn it around.body) found

-- both holds stand there; or the inner one does, inside one that is held at this line
abbrev Found : Option ℕ → (OneHold → Type 0) → Nest → Type 0
Found held Stands found = AreBoth Stands found ⊎ ((held ≡ Some found.outer_line) × IsInner Stands found)

inner_in : (P Q : OneHold → Type 0) (found : Nest) → ((it : OneHold) → P it → Q it) → IsInner P found → IsInner Q found
inner_in P Q found f i = record { inside = i.inside; within = f i.inside i.within; inner_line = i.inner_line; inner = i.inner }

both_in : (P Q : OneHold → Type 0) (found : Nest) → ((it : OneHold) → P it → Q it) → AreBoth P found → AreBoth Q found
both_in P Q found f b = record {
  around = b.around;
  stands = f b.around b.stands;
  outer_line = b.outer_line;
  outer = b.outer;
  rest = b.rest;
}

found_in : (held : Option ℕ) (P Q : OneHold → Type 0) (found : Nest) → ((it : OneHold) → P it → Q it) → Found held P found → Found held Q found
found_in held P Q found f (inl b) = inl (both_in P Q found f b)
found_in held P Q found f (inr i) = inr (i.0, inner_in P Q found f i.1)

module _ (outer inner : ℕ) where
  abbrev Own : ℕ → Bundle → Block → OneHold
  Own line bundle body = record { line = line; asked = bundle; body = body }

  own_found : (held : Option ℕ) (line : ℕ) (bundle : Bundle) (body : Block) (found : Nest)
      → own_nest outer inner held line bundle ≡ Some found → Found held (λ it. StandsInStmt it (Hold line bundle body)) found
  own_found None line bundle body found e = cc
  own_found (Some around) line bundle body found e = ⊎_elim
      (λ asked.
      let it : Nest = record { outer_line = around; outer = outer; inner_line = line; inner = inner } in
      let same : Some it ≡ Some found = sym (ap (λ b. cond b (Some it) None) asked) ∙ e in
      let same' : it ≡ found = cc in
      subst (Found (Some around) (λ it. StandsInStmt it (Hold line bundle body))) same' (inr (
        refl,
        record {
          inside = Own line bundle body;
          within = inl refl;
          inner_line = refl;
          inner = asked;
        },
      )))
      (λ none.
      let it : Nest = record { outer_line = around; outer = outer; inner_line = line; inner = inner } in
      let w : None ≡ Some found = sym (ap (λ b. cond b (Some it) None) none) ∙ e in
      cc)
      (bool_cases (asks inner bundle))

  -- the resources of what was found
  abbrev AreIts : Nest → Type 0
  AreIts found = (found.outer ≡ outer) × (found.inner ≡ inner)

  own_its : (held : Option ℕ) (line : ℕ) (bundle : Bundle) (found : Nest)
      → own_nest outer inner held line bundle ≡ Some found → AreIts found
  own_its None line bundle found e = cc
  own_its (Some around) line bundle found e = ⊎_elim
      (λ asked.
      let it : Nest = record { outer_line = around; outer = outer; inner_line = line; inner = inner } in
      let same : Some it ≡ Some found = sym (ap (λ b. cond b (Some it) None) asked) ∙ e in
      let same' : it ≡ found = cc in
      subst AreIts same' (refl, refl))
      (λ none.
      let it : Nest = record { outer_line = around; outer = outer; inner_line = line; inner = inner } in
      let w : None ≡ Some found = sym (ap (λ b. cond b (Some it) None) none) ∙ e in
      cc)
      (bool_cases (asks inner bundle))

  -- what was found inside a hold, by what the hold asks for
  around_found : (held : Option ℕ) (line : ℕ) (bundle : Bundle) (body : Block) (found : Nest) → found.outer ≡ outer
      → Found (held_inside outer held line bundle) (λ it. StandsIn it body) found
      → Found held (λ it. StandsInStmt it (Hold line bundle body)) found
  around_found held line bundle body found outer_is (inl both) =
      inl (both_in (λ it. StandsIn it body) (λ it. StandsInStmt it (Hold line bundle body)) found (λ it there. inr there) both)
  around_found held line bundle body found outer_is (inr rest) = ⊎_elim
      (λ asked.
      let same : Some line ≡ Some found.outer_line = sym (ap (λ b. cond b (Some line) held) asked) ∙ rest.0 in
      let here : line ≡ found.outer_line = cc in
      inl (record {
        around = Own line bundle body;
        stands = inl refl;
        outer_line = here;
        outer = subst (λ (r : ℕ). asks r bundle ≡ true) (sym outer_is) asked;
        rest = rest.1;
      }))
      (λ other.
      inr (
        sym (ap (λ b. cond b (Some line) held) other) ∙ rest.0,
        inner_in (λ it. StandsIn it body) (λ it. StandsInStmt it (Hold line bundle body)) found (λ it there. inr there) rest.1,
      ))
      (bool_cases (asks outer bundle))

  mutual
    stmt_its : (held : Option ℕ) (s : Stmt) (found : Nest) → stmt_nest outer inner held s ≡ Some found → AreIts found
    stmt_its held (Assign line x e) found is = cc
    stmt_its held (Print line e) found is = cc
    stmt_its held (If line e a b) found is = ⊎_elim (λ l. nest_its held a found l) (λ r. nest_its held b found r)
        (which (nest outer inner held a) (nest outer inner held b) found is)
    stmt_its held (While line e body) found is = nest_its held body found is
    stmt_its held (Hold line bundle body) found is = ⊎_elim
        (λ l. own_its held line bundle found l) (λ r. nest_its (held_inside outer held line bundle) body found r)
        (which (own_nest outer inner held line bundle) (nest outer inner (held_inside outer held line bundle) body) found is)
    stmt_its held (Parbegin line number arms) found is = arms_its held arms found is

    pub nest_its : (held : Option ℕ) (block : Block) (found : Nest) → nest outer inner held block ≡ Some found → AreIts found
    nest_its held Skip found is = cc
    nest_its held (Then s block) found is = ⊎_elim (λ l. stmt_its held s found l) (λ r. nest_its held block found r)
        (which (stmt_nest outer inner held s) (nest outer inner held block) found is)

    arms_its : (held : Option ℕ) (arms : Arms) (found : Nest) → arms_nest outer inner held arms ≡ Some found → AreIts found
    arms_its held NoArm found is = cc
    arms_its held (AndArm arm arms) found is = ⊎_elim (λ l. nest_its held arm found l) (λ r. arms_its held arms found r)
        (which (nest outer inner held arm) (arms_nest outer inner held arms) found is)

  mutual
    stmt_found : (held : Option ℕ) (s : Stmt) (found : Nest) → stmt_nest outer inner held s ≡ Some found
        → Found held (λ it. StandsInStmt it s) found
    stmt_found held (Assign line x e) found is = cc
    stmt_found held (Print line e) found is = cc
    stmt_found held (If line e a b) found is = ⊎_elim
        (λ l. found_in held (λ it. StandsIn it a) (λ it. StandsInStmt it (If line e a b)) found (λ it there. inl there) (nest_found held a found l))
        (λ r. found_in held (λ it. StandsIn it b) (λ it. StandsInStmt it (If line e a b)) found (λ it there. inr there) (nest_found held b found r))
        (which (nest outer inner held a) (nest outer inner held b) found is)
    stmt_found held (While line e body) found is = nest_found held body found is
    stmt_found held (Hold line bundle body) found is = ⊎_elim
        (λ l. own_found held line bundle body found l)
        (λ r.
        around_found held line bundle body found (nest_its (held_inside outer held line bundle) body found r).0
        (nest_found (held_inside outer held line bundle) body found r))
        (which (own_nest outer inner held line bundle) (nest outer inner (held_inside outer held line bundle) body) found is)
    stmt_found held (Parbegin line number arms) found is = arms_found held arms found is

    nest_found : (held : Option ℕ) (block : Block) (found : Nest) → nest outer inner held block ≡ Some found
        → Found held (λ it. StandsIn it block) found
    nest_found held Skip found is = cc
    nest_found held (Then s block) found is = ⊎_elim
        (λ l. found_in held (λ it. StandsInStmt it s) (λ it. StandsIn it (Then s block)) found (λ it there. inl there) (stmt_found held s found l))
        (λ r. found_in held (λ it. StandsIn it block) (λ it. StandsIn it (Then s block)) found (λ it there. inr there) (nest_found held block found r))
        (which (stmt_nest outer inner held s) (nest outer inner held block) found is)

    arms_found : (held : Option ℕ) (arms : Arms) (found : Nest) → arms_nest outer inner held arms ≡ Some found
        → Found held (λ it. StandsInArms it arms) found
    arms_found held NoArm found is = cc
    arms_found held (AndArm arm arms) found is = ⊎_elim
        (λ l. found_in held (λ it. StandsIn it arm) (λ it. StandsInArms it (AndArm arm arms)) found (λ it there. inl there) (nest_found held arm found l))
        (λ r. found_in held (λ it. StandsInArms it arms) (λ it. StandsInArms it (AndArm arm arms)) found (λ it there. inr there) (arms_found held arms found r))
        (which (nest outer inner held arm) (arms_nest outer inner held arms) found is)

  -- a nest in the body of a process
  pub is_nest : (body : Block) (found : Nest) → nest outer inner None body ≡ Some found → IsNestIn body found
  is_nest body found is = ⊎_elim
      (λ b. record {
        around = b.around;
        inside = b.rest.inside;
        stands = b.stands;
        within = b.rest.within;
        outer_line = b.outer_line;
        outer = b.outer;
        inner_line = b.rest.inner_line;
        inner = b.rest.inner;
      })
      (λ i. let w : None ≡ Some found.outer_line = i.0 in absurd cc)
      (nest_found None body found is)

-- ---- the resources of a hold that stands there

module _ (n : ℕ) where
  abbrev Below : (around asked : Bundle) → Type 0
  Below around asked = All (λ (pair : Pair). pair.resource < n) asked

  -- a hold asks for resources below n, and so do those inside it
  record IsHoldBelow (it : OneHold) : Type 0 where
    own : All (λ (pair : Pair). pair.resource < n) it.asked
    around : Bundle
    inside : EachHold Below around it.body

  mutual
    stmt_hold : (around : Bundle) (s : Stmt) (it : OneHold) → EachHoldOf Below around s → StandsInStmt it s → IsHoldBelow it
    stmt_hold around (Assign line x e) it below stands = absurd stands
    stmt_hold around (Print line e) it below stands = absurd stands
    stmt_hold around (If line e a b) it below stands = ⊎_elim (λ l. a_hold around a it below.0 l) (λ r. a_hold around b it below.1 r) stands
    stmt_hold around (While line e body) it below stands = a_hold around body it below stands
    stmt_hold around (Hold line bundle body) it below stands = ⊎_elim
        (λ same. subst IsHoldBelow (sym same) (record { own = below.0; around = bundle ++ around; inside = below.1 }))
        (λ r. a_hold (bundle ++ around) body it below.1 r) stands
    stmt_hold around (Parbegin line number arms) it below stands = arms_hold around arms it below stands

    a_hold : (around : Bundle) (block : Block) (it : OneHold) → EachHold Below around block → StandsIn it block → IsHoldBelow it
    a_hold around Skip it below stands = absurd stands
    a_hold around (Then s block) it below stands = ⊎_elim (λ l. stmt_hold around s it below.0 l) (λ r. a_hold around block it below.1 r) stands

    arms_hold : (around : Bundle) (arms : Arms) (it : OneHold) → EachHoldAmong Below around arms → StandsInArms it arms → IsHoldBelow it
    arms_hold around NoArm it below stands = absurd stands
    arms_hold around (AndArm arm arms) it below stands = ⊎_elim (λ l. a_hold around arm it below.0 l) (λ r. arms_hold around arms it below.1 r) stands

  -- the resources of a nest are below n
  pub nest_below : (body : Block) (found : Nest) → EachHold Below [] body → IsNestIn body found → (found.outer < n) × (found.inner < n)
  nest_below body found below is =
      let around = a_hold [] body is.around below is.stands in
      let inside = a_hold around.around is.around.body is.inside around.inside is.within in (
        of_asked (λ r. r < n) found.outer is.around.asked is.outer around.own,
        of_asked (λ r. r < n) found.inner is.inside.asked is.inner inside.own,
      )
