-- Lists of items and trees of running arms in which each hold meets a condition on what is held around it, and
-- the arms inside have their numbers in a range.
use Rattle.std.proofs.Common.{◌≡◌, ◌∙◌, ℕ, ◌+◌, ◌≤◌, List, [], ◌∷◌, ◌++◌, length, refl, sym}
use Rattle.std.proofs.Common.{subst, arith, length-append, append-nil}
use Rattle.pb_base.specs.Steppers.{Bundle}
use Rattle.pb_names.proofs.ArmNumbers.{running_begin}
use Rattle.pb_names.proofs.NumberedLists.{length-arms_list}
use Rattle.pb_names.specs.Program.{Stmt, Assign, Print, If, While, Hold, Parbegin, Block, Skip, Then, Arms, NoArm}
use Rattle.pb_names.specs.Program.{AndArm, count, arms_in_stmt, arms_in, arms_in_arms, arms_list, IsNumberedStmt}
use Rattle.pb_names.specs.Program.{IsNumbered, AreNumbered}
use Rattle.pb_names.specs.Source.{Item, GiveBack, item_of, items_of, Arm, Doing, Waiting, Ended, Running, Nothing}
use Rattle.pb_names.specs.Source.{Beside, begin, running_arms}
use Rattle.pb_plan.specs.Orders.{EachHoldOf, EachHold, EachHoldAmong}

-- what is held around what stands before these items
abbrev pub around : Bundle → List Item → Bundle
around outer [] = outer
around outer (Item.Assign line x e ∷ rest) = around outer rest
around outer (Item.Print line e ∷ rest) = around outer rest
around outer (Item.If line e a b ∷ rest) = around outer rest
around outer (Item.While line test e body ∷ rest) = around outer rest
around outer (Item.Hold line bundle body ∷ rest) = around outer rest
around outer (GiveBack line bundle ∷ rest) = bundle ++ around outer rest
around outer (Item.Parbegin line first arms ∷ rest) = around outer rest

around_stmt : (outer : Bundle) (s : Stmt) (rest : List Item) → around outer (item_of s ∷ rest) ≡ around outer rest
around_stmt outer (Assign line x e) rest = refl
around_stmt outer (Print line e) rest = refl
around_stmt outer (If line e a b) rest = refl
around_stmt outer (While line e body) rest = refl
around_stmt outer (Hold line bundle body) rest = refl
around_stmt outer (Parbegin line first arms) rest = refl

-- a block holds nothing yet
pub around_block : (outer : Bundle) (block : Block) (rest : List Item)
    → around outer (items_of block ++ rest) ≡ around outer rest
around_block outer Skip rest = refl
around_block outer (Then s block) rest =
    around_stmt outer s (items_of block ++ rest) ∙ around_block outer block rest

-- the arms inside have their numbers from lo up to hi
abbrev pub OwnsBlock : ℕ → ℕ → Block → Type 0
OwnsBlock lo hi block = (m : ℕ) × (lo ≤ m) × IsNumbered m block × (m + length (arms_in block) ≤ hi)

module _ (Meets : Bundle → Bundle → Type 0) where
  abbrev pub FitsBlock : ℕ → ℕ → Bundle → Block → Type 0
  FitsBlock lo hi outer block = OwnsBlock lo hi block × EachHold Meets outer block

  abbrev pub FitsItem : ℕ → ℕ → Bundle → Item → Type 0
  FitsItem lo hi outer (Item.Assign line x e) = Unit {0}
  FitsItem lo hi outer (Item.Print line e) = Unit {0}
  FitsItem lo hi outer (Item.If line e a b) = FitsBlock lo hi outer a × FitsBlock lo hi outer b
  FitsItem lo hi outer (Item.While line test e body) = FitsBlock lo hi outer body
  FitsItem lo hi outer (Item.Hold line bundle body) = Meets outer bundle × FitsBlock lo hi (bundle ++ outer) body
  FitsItem lo hi outer (GiveBack line bundle) = Unit {0}
  FitsItem lo hi outer (Item.Parbegin line first arms) =
      (lo ≤ first) × AreNumbered (first + count arms) arms
      × (first + count arms + length (arms_in_arms arms) ≤ hi) × EachHoldAmong Meets outer arms

  abbrev pub FitItems : ℕ → ℕ → Bundle → List Item → Type 0
  FitItems lo hi outer [] = Unit {0}
  FitItems lo hi outer (item ∷ items) = FitsItem lo hi (around outer items) item × FitItems lo hi outer items

  -- an arm inside whose numbers are from lo up to hi, and arms of which each has a range for itself
  abbrev mutual
    pub FitsArm : ℕ → ℕ → Bundle → Arm → Type 0
    FitsArm lo hi outer (Doing items) = (lo ≤ hi) × FitItems lo hi outer items
    FitsArm lo hi outer (Waiting line first arms rest) =
        (lo ≤ first) × FitItems lo hi outer rest × FitArms (first + running_arms arms) hi (around outer rest) arms
    FitsArm lo hi outer Ended = lo ≤ hi

    pub FitArms : ℕ → ℕ → Bundle → Running → Type 0
    FitArms lo hi outer Nothing = lo ≤ hi
    FitArms lo hi outer (Beside arm arms) =
        (mid : ℕ) × FitsArm lo mid outer arm × FitArms mid hi outer arms

  mutual
    pub arm_le : (lo hi : ℕ) (outer : Bundle) (arm : Arm) → FitsArm lo hi outer arm → lo ≤ hi
    arm_le lo hi outer (Doing items) h = h.0
    arm_le lo hi outer (Waiting line first arms rest) h =
        let e = arms_le (first + running_arms arms) hi (around outer rest) arms h.2 in
        let l = h.0 in
        omega (arith, e, l)
    arm_le lo hi outer Ended h = h

    pub arms_le : (lo hi : ℕ) (outer : Bundle) (arms : Running) → FitArms lo hi outer arms → lo ≤ hi
    arms_le lo hi outer Nothing h = h
    arms_le lo hi outer (Beside arm arms) h =
        let a = arm_le lo h.0 outer arm h.1 in
        let b = arms_le h.0 hi outer arms h.2 in
        omega (arith, a, b)

  -- ---- a block that is entered

  fits_stmt : (lo hi m : ℕ) (outer : Bundle) (s : Stmt) → lo ≤ m → IsNumberedStmt m s
      → m + length (arms_in_stmt s) ≤ hi → EachHoldOf Meets outer s → FitsItem lo hi outer (item_of s)
  fits_stmt lo hi m outer (Assign line x e) l n u h = tt
  fits_stmt lo hi m outer (Print line e) l n u h = tt
  fits_stmt lo hi m outer (If line e a b) l n u h =
      let both = length-append (arms_in a) (arms_in b) in (
        ((m, l, n.0, omega (arith, both, u)), h.0),
        ((m + length (arms_in a), omega (arith, l), n.1, omega (arith, both, u)), h.1),
      )
  fits_stmt lo hi m outer (While line e body) l n u h = ((m, l, n, u), h)
  fits_stmt lo hi m outer (Hold line bundle body) l n u h = (h.0, ((m, l, n, u), h.1))
  fits_stmt lo hi m outer (Parbegin line first arms) l n u h =
      let e = n.0 in
      let both = length-append (arms_list arms) (arms_in_arms arms) in
      let many = length-arms_list arms in (
        omega (arith, l, e),
        subst (λ k. AreNumbered (k + count arms) arms) (sym e) n.1,
        omega (arith, e, both, many, u),
        h,
      )

  fit_from : (lo hi m : ℕ) (outer : Bundle) (block : Block) (rest : List Item) → lo ≤ m → IsNumbered m block
      → m + length (arms_in block) ≤ hi → EachHold Meets (around outer rest) block → FitItems lo hi outer rest
      → FitItems lo hi outer (items_of block ++ rest)
  fit_from lo hi m outer Skip rest l n u h k = k
  fit_from lo hi m outer (Then s block) rest l n u h k =
      let both = length-append (arms_in_stmt s) (arms_in block) in
      let first = fits_stmt lo hi m (around outer rest) s l n.0 (omega (arith, both, u)) h.0 in (
        subst (λ o. FitsItem lo hi o (item_of s)) (sym (around_block outer block rest)) first,
        fit_from lo hi (m + length (arms_in_stmt s)) outer block rest (omega (arith, l)) n.1
            (omega (arith, both, u)) h.1 k,
      )

  pub fit_block : (lo hi : ℕ) (outer : Bundle) (block : Block) (rest : List Item)
      → FitsBlock lo hi (around outer rest) block → FitItems lo hi outer rest
      → FitItems lo hi outer (items_of block ++ rest)
  fit_block lo hi outer block rest b k = fit_from lo hi b.0.0 outer block rest b.0.1 b.0.2 b.0.3 b.1 k

  pub fits_start : (m hi : ℕ) (outer : Bundle) (block : Block) → IsNumbered m block
      → m + length (arms_in block) ≤ hi → EachHold Meets outer block → FitsArm m hi outer (Doing (items_of block))
  fits_start m hi outer block n u h = (
    omega (arith, u),
    subst (λ items. FitItems m hi outer items) (append-nil (items_of block))
        (fit_from m hi m outer block [] (omega arith) n u h tt),
  )

  pub fit_begin : (n hi : ℕ) (outer : Bundle) (arms : Arms) → AreNumbered n arms
      → n + length (arms_in_arms arms) ≤ hi → EachHoldAmong Meets outer arms → FitArms n hi outer (begin arms)
  fit_begin n hi outer NoArm m u h = omega (arith, u)
  fit_begin n hi outer (AndArm arm arms) m u h =
      let both = length-append (arms_in arm) (arms_in_arms arms) in (
        n + length (arms_in arm),
        fits_start n (n + length (arms_in arm)) outer arm m.0 (omega arith) h.0,
        fit_begin (n + length (arms_in arm)) hi outer arms m.1 (omega (arith, both, u)) h.1,
      )

  -- the arms of a parbegin that is begun
  pub fits_begun : (lo hi line first : ℕ) (outer : Bundle) (arms : Arms) (rest : List Item)
      → FitsItem lo hi (around outer rest) (Item.Parbegin line first arms) → FitItems lo hi outer rest
      → FitsArm lo hi outer (Waiting line first (begin arms) rest)
  fits_begun lo hi line first outer arms rest h k = (
    h.0,
    k,
    subst (λ n. FitArms (first + n) hi (around outer rest) (begin arms)) (sym (running_begin arms))
        (fit_begin (first + count arms) hi (around outer rest) arms h.1 h.2 h.3),
  )
