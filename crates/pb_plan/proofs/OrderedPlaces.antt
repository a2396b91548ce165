-- Where an arm with a number is in a tree, and what the tree is once the arm is replaced.
use Rattle.std.proofs.Common.{◌≡◌, ◌∙◌, ◌⊎◌, inl, inr, ⊎_elim, ℕ, suc, ◌+◌, ◌<◌, ◌≤◌, List}
use Rattle.std.proofs.Common.{Option, Some, None, refl, sym, ap, subst, arith}
use Rattle.pb_base.proofs.Cases.{if_other, if_same, same_or_not}
use Rattle.pb_base.specs.Steppers.{Bundle}
use Rattle.pb_names.proofs.ArmNumbers.{Mine, AllMine, first_mine, later_mine}
use Rattle.pb_names.specs.Claims.{held, held_among}
use Rattle.pb_names.specs.Source.{Item, Arm, Doing, Waiting, Ended, Running, Nothing, Beside, running_arms}
use Rattle.pb_names.specs.Source.{first_some, find, find_among, put, put_among}
use Rattle.pb_plan.proofs.OrderedItems.{around, FitsArm, FitArms, arm_le, arms_le}

-- the first of two, or the second
both_missing : (o other : Option Arm) → first_some o other ≡ None → (o ≡ None) × (other ≡ None)
both_missing (Some x) other e = cc
both_missing None other e = (refl, e)

which : (o other : Option Arm) (x : Arm) → first_some o other ≡ Some x → (o ≡ Some x) ⊎ (o ≡ None) × (other ≡ Some x)
which (Some y) other x e = inl e
which None other x e = inr (refl, e)

-- ---- an arm that is not there is not replaced

mutual
  missing : (a n : ℕ) (new arm : Arm) → find a n arm ≡ None → put a new n arm ≡ arm
  missing a n new (Doing items) none = ⊎_elim
      (λ e. let w : Some (Doing items) ≡ None = sym (if_same a n _ _ e) ∙ none in cc)
      (λ ne. if_other a n _ _ ne) (same_or_not a n)
  missing a n new (Waiting line first arms rest) none = ⊎_elim
      (λ e. let w : Some (Waiting line first arms rest) ≡ None = sym (if_same a n _ _ e) ∙ none in cc)
      (λ ne. if_other a n _ _ ne
      ∙ ap (λ x. Waiting line first x rest) (missing_among a first new arms (sym (if_other a n _ _ ne) ∙ none)))
      (same_or_not a n)
  missing a n new Ended none = ⊎_elim
      (λ e. let w : Some Ended ≡ None = sym (if_same a n _ _ e) ∙ none in cc)
      (λ ne. if_other a n _ _ ne) (same_or_not a n)

  missing_among : (a n : ℕ) (new : Arm) (arms : Running) → find_among a n arms ≡ None → put_among a new n arms ≡ arms
  missing_among a n new Nothing none = refl
  missing_among a n new (Beside arm arms) none =
      let parts = both_missing (find a n arm) (find_among a (n + 1) arms) none in
      ap (λ x. Beside x (put_among a new (n + 1) arms)) (missing a n new arm parts.0)
      ∙ ap (λ x. Beside arm x) (missing_among a (n + 1) new arms parts.1)

-- ---- ranges

inner : (lo hi f k a : ℕ) → lo ≤ f → f + k ≤ hi → AllMine f k (f + k) hi a → (lo ≤ a) × (a < hi)
inner lo hi f k a l u (inl m) = (omega (arith, l, m.0), omega (arith, u, m.1))
inner lo hi f k a l u (inr m) = (omega (arith, l, m.0), m.1)

module _ (Meets : Bundle → Bundle → Type 0) where
  -- ---- the numbers of the arms that are there

  mutual
    mine : (a n lo hi : ℕ) (outer : Bundle) (arm x : Arm) → FitsArm Meets lo hi outer arm → find a n arm ≡ Some x
        → Mine n lo hi a
    mine a n lo hi outer (Doing items) x h e = ⊎_elim (λ same. inl same)
        (λ ne. let w : None ≡ Some x = sym (if_other a n _ _ ne) ∙ e in cc) (same_or_not a n)
    mine a n lo hi outer (Waiting line first arms rest) x h e = ⊎_elim (λ same. inl same)
        (λ ne.
        let m =
        all_mine a first (first + running_arms arms) hi (around outer rest) arms x h.2
        (sym (if_other a n _ _ ne) ∙ e) in
        let le = arms_le Meets (first + running_arms arms) hi (around outer rest) arms h.2 in
        inr (inner lo hi first (running_arms arms) a h.0 le m)) (same_or_not a n)
    mine a n lo hi outer Ended x h e = ⊎_elim (λ same. inl same)
        (λ ne. let w : None ≡ Some x = sym (if_other a n _ _ ne) ∙ e in cc) (same_or_not a n)

    all_mine : (a n lo hi : ℕ) (outer : Bundle) (arms : Running) (x : Arm) → FitArms Meets lo hi outer arms
        → find_among a n arms ≡ Some x → AllMine n (running_arms arms) lo hi a
    all_mine a n lo hi outer Nothing x h e = cc
    all_mine a n lo hi outer (Beside arm arms) x h e = ⊎_elim
        (λ q. first_mine n (running_arms arms) lo h.0 hi a (arms_le Meets h.0 hi outer arms h.2)
        (mine a n lo h.0 outer arm x h.1 q))
        (λ q. later_mine n (running_arms arms) lo h.0 hi a (arm_le Meets lo h.0 outer arm h.1)
        (all_mine a (n + 1) h.0 hi outer arms x h.2 q.1))
        (which (find a n arm) (find_among a (n + 1) arms) x e)

  -- an arm is in one place alone
  apart : (a n k lo mid hi : ℕ) → n + suc k ≤ lo → lo ≤ mid → Mine n lo mid a → AllMine (n + 1) k mid hi a → ⊥
  apart a n k lo mid hi u l (inl m) (inl q) = omega (arith, m, q.0)
  apart a n k lo mid hi u l (inl m) (inr q) = omega (arith, m, q.0, u, l)
  apart a n k lo mid hi u l (inr m) (inl q) = omega (arith, m.0, q.1, u)
  apart a n k lo mid hi u l (inr m) (inr q) = omega (arith, m.1, q.0)

  none_later : (a n lo hi : ℕ) (outer : Bundle) (arm : Arm) (arms : Running)
      (h : FitArms Meets lo hi outer (Beside arm arms)) → n + suc (running_arms arms) ≤ lo → Mine n lo h.0 a
      → find_among a (n + 1) arms ≡ None
  none_later a n lo hi outer arm arms h u m = go (find_among a (n + 1) arms) refl
    where
      go : (o : Option Arm) → find_among a (n + 1) arms ≡ o → o ≡ None
      go None e = refl
      go (Some x) e =
          absurd (apart a n (running_arms arms) lo h.0 hi u (arm_le Meets lo h.0 outer arm h.1) m
          (all_mine a (n + 1) h.0 hi outer arms x h.2 e))

  pub none_before : (a n lo hi : ℕ) (outer : Bundle) (arm : Arm) (arms : Running) (x : Arm)
      (h : FitArms Meets lo hi outer (Beside arm arms)) → n + suc (running_arms arms) ≤ lo
      → find_among a (n + 1) arms ≡ Some x → find a n arm ≡ None
  none_before a n lo hi outer arm arms x h u e = go (find a n arm) refl
    where
      go : (o : Option Arm) → find a n arm ≡ o → o ≡ None
      go None q = refl
      go (Some y) q =
          absurd (apart a n (running_arms arms) lo h.0 hi u (arm_le Meets lo h.0 outer arm h.1)
          (mine a n lo h.0 outer arm y h.1 q) (all_mine a (n + 1) h.0 hi outer arms x h.2 e))

  -- an arm inside another one has another number
  pub not_inside : (a n lo hi line first : ℕ) (outer : Bundle) (arms : Running) (rest : List Item) (x : Arm) → n < lo
      → FitsArm Meets lo hi outer (Waiting line first arms rest) → find_among a first arms ≡ Some x
      → find a n (Waiting line first arms rest) ≡ Some x
  not_inside a n lo hi line first outer arms rest x less h e =
      if_other a n _ _ (λ same.
      go (all_mine a first (first + running_arms arms) hi (around outer rest) arms x h.2 e) same) ∙ e
    where
      go : AllMine first (running_arms arms) (first + running_arms arms) hi a → a ≡ n → ⊥
      go (inl m) same = let l = h.0 in omega (arith, m.0, same, less, l)
      go (inr m) same = let l = h.0 in omega (arith, m.0, same, less, l)

  -- ---- an arm that is there

  pub record IsPlaced (n lo hi : ℕ) (outer : Bundle) (arm : Arm) (a : ℕ) (found : Arm) : Type 0 where
    pub low : ℕ
    pub high : ℕ
    pub inner : Bundle
    pub fits : FitsArm Meets low high inner found
    pub back : (new : Arm) → FitsArm Meets low high inner new → FitsArm Meets lo hi outer (put a new n arm)
    pub holds : (r : ℕ) (new : Arm) → held r (put a new n arm) + held r found ≡ held r arm + held r new

  record ArePlaced (n lo hi : ℕ) (outer : Bundle) (arms : Running) (a : ℕ) (found : Arm) : Type 0 where
    low : ℕ
    high : ℕ
    inner : Bundle
    fits : FitsArm Meets low high inner found
    back : (new : Arm) → FitsArm Meets low high inner new → FitArms Meets lo hi outer (put_among a new n arms)
    holds : (r : ℕ) (new : Arm)
        → held_among r (put_among a new n arms) + held r found ≡ held_among r arms + held r new

  -- the arm itself
  itself : (a n lo hi : ℕ) (outer : Bundle) (arm x : Arm) → FitsArm Meets lo hi outer arm
      → find a n arm ≡ Some arm → ((new : Arm) → put a new n arm ≡ new) → find a n arm ≡ Some x
      → IsPlaced n lo hi outer arm a x
  itself a n lo hi outer arm x h here puts e =
      let same : Some arm ≡ Some x = sym here ∙ e in
      let same' : arm ≡ x = cc in
      subst (IsPlaced n lo hi outer arm a) same' (record {
        low = lo;
        high = hi;
        inner = outer;
        fits = h;
        back = λ new f. subst (FitsArm Meets lo hi outer) (sym (puts new)) f;
        holds = λ r new. let q = ap (held r) (puts new) in omega (arith, q);
      })

  put_size : (a : ℕ) (new : Arm) (n : ℕ) (arms : Running)
      → running_arms (put_among a new n arms) ≡ running_arms arms
  put_size a new n Nothing = refl
  put_size a new n (Beside arm arms) = ap suc (put_size a new (n + 1) arms)

  first_placed : (a n lo hi : ℕ) (outer : Bundle) (arm : Arm) (arms : Running) (x : Arm)
      (h : FitArms Meets lo hi outer (Beside arm arms)) → n + suc (running_arms arms) ≤ lo → find a n arm ≡ Some x
      → IsPlaced n lo h.0 outer arm a x → ArePlaced n lo hi outer (Beside arm arms) a x
  first_placed a n lo hi outer arm arms x h less q p =
      let none = none_later a n lo hi outer arm arms h less (mine a n lo h.0 outer arm x h.1 q) in
      record {
        low = p.low;
        high = p.high;
        inner = p.inner;
        fits = p.fits;
        back = λ new f.
            (h.0, p.back new f, subst (FitArms Meets h.0 hi outer) (sym (missing_among a (n + 1) new arms none)) h.2);
        holds = λ r new.
            let b = p.holds r new in
            let z = ap (held_among r) (missing_among a (n + 1) new arms none) in
            omega (arith, b, z);
      }

  later_placed : (a n lo hi : ℕ) (outer : Bundle) (arm : Arm) (arms : Running) (x : Arm)
      (h : FitArms Meets lo hi outer (Beside arm arms)) → find a n arm ≡ None
      → ArePlaced (n + 1) h.0 hi outer arms a x → ArePlaced n lo hi outer (Beside arm arms) a x
  later_placed a n lo hi outer arm arms x h q p = record {
    low = p.low;
    high = p.high;
    inner = p.inner;
    fits = p.fits;
    back = λ new f. (h.0, subst (FitsArm Meets lo h.0 outer) (sym (missing a n new arm q)) h.1, p.back new f);
    holds = λ r new.
        let b = p.holds r new in
        let z = ap (held r) (missing a n new arm q) in
        omega (arith, b, z);
  }

  mutual
    pub placed : (a n lo hi : ℕ) (outer : Bundle) (arm x : Arm) → n < lo → FitsArm Meets lo hi outer arm
        → find a n arm ≡ Some x → IsPlaced n lo hi outer arm a x
    placed a n lo hi outer (Doing items) x less h e = ⊎_elim
        (λ same. itself a n lo hi outer (Doing items) x h (if_same a n _ _ same) (λ new. if_same a n _ _ same) e)
        (λ ne. let w : None ≡ Some x = sym (if_other a n _ _ ne) ∙ e in cc) (same_or_not a n)
    placed a n lo hi outer (Waiting line first arms rest) x less h e = ⊎_elim
        (λ same.
        itself a n lo hi outer (Waiting line first arms rest) x h (if_same a n _ _ same)
        (λ new. if_same a n _ _ same) e)
        (λ ne.
        let p =
        all_placed a first (first + running_arms arms) hi (around outer rest) arms x (omega arith) h.2
        (sym (if_other a n _ _ ne) ∙ e) in
        record {
          low = p.low;
          high = p.high;
          inner = p.inner;
          fits = p.fits;
          back = λ new f.
              subst (FitsArm Meets lo hi outer) (sym (if_other a n _ _ ne)) (
                h.0,
                h.1,
                subst (λ k. FitArms Meets (first + k) hi (around outer rest) (put_among a new first arms))
                    (sym (put_size a new first arms)) (p.back new f),
              );
          holds = λ r new.
              let q = p.holds r new in
              let z : held r (put a new n (Waiting line first arms rest))
              ≡ held r (Waiting line first (put_among a new first arms) rest) = ap (held r) (if_other a n _ _ ne) in
              omega (arith, q, z);
        })
        (same_or_not a n)
    placed a n lo hi outer Ended x less h e = ⊎_elim
        (λ same. itself a n lo hi outer Ended x h (if_same a n _ _ same) (λ new. if_same a n _ _ same) e)
        (λ ne. let w : None ≡ Some x = sym (if_other a n _ _ ne) ∙ e in cc) (same_or_not a n)

    all_placed : (a n lo hi : ℕ) (outer : Bundle) (arms : Running) (x : Arm) → n + running_arms arms ≤ lo
        → FitArms Meets lo hi outer arms → find_among a n arms ≡ Some x → ArePlaced n lo hi outer arms a x
    all_placed a n lo hi outer Nothing x less h e = cc
    all_placed a n lo hi outer (Beside arm arms) x less h e = ⊎_elim
        (λ q. first_placed a n lo hi outer arm arms x h less q
        (placed a n lo h.0 outer arm x (omega (arith, less)) h.1 q))
        (λ q.
        let le = arm_le Meets lo h.0 outer arm h.1 in
        later_placed a n lo hi outer arm arms x h q.0
        (all_placed a (n + 1) h.0 hi outer arms x (omega (arith, less, le)) h.2 q.1))
        (which (find a n arm) (find_among a (n + 1) arms) x e)
