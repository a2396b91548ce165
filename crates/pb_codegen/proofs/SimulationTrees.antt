-- The tree of running arms, against the table of threads: each arm of the tree owns a range of numbers for
-- the arms inside it.
use Rattle.std.proofs.Common.{◌≡◌, ◌⊎◌, inl, inr, ⊎_elim, ℕ, suc, ◌+◌, ◌<◌, ◌≤◌, ℤ, List, []}
use Rattle.std.proofs.Common.{◌∷◌, length, Some, None, refl, sym, ap, ◌∙◌, subst, arith}
use Rattle.std.specs.Prelude.{slice_get}
use Rattle.std.proofs.lemmas.Bool.{cases_lt}
use Rattle.pb_base.proofs.Cases.{if_other, if_same}
use Rattle.pb_names.specs.Program.{Block, count, arms_in, arms_in_arms, IsNumbered, AreNumbered}
use Rattle.pb_names.specs.Source.{Item, GiveBack, Arm, Doing, running_arms}
use Rattle.pb_names.specs.Source.{Waiting, Ended, Running, Nothing, Beside, first_some, find, find_among, put}
use Rattle.pb_names.specs.Source.{put_among}
use Rattle.pb_code.specs.Code.{Join, Thread, Idle, Live, thread}
use Rattle.pb_names.specs.Claims.{FreeStep, in_arms, FreeStepAmong, in_first, in_later, held, held_among}
use Rattle.pb_names.proofs.ArmNumbers.{Mine, AllMine, first_mine, later_mine}
use Rattle.pb_codegen.proofs.SimulationShapes.{SameArm, same_waiting, SameRunning, same_beside, same_items, same_arm}
use Rattle.pb_codegen.proofs.SimulationShapes.{same_running}
use Rattle.pb_codegen.proofs.SimulationListings.{Listing, line_at}
use Rattle.pb_codegen.proofs.SimulationArms.{StandsFrom}

abbrev pub AreIdle : List Thread → ℕ → ℕ → Type 0
AreIdle threads lo hi = (a : ℕ) → lo ≤ a → a < hi → thread threads a ≡ Idle

-- the arms inside have their numbers from lo up to hi
abbrev pub OwnsBlock : ℕ → ℕ → Block → Type 0
OwnsBlock lo hi block = (m : ℕ) × (lo ≤ m) × IsNumbered m block × (m + length (arms_in block) ≤ hi)

abbrev pub OwnsItem : ℕ → ℕ → Item → Type 0
OwnsItem lo hi (Item.Assign line x e) = Unit {0}
OwnsItem lo hi (Item.Print line e) = Unit {0}
OwnsItem lo hi (Item.If line e a b) = OwnsBlock lo hi a × OwnsBlock lo hi b
OwnsItem lo hi (Item.While line test e body) = OwnsBlock lo hi body
OwnsItem lo hi (Item.Hold line bundle body) = OwnsBlock lo hi body
OwnsItem lo hi (GiveBack line bundle) = Unit {0}
OwnsItem lo hi (Item.Parbegin line first arms) =
    (lo ≤ first) × AreNumbered (first + count arms) arms
    × (first + count arms + length (arms_in_arms arms) ≤ hi)

abbrev pub Owns : ℕ → ℕ → List Item → Type 0
Owns lo hi [] = lo ≤ hi
Owns lo hi (item ∷ items) = OwnsItem lo hi item × Owns lo hi items

-- arm n, and the arms inside it, which have their numbers from lo up to hi: all others of these are idle
abbrev mutual
  pub Shows : Listing → List Thread → ℕ → ℕ → ℕ → Arm → Type 0
  Shows code threads n lo hi (Doing items) =
      (p : ℕ) × (s : List ℤ) × (thread threads n ≡ Live p s) × StandsFrom code items p s × Owns lo hi items × (lo ≤ hi) × AreIdle threads lo hi
  Shows code threads n lo hi (Waiting line first arms rest) =
      (p : ℕ) × (thread threads n ≡ Live p []) × (slice_get code.instrs p ≡ Some (Join first (running_arms arms))) × StandsFrom code rest (p + 1) []
      × Owns lo hi rest × (lo ≤ first) × AreIdle threads lo first
      × AllShow code threads first (first + running_arms arms) hi arms × (line_at code p ≡ Some line)
  Shows code threads n lo hi Ended = (thread threads n ≡ Thread.Ended) × (lo ≤ hi) × AreIdle threads lo hi

  -- the arms n, n + 1 and so on
  pub AllShow : Listing → List Thread → ℕ → ℕ → ℕ → Running → Type 0
  AllShow code threads n lo hi Nothing = (lo ≤ hi) × AreIdle threads lo hi
  AllShow code threads n lo hi (Beside arm arms) =
      (mid : ℕ) × Shows code threads n lo mid arm × AllShow code threads (n + 1) mid hi arms

mutual
  pub shows_le : (code : Listing) (threads : List Thread) (n lo hi : ℕ) (arm : Arm)
      → Shows code threads n lo hi arm → lo ≤ hi
  shows_le code threads n lo hi (Doing items) h = h.5
  shows_le code threads n lo hi (Waiting line first arms rest) h =
      let e = all_show_le code threads first (first + running_arms arms) hi arms h.7 in omega (arith, e, h.5)
  shows_le code threads n lo hi Ended h = h.1

  pub all_show_le : (code : Listing) (threads : List Thread) (n lo hi : ℕ) (arms : Running)
      → AllShow code threads n lo hi arms → lo ≤ hi
  all_show_le code threads n lo hi Nothing h = h.0
  all_show_le code threads n lo hi (Beside arm arms) h =
      let a = shows_le code threads n lo h.0 arm h.1 in
      let b = all_show_le code threads (n + 1) h.0 hi arms h.2 in omega (arith, a, b)

-- ---- ranges

inner_range : (first k hi lo a : ℕ) → lo ≤ first → first + k ≤ hi → AllMine first k (first + k) hi a
    → (lo ≤ a) × (a < hi)
inner_range first k hi lo a l u (inl m) = omega arith
inner_range first k hi lo a l u (inr m) = omega arith

-- ---- what else happens in the table doesn't matter

idle_frame : (threads threads' : List Thread) (lo hi : ℕ) → AreIdle threads lo hi
    → ((a : ℕ) → lo ≤ a → a < hi → thread threads' a ≡ thread threads a) → AreIdle threads' lo hi
idle_frame threads threads' lo hi idle same a l h = same a l h ∙ idle a l h

mutual
  pub frame : (code : Listing) (threads threads' : List Thread) (n lo hi : ℕ) (arm : Arm)
      → Shows code threads n lo hi arm → ((a : ℕ) → Mine n lo hi a → thread threads' a ≡ thread threads a)
      → Shows code threads' n lo hi arm
  frame code threads threads' n lo hi (Doing items) h same =
      (h.0, h.1, same n (inl refl) ∙ h.2, h.3, h.4, h.5, idle_frame threads threads' lo hi h.6 (λ a l u. same a (inr (l, u))))
  frame code threads threads' n lo hi (Waiting line first arms rest) h same =
      let le = all_show_le code threads first (first + running_arms arms) hi arms h.7 in (
        h.0,
        same n (inl refl) ∙ h.1,
        h.2,
        h.3,
        h.4,
        h.5,
        idle_frame threads threads' lo first h.6 (λ a l u. same a (inr (l, omega (arith, le)))),
        all_frame code threads threads' first (first + running_arms arms) hi arms h.7
            (λ a m. same a (inr (inner_range first (running_arms arms) hi lo a h.5 le m))),
        h.8,
      )
  frame code threads threads' n lo hi Ended h same =
      (same n (inl refl) ∙ h.0, h.1, idle_frame threads threads' lo hi h.2 (λ a l u. same a (inr (l, u))))

  pub all_frame : (code : Listing) (threads threads' : List Thread) (n lo hi : ℕ) (arms : Running)
      → AllShow code threads n lo hi arms
      → ((a : ℕ) → AllMine n (running_arms arms) lo hi a → thread threads' a ≡ thread threads a)
      → AllShow code threads' n lo hi arms
  all_frame code threads threads' n lo hi Nothing h same =
      (h.0, idle_frame threads threads' lo hi h.1 (λ a l u. same a (inr (l, u))))
  all_frame code threads threads' n lo hi (Beside arm arms) h same =
      let le1 = shows_le code threads n lo h.0 arm h.1 in
      let le2 = all_show_le code threads (n + 1) h.0 hi arms h.2 in (
        h.0,
        frame code threads threads' n lo h.0 arm h.1 (λ a m. same a (first_mine n (running_arms arms) lo h.0 hi a le2 m)),
        all_frame code threads threads' (n + 1) h.0 hi arms h.2 (λ a m. same a (later_mine n (running_arms arms) lo h.0 hi a le1 m)),
      )

-- ---- an arm that isn't in the tree

mutual
  pub outside : (code : Listing) (threads : List Thread) (n lo hi : ℕ) (arm : Arm) (a : ℕ)
      → Shows code threads n lo hi arm → (Mine n lo hi a → ⊥)
      → (find a n arm ≡ None) × ((new : Arm) → put a new n arm ≡ arm)
  outside code threads n lo hi (Doing items) a h out =
      let ne : a ≡ n → ⊥ = λ e. out (inl e) in
      (if_other a n _ _ ne, λ new. if_other a n _ _ ne)
  outside code threads n lo hi (Waiting line first arms rest) a h out =
      let ne : a ≡ n → ⊥ = λ e. out (inl e) in
      let le = all_show_le code threads first (first + running_arms arms) hi arms h.7 in
      let inner = all_outside code threads first (first + running_arms arms) hi arms a h.7
      (λ m. out (inr (inner_range first (running_arms arms) hi lo a h.5 le m))) in
      (if_other a n _ _ ne ∙ inner.0, λ new. if_other a n _ _ ne ∙ ap (λ r. Waiting line first r rest) (inner.1 new))
  outside code threads n lo hi Ended a h out =
      let ne : a ≡ n → ⊥ = λ e. out (inl e) in
      (if_other a n _ _ ne, λ new. if_other a n _ _ ne)

  all_outside : (code : Listing) (threads : List Thread) (n lo hi : ℕ) (arms : Running) (a : ℕ)
      → AllShow code threads n lo hi arms → (AllMine n (running_arms arms) lo hi a → ⊥)
      → (find_among a n arms ≡ None) × ((new : Arm) → put_among a new n arms ≡ arms)
  all_outside code threads n lo hi Nothing a h out = (refl, λ new. refl)
  all_outside code threads n lo hi (Beside arm arms) a h out =
      let le1 = shows_le code threads n lo h.0 arm h.1 in
      let le2 = all_show_le code threads (n + 1) h.0 hi arms h.2 in
      let one =
      outside code threads n lo h.0 arm a h.1 (λ m. out (first_mine n (running_arms arms) lo h.0 hi a le2 m)) in
      let more = all_outside code threads (n + 1) h.0 hi arms a h.2 (λ m. out (later_mine n (running_arms arms) lo h.0 hi a le1 m)) in (
        ap (λ o. first_some o (find_among a (n + 1) arms)) one.0 ∙ more.0,
        λ new. ap (λ x. Beside x (put_among a new (n + 1) arms)) (one.1 new) ∙ ap (λ r. Beside arm r) (more.1 new),
      )

-- ---- an arm that is in the tree

put_size : (a : ℕ) (new : Arm) (n : ℕ) (arms : Running) → running_arms (put_among a new n arms) ≡ running_arms arms
put_size a new n Nothing = refl
put_size a new n (Beside arm arms) = ap suc (put_size a new (n + 1) arms)

-- where arm a is, what it owns, and that it may be replaced by whatever the table then shows
pub record Located (code : Listing) (threads : List Thread) (n lo hi : ℕ) (arm : Arm) (a : ℕ) : Type 0 where
  pub found : Arm
  pub low : ℕ
  pub high : ℕ
  pub is_found : find a n arm ≡ Some found
  pub same : put a found n arm ≡ arm
  pub shows : Shows code threads a low high found
  pub above : lo ≤ low
  pub before : a < low
  pub under : high ≤ hi
  pub back : (threads' : List Thread) (new : Arm)
      → ((b : ℕ) → Mine n lo hi b → (Mine a low high b → ⊥) → thread threads' b ≡ thread threads b)
      → Shows code threads' a low high new → Shows code threads' n lo hi (put a new n arm)
  pub free : (new : Arm) → FreeStep found new → FreeStep arm (put a new n arm)
  pub alike : (new : Arm) → SameArm found new → SameArm arm (put a new n arm)
  pub holds : (r : ℕ) (new : Arm) → held r (put a new n arm) + held r found ≡ held r arm + held r new

record AllLocated (code : Listing) (threads : List Thread) (n lo hi : ℕ) (arms : Running) (a : ℕ) : Type 0 where
  found : Arm
  low : ℕ
  high : ℕ
  is_found : find_among a n arms ≡ Some found
  same : put_among a found n arms ≡ arms
  shows : Shows code threads a low high found
  above : lo ≤ low
  before : a < low
  under : high ≤ hi
  after : n ≤ a
  back : (threads' : List Thread) (new : Arm) → ((b : ℕ) → AllMine n (running_arms arms) lo hi b → (Mine a low high b → ⊥) →
      thread threads' b ≡ thread threads b) → Shows code threads' a low high new → AllShow code threads' n lo hi
      (put_among a new n arms)
  free : (new : Arm) → FreeStep found new → FreeStepAmong arms (put_among a new n arms)
  alike : (new : Arm) → SameArm found new → SameRunning arms (put_among a new n arms)
  holds : (r : ℕ) (new : Arm)
      → held_among r (put_among a new n arms) + held r found ≡ held_among r arms + held r new

-- the arm itself
here : (code : Listing) (threads : List Thread) (n lo hi : ℕ) (arm : Arm) (a : ℕ)
    → Shows code threads n lo hi arm → n < lo → a ≡ n → find a n arm ≡ Some arm
    → ((new : Arm) → put a new n arm ≡ new) → Located code threads n lo hi arm a
here code threads n lo hi arm a h less e f p = record {
  found = arm;
  low = lo;
  high = hi;
  is_found = f;
  same = p arm;
  shows = subst (λ k. Shows code threads k lo hi arm) (sym e) h;
  above = omega arith;
  before = omega arith;
  under = omega arith;
  back = λ threads' new same s. subst (λ x. Shows code threads' n lo hi x) (sym (p new)) (subst (λ k. Shows code threads' k lo hi new) e s);
  free = λ new s. subst (λ x. FreeStep arm x) (sym (p new)) s;
  alike = λ new s. subst (λ x. SameArm arm x) (sym (p new)) s;
  holds = λ r new. let q = ap (held r) (p new) in omega (arith, q);
}

which : (n k lo mid hi a : ℕ) → n + suc k ≤ lo → lo ≤ mid → mid ≤ hi → AllMine n (suc k) lo hi a
    → Mine n lo mid a × (AllMine (n + 1) k mid hi a → ⊥) ⊎ AllMine (n + 1) k mid hi a × (Mine n lo mid a → ⊥)
which n k lo mid hi a less l u m = sides (cases_lt n a) (cases_lt a lo) (cases_lt a mid) m
  where
    sides : (n < a) ⊎ (a ≤ n) → (a < lo) ⊎ (lo ≤ a) → (a < mid) ⊎ (mid ≤ a) → AllMine n (suc k) lo hi a
        → Mine n lo mid a × (AllMine (n + 1) k mid hi a → ⊥) ⊎ AllMine (n + 1) k mid hi a ×
        (Mine n lo mid a → ⊥)
    sides (inl q) (inl r) s m' = inr (inl (omega arith), λ z. omega arith)
    sides (inl q) (inr r) (inl s) m' = inl (inr (omega arith), λ z. omega arith)
    sides (inl q) (inr r) (inr s) m' = inr (inr (omega arith), λ z. omega arith)
    sides (inr q) r s m' = inl (inl (omega arith), λ z. omega arith)

waiting_located : (code : Listing) (threads : List Thread) (n lo hi line first : ℕ) (arms : Running) (rest : List
    Item) (a : ℕ) → Shows code threads n lo hi (Waiting line first arms rest) → n < lo → (a ≡ n → ⊥) → (lo ≤ a) × (a <
    hi) → (a < first) ⊎ (first ≤ a) → (AllMine first (running_arms arms) (first + running_arms arms) hi a → AllLocated code threads
    first (first + running_arms arms) hi arms a ⊎ (find_among a first arms ≡ None) × (thread threads a ≡ Idle)) → Located code
    threads n lo hi (Waiting line first arms rest) a ⊎ (find a n (Waiting line first arms rest) ≡ None) × (thread
    threads a ≡ Idle)
waiting_located code threads n lo hi line first arms rest a h less ne r (inl q) inner =
    let le = all_show_le code threads first (first + running_arms arms) hi arms h.7 in
    let none = all_outside code threads first (first + running_arms arms) hi arms a h.7 (elim [ inl m ↦ (omega arith) | inr m ↦ (omega arith) ]) in
    inr (if_other a n _ _ ne ∙ none.0, h.6 a r.0 q)
waiting_located code threads n lo hi line first arms rest a h less ne r (inr q) inner =
    let le = all_show_le code threads first (first + running_arms arms) hi arms h.7 in
    ⊎_elim lift (λ none. inr (if_other a n _ _ ne ∙ none.0, none.1)) (inner (side (cases_lt a (first + running_arms arms))))
  where
    side : (a < first + running_arms arms) ⊎ (first + running_arms arms ≤ a)
        → AllMine first (running_arms arms) (first + running_arms arms) hi a
    side (inl u) = inl (q, u)
    side (inr u) = inr (u, r.1)

    lift : AllLocated code threads first (first + running_arms arms) hi arms a
        → Located code threads n lo hi (Waiting line first arms rest) a ⊎
        (find a n (Waiting line first arms rest) ≡ None) × (thread threads a ≡ Idle)
    lift l =
        let le = all_show_le code threads first (first + running_arms arms) hi arms h.7 in
        let lo_first : lo ≤ first = h.5 in
        let above : first + running_arms arms ≤ l.low = l.above in
        inl (record {
          found = l.found;
          low = l.low;
          high = l.high;
          is_found = if_other a n _ _ ne ∙ l.is_found;
          same = if_other a n _ _ ne ∙ ap (λ x. Waiting line first x rest) l.same;
          shows = l.shows;
          above = omega arith;
          before = l.before;
          under = l.under;
          back = λ threads' new same s.
              let inner' = l.back threads' new (λ b m out. same b (inr (inner_range first (running_arms arms) hi lo b lo_first le m)) out) s in
              let shown : Shows code threads' n lo hi (Waiting line first (put_among a new first arms) rest) = (
                h.0,
                same n (inl refl) (elim [ inl m ↦ (omega arith) | inr m ↦ (omega arith) ]) ∙ h.1,
                h.2 ∙ ap (λ k. Some (Join first k)) (sym (put_size a new first arms)),
                h.3,
                h.4,
                h.5,
                idle_frame threads threads' lo first h.6 (λ b l' u. same b (inr (l', omega arith)) (elim [ inl m ↦ (omega arith) | inr m ↦ (omega arith) ])),
                subst (λ k. AllShow code threads' first (first + k) hi (put_among a new first arms)) (sym (put_size a new first arms)) inner',
                h.8,
              ) in
              subst (λ x. Shows code threads' n lo hi x) (sym (if_other a n _ _ ne)) shown;
          free = λ new s. subst (λ x. FreeStep (Waiting line first arms rest) x) (sym (if_other a n _ _ ne)) (in_arms
              line first arms (put_among a new first arms) rest (l.free new s));
          alike = λ new s. subst (λ x. SameArm (Waiting line first arms rest) x) (sym (if_other a n _ _ ne))
              (same_waiting line first arms (put_among a new first arms) rest rest (l.alike new s) (same_items rest));
          holds = λ r new. let q = l.holds r new in let z : held r (put a new n (Waiting line first arms rest)) ≡ held
              r (Waiting line first (put_among a new first arms) rest) = ap (held r) (if_other a n _ _ ne) in omega
              (arith, q, z);
        })

first_located : (code : Listing) (threads : List Thread) (n lo hi : ℕ) (arm : Arm) (arms : Running) (a : ℕ)
    (h : AllShow code threads n lo hi (Beside arm arms)) → n + suc (running_arms arms) ≤ lo
    → (AllMine (n + 1) (running_arms arms) h.0 hi a → ⊥) → Mine n lo h.0 a → Located code threads n lo h.0 arm a
    → AllLocated code threads n lo hi (Beside arm arms) a
first_located code threads n lo hi arm arms a h less out m l =
    let le1 = shows_le code threads n lo h.0 arm h.1 in
    let le2 = all_show_le code threads (n + 1) h.0 hi arms h.2 in
    let none = all_outside code threads (n + 1) h.0 hi arms a h.2 out in
    let above' : lo ≤ l.low = l.above in
    let under' : l.high ≤ h.0 = l.under in
    record {
      found = l.found;
      low = l.low;
      high = l.high;
      is_found = ap (λ o. first_some o (find_among a (n + 1) arms)) l.is_found;
      same =
          ap (λ x. Beside x (put_among a l.found (n + 1) arms)) l.same
          ∙ ap (λ r. Beside arm r) (none.1 l.found);
      shows = l.shows;
      above = l.above;
      before = l.before;
      under = omega arith;
      after = after m;
      back = λ threads' new same s.
          let one = l.back threads' new (λ b m' out'. same b (first_mine n (running_arms arms) lo h.0 hi b le2 m') out') s in
          let more = all_frame code threads threads' (n + 1) h.0 hi arms h.2
          (λ b m'. same b (later_mine n (running_arms arms) lo h.0 hi b le1 m') (apart b m')) in
          (h.0, one, subst (λ x. AllShow code threads' (n + 1) h.0 hi x) (sym (none.1 new)) more);
      free = λ new s. subst (λ x. FreeStepAmong (Beside arm arms) (Beside (put a new n arm) x)) (sym (none.1 new))
          (in_first arm (put a new n arm) arms (l.free new s));
      alike = λ new s. subst (λ x. SameRunning (Beside arm arms) (Beside (put a new n arm) x)) (sym (none.1 new))
          (same_beside arm (put a new n arm) arms arms (l.alike new s) (same_running arms));
      holds = λ r new. let q = l.holds r new in let z = ap (held_among r) (none.1 new) in omega (arith, q, z);
    }
  where
    after : Mine n lo h.0 a → n ≤ a
    after (inl e) = omega arith
    after (inr r) = omega arith

    apart : (b : ℕ) → AllMine (n + 1) (running_arms arms) h.0 hi b → Mine a l.low l.high b → ⊥
    apart b m' (inl e) = out (subst (λ k. AllMine (n + 1) (running_arms arms) h.0 hi k) e m')
    apart b (inl m') (inr r) = let q1 = l.above in let q2 = l.under in omega arith
    apart b (inr m') (inr r) = let q1 = l.above in let q2 = l.under in omega arith

later_located : (code : Listing) (threads : List Thread) (n lo hi : ℕ) (arm : Arm) (arms : Running) (a : ℕ)
    (h : AllShow code threads n lo hi (Beside arm arms)) → n + suc (running_arms arms) ≤ lo → (Mine n lo h.0 a → ⊥)
    → AllLocated code threads (n + 1) h.0 hi arms a → AllLocated code threads n lo hi (Beside arm arms) a
later_located code threads n lo hi arm arms a h less out l =
    let le1 = shows_le code threads n lo h.0 arm h.1 in
    let le2 = all_show_le code threads (n + 1) h.0 hi arms h.2 in
    let none = outside code threads n lo h.0 arm a h.1 out in
    let above' : h.0 ≤ l.low = l.above in
    let after' : n + 1 ≤ a = l.after in
    record {
      found = l.found;
      low = l.low;
      high = l.high;
      is_found = ap (λ o. first_some o (find_among a (n + 1) arms)) none.0 ∙ l.is_found;
      same =
          ap (λ x. Beside x (put_among a l.found (n + 1) arms)) (none.1 l.found)
          ∙ ap (λ r. Beside arm r) l.same;
      shows = l.shows;
      above = omega arith;
      before = l.before;
      under = l.under;
      after = omega arith;
      back = λ threads' new same s.
          let one = frame code threads threads' n lo h.0 arm h.1 (λ b m'. same b (first_mine n (running_arms arms) lo h.0 hi b le2 m') (apart b m')) in
          let more = l.back threads' new (λ b m' out'. same b (later_mine n (running_arms arms) lo h.0 hi b le1 m') out') s in
          (h.0, subst (λ x. Shows code threads' n lo h.0 x) (sym (none.1 new)) one, more);
      free = λ new s. subst (λ x. FreeStepAmong (Beside arm arms) (Beside x (put_among a new (n + 1) arms))) (sym
          (none.1 new)) (in_later arm arms (put_among a new (n + 1) arms) (l.free new s));
      alike = λ new s. subst (λ x. SameRunning (Beside arm arms) (Beside x (put_among a new (n + 1) arms))) (sym
          (none.1 new)) (same_beside arm arm arms (put_among a new (n + 1) arms) (same_arm arm) (l.alike new s));
      holds = λ r new. let q = l.holds r new in let z = ap (held r) (none.1 new) in omega (arith, q, z);
    }
  where
    apart : (b : ℕ) → Mine n lo h.0 b → Mine a l.low l.high b → ⊥
    apart b m' (inl e) = out (subst (λ k. Mine n lo h.0 k) e m')
    apart b (inl m') (inr r) = let q1 = l.above in let q2 = l.before in let q3 = l.after in omega arith
    apart b (inr m') (inr r) = let q1 = l.above in omega arith

beside_located : (code : Listing) (threads : List Thread) (n lo hi : ℕ) (arm : Arm) (arms : Running) (a : ℕ) (h :
    AllShow code threads n lo hi (Beside arm arms)) → n + suc (running_arms arms) ≤ lo → (Mine n lo h.0 a → Located code
    threads n lo h.0 arm a ⊎ (find a n arm ≡ None) × (thread threads a ≡ Idle)) → (AllMine (n + 1) (running_arms arms) h.0 hi
    a → AllLocated code threads (n + 1) h.0 hi arms a ⊎ (find_among a (n + 1) arms ≡ None) × (thread threads a ≡
    Idle)) → Mine n lo h.0 a × (AllMine (n + 1) (running_arms arms) h.0 hi a → ⊥) ⊎ AllMine (n + 1) (running_arms arms) h.0 hi a ×
    (Mine n lo h.0 a → ⊥) → AllLocated code threads n lo hi (Beside arm arms) a ⊎ (find_among a n (Beside arm arms) ≡
    None) × (thread threads a ≡ Idle)
beside_located code threads n lo hi arm arms a h less one more (inl w) =
    ⊎_elim (λ l. inl (first_located code threads n lo hi arm arms a h less w.1 w.0 l))
    (λ none. inr (ap (λ o. first_some o (find_among a (n + 1) arms)) none.0 ∙ (all_outside code threads (n + 1) h.0 hi arms a h.2 w.1).0, none.1))
    (one w.0)
beside_located code threads n lo hi arm arms a h less one more (inr w) =
    ⊎_elim (λ l. inl (later_located code threads n lo hi arm arms a h less w.1 l))
    (λ none. inr (ap (λ o. first_some o (find_among a (n + 1) arms)) (outside code threads n lo h.0 arm a h.1 w.1).0 ∙ none.0, none.1))
    (more w.0)

mutual
  pub locate : (code : Listing) (threads : List Thread) (n lo hi : ℕ) (arm : Arm) (a : ℕ)
      → Shows code threads n lo hi arm → n < lo → Mine n lo hi a
      → Located code threads n lo hi arm a ⊎ (find a n arm ≡ None) × (thread threads a ≡ Idle)
  locate code threads n lo hi (Doing items) a h less (inl e) =
      inl (here code threads n lo hi (Doing items) a h less e (if_same a n _ _ e) (λ new. if_same a n _ _ e))
  locate code threads n lo hi (Doing items) a h less (inr r) =
      let ne : a ≡ n → ⊥ = λ e. omega arith in inr (if_other a n _ _ ne, h.6 a r.0 r.1)
  locate code threads n lo hi (Waiting line first arms rest) a h less (inl e) = inl (here code threads n lo hi
      (Waiting line first arms rest) a h less e (if_same a n _ _ e) (λ new. if_same a n _ _ e))
  locate code threads n lo hi (Waiting line first arms rest) a h less (inr r) =
      let ne : a ≡ n → ⊥ = λ e. omega arith in
      waiting_located code threads n lo hi line first arms rest a h less ne r (cases_lt a first) (λ m. all_locate code
      threads first (first + running_arms arms) hi arms a h.7 (omega arith) m)
  locate code threads n lo hi Ended a h less (inl e) =
      inl (here code threads n lo hi Ended a h less e (if_same a n _ _ e) (λ new. if_same a n _ _ e))
  locate code threads n lo hi Ended a h less (inr r) =
      let ne : a ≡ n → ⊥ = λ e. omega arith in inr (if_other a n _ _ ne, h.2 a r.0 r.1)

  all_locate : (code : Listing) (threads : List Thread) (n lo hi : ℕ) (arms : Running) (a : ℕ)
      → AllShow code threads n lo hi arms → n + running_arms arms ≤ lo → AllMine n (running_arms arms) lo hi a
      → AllLocated code threads n lo hi arms a ⊎ (find_among a n arms ≡ None) × (thread threads a ≡ Idle)
  all_locate code threads n lo hi Nothing a h less (inl m) = elim (let w : ⊥ = omega arith in w) [ ]
  all_locate code threads n lo hi Nothing a h less (inr m) = inr (refl, h.1 a m.0 m.1)
  all_locate code threads n lo hi (Beside arm arms) a h less m =
      let le1 = shows_le code threads n lo h.0 arm h.1 in
      let le2 = all_show_le code threads (n + 1) h.0 hi arms h.2 in
      beside_located code threads n lo hi arm arms a h less
      (λ m'. locate code threads n lo h.0 arm a h.1 (omega arith) m')
      (λ m'. all_locate code threads (n + 1) h.0 hi arms a h.2 (omega arith) m')
      (which n (running_arms arms) lo h.0 hi a less le1 le2 m)
