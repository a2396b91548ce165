-- An arm that is found among running arms, and what is put in its place.
use Rattle.std.proofs.Common.{◌≡◌, ◌⊎◌, ℕ, zero, suc, ◌+◌, ◌<◌, ◌≤◌, Bool, true, false, cond, nat_eq, List, [], ◌∷◌}
use Rattle.std.proofs.Common.{length, get_or, set, map, Option, Some, None, ap, subst, refl, sym, ◌∙◌, inl, inr}
use Rattle.std.proofs.Common.{arith}
use Rattle.pb_names.specs.Source.{Arm, Doing, Waiting, Ended, Running, Nothing, Beside, find, find_among, first_some}
use Rattle.pb_names.specs.Source.{put, put_among}
use Rattle.pb_rewrite.specs.Sound.{IsSingle, AreSingle}
use Rattle.std.proofs.lemmas.List.{length-map, get_or-map, map-set}
use Rattle.std.proofs.Math.Seq.{map-set_same}
use Rattle.pb_rewrite.specs.View.{arm_view, running_of}
use Rattle.pb_rewrite.specs.declared.arm.Arm.{Arm as GivenArm}

-- ---- how many arms an arm has, itself included

abbrev mutual
  pub arm_size : Arm → ℕ
  arm_size (Doing items) = 1
  arm_size (Waiting line first arms rest) = 1 + running_size arms
  arm_size Ended = 1

  pub running_size : Running → ℕ
  running_size Nothing = 0
  running_size (Beside arm arms) = arm_size arm + running_size arms

pub size_at : (vs : List Arm) (i : ℕ) (v : Arm) → i < length vs → v ≡ get_or vs i v
    → arm_size v ≤ running_size (running_of vs)
size_at [] i v within here = absurd (omega arith)
size_at (w ∷ vs) zero v within here = omega (arith, ap arm_size here)
size_at (w ∷ vs) (suc i) v within here = omega (arith, size_at vs i v (omega arith) here)

-- ---- an arm that is not there

not_here : (b : Bool) (w other x y : Arm) (inner : Option Arm) → cond b (Some w) inner ≡ None → (inner ≡ None → x ≡ y)
    → cond b other x ≡ y
not_here true w other x y inner h same = absurd (cc)
not_here false w other x y inner h same = same h

-- an arm cannot be there and not there
pub none_some : (o : Option Arm) (x : Arm) → o ≡ Some x → o ≡ None → ⊥
none_some o x h none = let e : Some x ≡ None = sym h ∙ none in cc

-- what is found first is found in the first place, or else in the second
pub first_cases : (one two : Option Arm) (x : Arm) → first_some one two ≡ Some x
    → (one ≡ Some x) ⊎ ((one ≡ None) × (two ≡ Some x))
first_cases (Some y) two x h = inl h
first_cases None two x h = inr (refl, h)

inner_none : (b : Bool) (w : Arm) (inner : Option Arm) → cond b (Some w) inner ≡ None → inner ≡ None
inner_none true w inner h = absurd (cc)
inner_none false w inner h = h

first_none : (one two : Option Arm) → first_some one two ≡ None → one ≡ None
first_none None two h = refl
first_none (Some x) two h = absurd (cc)

second_none : (one two : Option Arm) → first_some one two ≡ None → two ≡ None
second_none None two h = h
second_none (Some x) two h = absurd (cc)

-- nothing is put if nothing is found
mutual
  pub none_put : (a n : ℕ) (other arm : Arm) → find a n arm ≡ None → put a other n arm ≡ arm
  none_put a n other (Doing items) h = not_here (nat_eq a n) (Doing items) other (Doing items) (Doing items) None h (λ _. refl)
  none_put a n other (Waiting line first arms rest) h =
      let inner = inner_none (nat_eq a n) (Waiting line first arms rest) (find_among a first arms) h in
      let same = none_put_among a first other arms inner in
      not_here (nat_eq a n) (Waiting line first arms rest) other _ (Waiting line first arms rest) (find_among a first arms) h
      (λ _. ap (λ r. Waiting line first r rest) same)
  none_put a n other Ended h = not_here (nat_eq a n) Ended other Ended Ended None h (λ _. refl)

  pub none_put_among : (a n : ℕ) (other : Arm) (arms : Running) → find_among a n arms ≡ None → put_among a other n arms ≡ arms
  none_put_among a n other Nothing h = refl
  none_put_among a n other (Beside arm arms) h =
      let one = none_put a n other arm (first_none (find a n arm) (find_among a (n + 1) arms) h) in
      let more = none_put_among a (n + 1) other arms (second_none (find a n arm) (find_among a (n + 1) arms) h) in
      ap (λ x. Beside x (put_among a other (n + 1) arms)) one ∙ ap (Beside arm) more

-- ---- in a list of running arms

pub all_none : (a n : ℕ) (vs : List Arm)
    → ((k : ℕ) (d : Arm) → k < length vs → find a (n + k) (get_or vs k d) ≡ None) → find_among a n (running_of vs) ≡ None
all_none a n [] none = refl
all_none a n (v ∷ vs) none =
    let here : find a n v ≡ None = subst (λ m. find a m v ≡ None) (omega arith) (none 0 v (omega arith)) in
    let later : (k : ℕ) (d : Arm) → k < length vs → find a (n + 1 + k) (get_or vs k d) ≡ None =
    λ k d h. subst (λ m. find a m (get_or vs k d) ≡ None) (omega arith) (none (suc k) d (omega arith)) in
    ap (λ o. first_some o (find_among a (n + 1) (running_of vs))) here ∙ all_none a (n + 1) vs later

pub single_at : (a n : ℕ) (vs : List Arm) (i : ℕ) (v : Arm) → AreSingle a n (running_of vs) → i < length vs
    → v ≡ get_or vs i v → IsSingle a v
single_at a n [] i v single within here = absurd (omega arith)
single_at a n (w ∷ vs) zero v single within here = subst (IsSingle a) (sym here) single.0
single_at a n (w ∷ vs) (suc i) v single within here = single_at a (n + 1) vs i v single.2 (omega arith) here

abbrev FoundAt : ℕ → ℕ → Arm → Arm → List Arm → ℕ → Arm → Type 0
FoundAt a n other x vs i v =
    (find_among a n (running_of vs) ≡ Some x) × (running_of (set vs i (put a other (n + i) v)) ≡ put_among a other n (running_of vs))

pub found_at : (a n : ℕ) (other x : Arm) (vs : List Arm) (i : ℕ) (v : Arm) → AreSingle a n (running_of vs)
    → ((k : ℕ) (d : Arm) → k < i → find a (n + k) (get_or vs k d) ≡ None) → i < length vs → v ≡ get_or vs i v
    → find a (n + i) v ≡ Some x → FoundAt a n other x vs i v
found_at a n other x [] i v single none within here found = absurd (omega arith)
found_at a n other x (w ∷ vs) zero v single none within here found =
    let same : n + 0 ≡ n = omega arith in
    let there : find a n w ≡ Some x = subst (λ m. find a m w ≡ Some x) same (subst (λ y. find a (n + 0) y ≡ Some x) here found) in
    let rest : find_among a (n + 1) (running_of vs) ≡ None =
    elim single.1 [ inl gone ↦ absurd (some_none x (sym there ∙ gone)) | inr gone ↦ gone ] in (
      ap (λ o. first_some o (find_among a (n + 1) (running_of vs))) there,
      ap (λ m. Beside (put a other m v) (running_of vs)) same ∙ ap (λ y. Beside (put a other n y) (running_of vs)) here
          ∙ ap (Beside (put a other n w)) (sym (none_put_among a (n + 1) other (running_of vs) rest)),
    )
  where
    some_none : (x : Arm) → Some x ≡ None → ⊥
    some_none x h = cc
found_at a n other x (w ∷ vs) (suc i) v single none within here found =
    let first : find a n w ≡ None = subst (λ m. find a m w ≡ None) (omega arith) (none 0 w (omega arith)) in
    let later : (k : ℕ) (d : Arm) → k < i → find a (n + 1 + k) (get_or vs k d) ≡ None =
    λ k d h. subst (λ m. find a m (get_or vs k d) ≡ None) (omega arith) (none (suc k) d (omega arith)) in
    let same : n + suc i ≡ n + 1 + i = omega arith in
    let rest = found_at a (n + 1) other x vs i v single.2 later (omega arith) here (subst (λ m. find a m v ≡ Some x) same found) in (
      ap (λ o. first_some o (find_among a (n + 1) (running_of vs))) first ∙ rest.0,
      ap (λ m. Beside w (running_of (set vs i (put a other m v)))) same ∙ ap (Beside w) rest.1
          ∙ ap (λ y. Beside y (put_among a other (n + 1) (running_of vs))) (sym (none_put a n other w first)),
    )

-- ---- a list of arms in memory, whose arms so far have been looked at

pub now_within : {A : Type 0} (now before : List (GivenArm A)) (i : ℕ) → map arm_view now ≡ map arm_view before
    → i < length before → i < length now
now_within {A} now before i views within =
    omega (arith, ap length views, length-map now (arm_view {A = A}), length-map before (arm_view {A = A}))

module _ {A : Type 0} (now before : List (GivenArm A)) (i : ℕ) (x : GivenArm A) (views : map arm_view now ≡ map arm_view before)
    (within : i < length now) (here : x ≡ get_or now i x) where
  pub before_within : i < length (map arm_view before)
  before_within = omega (arith, ap length views, length-map now (arm_view {A = A}))

  pub seen_at : (d : Arm) → get_or (map arm_view before) i d ≡ arm_view x
  seen_at d =
      ap (λ vs. get_or vs i d) (sym views) ∙ get_or-map arm_view now i x d within ∙ ap arm_view (sym here)

  pub views_stay : (x' : GivenArm A) → arm_view x' ≡ arm_view x → map arm_view (set now i x') ≡ map arm_view before
  views_stay x' same = map-set_same arm_view now i x' x (same ∙ ap arm_view here) ∙ views

  pub views_change : (x' : GivenArm A) → map arm_view (set now i x') ≡ set (map arm_view before) i (arm_view x')
  views_change x' = map-set arm_view now i x' ∙ ap (λ vs. set vs i (arm_view x')) views
