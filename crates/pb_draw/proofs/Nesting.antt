-- Of two holds of an arm of which the earlier is open when the later is taken, the later is deeper.
use Rattle.std.proofs.Common.{◌≡◌, ℕ, zero, suc, ◌+◌, ◌-◌, ◌<◌, ◌≤◌, ◌&&◌, Bool, true, false, cond, List, [], ◌∷◌, ◌++◌}
use Rattle.std.proofs.Common.{Option, Some, refl, sym, ap, ◌∙◌, subst, append_assoc, arith}
use Rattle.std.specs.Prelude.{◌==◌, slice_get}
use Rattle.std.proofs.lemmas.Bool.{eq-eqb, eqb-true, lt-ltb, ltb-true}
use Rattle.std.proofs.lemmas.List.{append-nil}
use Rattle.pb_base.proofs.Lists.{some_same}
use Rattle.pb_base.specs.declared.event.Event.TheVariants.{Granted, Returned, Printed, Faulted, Finished}
use Rattle.pb_base.specs.declared.pair.Pair.{Pair}
use Rattle.pb_base.specs.declared.pick.Pick.{Pick}
use Rattle.pb_draw.proofs.OpenHolds.{holds_append, one_if}
use Rattle.pb_draw.specs.Bars.{AreNested, bar_for, bars_from, bars_of, given_back, is_before, is_open, open_holds, turn_in}
use Rattle.pb_draw.specs.Marks.{AreInOrder}
use Rattle.pb_draw.specs.declared.bars.Turn.{Turn}
use Rattle.pb_draw.specs.declared.bars.Turn.TheVariants.{Opens, Closes, Breaks, Other}
use Rattle.pb_draw.specs.declared.drawing.Bar.{Bar}
use Rattle.pb_draw.specs.declared.drawing.Happening.{Happening}
use Rattle.pb_draw.specs.declared.drawing.Happening.TheVariants as happening
use Rattle.pb_draw.specs.declared.drawing.Mark.{Mark}
use Rattle.pb_history.specs.Entries.{are_same}

-- ---- where holds are given back

-- what is given back at one of these places is given back at the other at the same pick or later
abbrev Later : Option ℕ → Option ℕ → Type 0
Later one other = (t : ℕ) → is_before t one ≡ true → is_before t other ≡ true

-- each mark is of a later pick than the one before it, and the first of this pick or a later one
abbrev AreFrom : (n : ℕ) → List Mark → Type 0
AreFrom n [] = Unit {0}
AreFrom n (m ∷ marks) = (n ≤ m.at) × AreFrom (suc m.at) marks

-- where a hold is given back, by what the first mark is to it
abbrev turned : (arm : Pick) (inner at : ℕ) (marks : List Mark) (turn : Turn) → Option ℕ
turned arm inner at marks turn = elim turn [
  | Opens ↦ given_back arm (inner + 1) marks
  | Closes ↦ cond (inner == 0) (Some at) (given_back arm (inner - 1) marks)
  | Breaks ↦ Some at
  | Other ↦ given_back arm inner marks
]

-- nothing is given back before the first mark
returned_from : (arm : Pick) (inner n t : ℕ) (marks : List Mark) → AreFrom n marks → t < n → is_before t (given_back arm inner marks) ≡ true
returned_from arm inner n t [] from lt = refl
returned_from arm inner n t (m ∷ marks) from lt =
    let low : n ≤ m.at = from.0 in
    go (λ k. returned_from arm k (suc m.at) t marks from.1 (omega (arith, lt, low))) (lt-ltb t m.at (omega (arith, lt, low))) (turn_in arm m.what)
  where
    closes : (b : Bool) (k : ℕ) → is_before t (given_back arm k marks) ≡ true → is_before t (Some m.at) ≡ true
        → is_before t (cond b (Some m.at) (given_back arm k marks)) ≡ true
    closes true k later here = here
    closes false k later here = later

    go : ((k : ℕ) → is_before t (given_back arm k marks) ≡ true) → is_before t (Some m.at) ≡ true → (turn : Turn)
        → is_before t (turned arm inner m.at marks turn) ≡ true
    go later here Opens = later (inner + 1)
    go later here Closes = closes (inner == 0) (inner - 1) (later (inner - 1)) here
    go later here Breaks = here
    go later here Other = later inner

-- a hold with more holds inside it is not given back before one with fewer
inner_first : (arm : Pick) (few many n : ℕ) (marks : List Mark) → few ≤ many → AreFrom n marks
    → Later (given_back arm few marks) (given_back arm many marks)
inner_first arm few many n [] le from = λ t e. e
inner_first arm few many n (m ∷ marks) le from =
    go (λ i k less. inner_first arm i k (suc m.at) marks less from.1)
    (λ k t lt. returned_from arm k (suc m.at) t marks from.1 (omega (arith, lt))) (turn_in arm m.what)
  where
    closes : ((i k : ℕ) → i ≤ k → Later (given_back arm i marks) (given_back arm k marks))
        → ((k t : ℕ) → t < m.at → is_before t (given_back arm k marks) ≡ true) → (a b : Bool) → (few == 0) ≡ a → (many == 0) ≡ b
        → Later (cond a (Some m.at) (given_back arm (few - 1) marks)) (cond b (Some m.at) (given_back arm (many - 1) marks))
    closes rest past true true e f = λ t h. h
    closes rest past true false e f = λ t h. past (many - 1) t (ltb-true t m.at h)
    closes rest past false true e f =
        let none : many ≡ 0 = eqb-true many 0 f in
        let zero_too : (few == 0) ≡ true = eq-eqb few 0 (omega (arith, none, le)) in
        cc (e, zero_too)
    closes rest past false false e f = rest (few - 1) (many - 1) (omega (arith, le))

    go : ((i k : ℕ) → i ≤ k → Later (given_back arm i marks) (given_back arm k marks))
        → ((k t : ℕ) → t < m.at → is_before t (given_back arm k marks) ≡ true) → (turn : Turn)
        → Later (turned arm few m.at marks turn) (turned arm many m.at marks turn)
    go rest past Opens = rest (few + 1) (many + 1) (omega (arith, le))
    go rest past Closes = closes rest past (few == 0) (many == 0) refl refl
    go rest past Breaks = λ t h. h
    go rest past Other = rest few many le

from_middle : (n : ℕ) (xs : List Mark) (m : Mark) (rest : List Mark) → AreFrom n (xs ++ m ∷ rest) → n ≤ m.at
from_middle n [] m rest from = from.0
from_middle n (x ∷ xs) m rest from =
    let low : n ≤ x.at = from.0 in
    let later : suc x.at ≤ m.at = from_middle (suc x.at) xs m rest from.1 in
    omega (arith, low, later)

-- a hold that is open when another is taken inside it is not given back before that one
outer_later : (arm : Pick) (inner n : ℕ) (xs : List Mark) (m : Mark) (rest : List Mark) → AreFrom n (xs ++ m ∷ rest)
    → turn_in arm m.what ≡ Opens → is_before m.at (given_back arm inner (xs ++ m ∷ rest)) ≡ true
    → Later (given_back arm 0 rest) (given_back arm inner (xs ++ m ∷ rest))
outer_later arm inner n [] m rest from opens still =
    subst (λ (turn : Turn). Later (given_back arm 0 rest) (turned arm inner m.at rest turn)) (sym opens)
    (inner_first arm 0 (inner + 1) (suc m.at) rest (omega arith) from.1)
outer_later arm inner n (x ∷ xs) m rest from opens still =
    let past : suc x.at ≤ m.at = from_middle (suc x.at) xs m rest from.1 in
    go (λ k e. outer_later arm k (suc x.at) xs m rest from.1 opens e)
    (λ e. let before : m.at < x.at = ltb-true m.at x.at e in absurd (omega (arith, before, past))) (turn_in arm x.what) still
  where
    closes : ((k : ℕ) → is_before m.at (given_back arm k (xs ++ m ∷ rest)) ≡ true
        → Later (given_back arm 0 rest) (given_back arm k (xs ++ m ∷ rest)))
        → (is_before m.at (Some x.at) ≡ true → ⊥) → (b : Bool)
        → is_before m.at (cond b (Some x.at) (given_back arm (inner - 1) (xs ++ m ∷ rest))) ≡ true
        → Later (given_back arm 0 rest) (cond b (Some x.at) (given_back arm (inner - 1) (xs ++ m ∷ rest)))
    closes later never true e = absurd (never e)
    closes later never false e = later (inner - 1) e

    go : ((k : ℕ) → is_before m.at (given_back arm k (xs ++ m ∷ rest)) ≡ true
        → Later (given_back arm 0 rest) (given_back arm k (xs ++ m ∷ rest)))
        → (is_before m.at (Some x.at) ≡ true → ⊥) → (turn : Turn)
        → is_before m.at (turned arm inner x.at (xs ++ m ∷ rest) turn) ≡ true
        → Later (given_back arm 0 rest) (turned arm inner x.at (xs ++ m ∷ rest) turn)
    go later never Opens e = later (inner + 1) e
    go later never Closes e = closes later never (inner == 0) e
    go later never Breaks e = absurd (never e)
    go later never Other e = later inner e

-- ---- holds of one arm

same_picks : (a b : Pick) → are_same a b ≡ true → a ≡ b
same_picks a b same = go (a.process == b.process) (a.arm == b.arm) refl refl same
  where
    go : (x y : Bool) → (a.process == b.process) ≡ x → (a.arm == b.arm) ≡ y → (x && y) ≡ true → a ≡ b
    go false y e f both = cc
    go true false e f both = cc
    go true true e f both =
        let with_process : ℕ → Pick = λ n. record { process = n; arm = a.arm } in
        let with_arm : ℕ → Pick = λ n. record { process = b.process; arm = n } in
        ap with_process (eqb-true a.process b.process e) ∙ ap with_arm (eqb-true a.arm b.arm f)

same_self : (a : Pick) → are_same a a ≡ true
same_self a = rw (eq-eqb a.process a.process refl, eq-eqb a.arm a.arm refl) refl

abbrev Every : (Bar → Type 0) → List Bar → Type 0
Every P [] = Unit {0}
Every P (bar ∷ bars) = P bar × Every P bars

every_map : (P Q : Bar → Type 0) → ((bar : Bar) → P bar → Q bar) → (bars : List Bar) → Every P bars → Every Q bars
every_map P Q f [] all = tt
every_map P Q f (bar ∷ bars) all = (f bar all.0, every_map P Q f bars all.1)

every_push : (P : Bar → Type 0) (bars : List Bar) (last : Bar) → Every P bars → P last → Every P (bars ++ last ∷ [])
every_push P [] last all is = (is, tt)
every_push P (bar ∷ bars) last all is = (all.0, every_push P bars last all.1 is)

every_at : (P : Bar → Type 0) (bars : List Bar) (k : ℕ) (bar : Bar) → Every P bars → slice_get bars k ≡ Some bar → P bar
every_at P [] k bar all there = absurd cc
every_at P (x ∷ bars) zero bar all there = subst P (some_same there) all.0
every_at P (x ∷ bars) (suc k) bar all there = every_at P bars k bar all.1 there

-- the earlier of two holds is not as deep, if it is of the same arm and open when the later is taken
abbrev IsDeeper : Bar → Bar → Type 0
IsDeeper a b = are_same a.pick b.pick ≡ true → is_before b.taken a.returned ≡ true → a.depth < b.depth

-- an earlier hold of the same arm that is open when a hold is taken is not given back before it
abbrev IsOuter : Bar → Bar → Type 0
IsOuter a e = are_same e.pick a.pick ≡ true → is_before a.taken e.returned ≡ true → Later a.returned e.returned

-- a hold was taken before these marks
abbrev WasTaken : List Mark → Bar → Type 0
WasTaken marks e = (xs : List Mark) × (n : ℕ) × AreFrom n (xs ++ marks) × (e.returned ≡ given_back e.pick 0 (xs ++ marks))

moved : (m : Mark) (marks : List Mark) (e : Bar) → WasTaken (m ∷ marks) e → WasTaken marks e
moved m marks e (xs, n, from, is) =
    let same : (xs ++ m ∷ []) ++ marks ≡ xs ++ m ∷ marks = append_assoc xs (m ∷ []) marks in
    (xs ++ m ∷ [], n, subst (λ (ms : List Mark). AreFrom n ms) (sym same) from, is ∙ ap (given_back e.pick 0) (sym same))

is_outer : (m : Mark) (marks : List Mark) (pick : Pick) (bundle : List Pair) (depth : ℕ) → m.what ≡ happening.Did (Granted pick bundle)
    → (e : Bar) → WasTaken (m ∷ marks) e
    → IsOuter (record { pick = pick; bundle = bundle; taken = m.at; returned = given_back pick 0 marks; depth = depth }) e
is_outer m marks pick bundle depth grants e (xs, n, from, is) = λ same still.
    let opens : turn_in e.pick m.what ≡ Opens = ap (turn_in e.pick) grants ∙ ap (λ (b : Bool). cond b Opens Other) same in
    let later : Later (given_back e.pick 0 marks) (given_back e.pick 0 (xs ++ m ∷ marks)) =
    outer_later e.pick 0 n xs m marks from opens (subst (λ (o : Option ℕ). is_before m.at o ≡ true) is still) in
    subst (λ (o : Option ℕ). Later (given_back pick 0 marks) o) (sym is)
    (subst (λ (p : Pick). Later (given_back p 0 marks) (given_back e.pick 0 (xs ++ m ∷ marks))) (same_picks e.pick pick same) later)

kept_open : (s x y : Bool) → (s ≡ true → x ≡ true → y ≡ true) → cond (s && x) 1 0 ≤ cond (s && y) 1 0
kept_open false x y h = omega arith
kept_open true false true h = omega arith
kept_open true false false h = omega arith
kept_open true true true h = omega arith
kept_open true true false h = let e : false ≡ true = h refl refl in cc e

-- as long as a hold is open, as many of the holds around it are open as when it was taken
as_many : (earlier : List Bar) (a : Bar) (t : ℕ) → Every (IsOuter a) earlier → is_before t a.returned ≡ true
    → open_holds a.pick a.taken earlier ≤ open_holds a.pick t earlier
as_many [] a t outer still = omega arith
as_many (e ∷ earlier) a t outer still =
    let rest : open_holds a.pick a.taken earlier ≤ open_holds a.pick t earlier = as_many earlier a t outer.1 still in
    let here : cond (is_open a.pick a.taken e) 1 0 ≤ cond (is_open a.pick t e) 1 0 =
    kept_open (are_same e.pick a.pick) (is_before a.taken e.returned) (is_before t e.returned) (λ same before. outer.0 same before t still) in
    omega (arith, rest, here)

-- the bars from a mark on, by what it shows
abbrev behind : (earlier : List Bar) (at : ℕ) (what : Happening) (marks : List Mark) → List Bar
behind earlier at what marks = bar_for earlier at what marks ++ bars_from (earlier ++ bar_for earlier at what marks) marks

-- all holds inside a hold are deeper
all_deeper : (earlier : List Bar) (a : Bar) (between : List Bar) (marks : List Mark) → a.depth ≡ open_holds a.pick a.taken earlier
    → Every (IsOuter a) earlier → Every (IsDeeper a) (bars_from (earlier ++ a ∷ between) marks)
all_deeper earlier a between [] depth outer = tt
all_deeper earlier a between (m ∷ marks) depth outer = go (λ bars. all_deeper earlier a bars marks depth outer) m.what
  where
    deeper : (pick : Pick) → are_same a.pick pick ≡ true → is_before m.at a.returned ≡ true
        → a.depth < open_holds pick m.at (earlier ++ a ∷ between)
    deeper pick same still =
        let many : open_holds a.pick a.taken earlier ≤ open_holds a.pick m.at earlier = as_many earlier a m.at outer still in
        let one : one_if (is_open a.pick m.at a) ≡ 1 =
        ap (λ (b : Bool). one_if (b && is_before m.at a.returned)) (same_self a.pick) ∙ ap one_if still in
        let all : open_holds a.pick m.at (earlier ++ a ∷ between)
        ≡ open_holds a.pick m.at earlier + (cond (is_open a.pick m.at a) 1 0 + open_holds a.pick m.at between) =
        holds_append a.pick m.at earlier (a ∷ between) in
        subst (λ (p : Pick). a.depth < open_holds p m.at (earlier ++ a ∷ between)) (same_picks a.pick pick same)
        (omega (arith, depth, many, one, all))

    none : Every (IsDeeper a) (bars_from (earlier ++ a ∷ between) marks)
        → Every (IsDeeper a) (bars_from ((earlier ++ a ∷ between) ++ []) marks)
    none rest =
        subst (λ (bars : List Bar). Every (IsDeeper a) (bars_from bars marks)) (sym (append-nil (earlier ++ a ∷ between))) rest

    go : ((bars : List Bar) → Every (IsDeeper a) (bars_from (earlier ++ a ∷ bars) marks)) → (what : Happening)
        → Every (IsDeeper a) (behind (earlier ++ a ∷ between) m.at what marks)
    go rest (happening.Did (Granted pick bundle)) =
        let b : Bar =
        record { pick = pick; bundle = bundle; taken = m.at; returned = given_back pick 0 marks; depth = open_holds pick m.at (earlier ++ a ∷ between) } in (
          deeper pick,
          subst (λ (bars : List Bar). Every (IsDeeper a) (bars_from bars marks)) (sym (append_assoc earlier (a ∷ between) (b ∷ [])))
              (rest (between ++ b ∷ [])),
        )
    go rest (happening.Did (Returned pick bundle)) = none (rest between)
    go rest (happening.Did (Printed pick value)) = none (rest between)
    go rest (happening.Did (Faulted pick kind)) = none (rest between)
    go rest (happening.Did (Finished process)) = none (rest between)
    go rest (happening.Read x value) = none (rest between)
    go rest (happening.Assigned x value) = none (rest between)

abbrev Pairs : List Bar → Type 0
Pairs [] = Unit {0}
Pairs (a ∷ bars) = Every (IsDeeper a) bars × Pairs bars

all_pairs : (earlier : List Bar) (n : ℕ) (marks : List Mark) → AreFrom n marks → Every (WasTaken marks) earlier → Pairs (bars_from earlier marks)
all_pairs earlier n [] from taken = tt
all_pairs earlier n (m ∷ marks) from taken = go (λ bars known. all_pairs bars (suc m.at) marks from.1 known) m.what refl
  where
    still : Every (WasTaken marks) earlier
    still = every_map (WasTaken (m ∷ marks)) (WasTaken marks) (moved m marks) earlier taken

    none : Pairs (bars_from earlier marks) → Pairs (bars_from (earlier ++ []) marks)
    none rest = subst (λ (bars : List Bar). Pairs (bars_from bars marks)) (sym (append-nil earlier)) rest

    go : ((bars : List Bar) → Every (WasTaken marks) bars → Pairs (bars_from bars marks)) → (what : Happening) → m.what ≡ what
        → Pairs (behind earlier m.at what marks)
    go rest (happening.Did (Granted pick bundle)) e =
        let depth = open_holds pick m.at earlier in
        let a : Bar =
        record { pick = pick; bundle = bundle; taken = m.at; returned = given_back pick 0 marks; depth = depth } in (
          all_deeper earlier a [] marks refl
              (every_map (WasTaken (m ∷ marks)) (IsOuter a) (is_outer m marks pick bundle depth e) earlier taken),
          rest (earlier ++ a ∷ []) (every_push (WasTaken marks) earlier a still ([], suc m.at, from.1, refl)),
        )
    go rest (happening.Did (Returned pick bundle)) e = none (rest earlier still)
    go rest (happening.Did (Printed pick value)) e = none (rest earlier still)
    go rest (happening.Did (Faulted pick kind)) e = none (rest earlier still)
    go rest (happening.Did (Finished process)) e = none (rest earlier still)
    go rest (happening.Read x value) e = none (rest earlier still)
    go rest (happening.Assigned x value) e = none (rest earlier still)

pairs_at : (bars : List Bar) → Pairs bars → (j k : ℕ) (a b : Bar) → j < k → slice_get bars j ≡ Some a → slice_get bars k ≡ Some b → IsDeeper a b
pairs_at [] pairs j k a b lt one two = absurd cc
pairs_at (x ∷ bars) pairs j zero a b lt one two = absurd (omega (arith, lt))
pairs_at (x ∷ bars) pairs zero (suc k) a b lt one two =
    subst (λ (y : Bar). IsDeeper y b) (some_same one) (every_at (IsDeeper x) bars k b pairs.0 two)
pairs_at (x ∷ bars) pairs (suc j) (suc k) a b lt one two = pairs_at bars pairs.1 j k a b (omega (arith, lt)) one two

in_order : (marks : List Mark) (n : ℕ) → AreInOrder marks → ((i : ℕ) (m : Mark) → slice_get marks i ≡ Some m → n ≤ m.at) → AreFrom n marks
in_order [] n ordered low = tt
in_order (m ∷ marks) n ordered low = (
  low 0 m refl,
  in_order marks (suc m.at) (λ i j a b lt one two. ordered (suc i) (suc j) a b (omega (arith, lt)) one two)
      (λ i x there. let later : m.at < x.at = ordered 0 (suc i) m x (omega arith) refl there in omega (arith, later)),
)

pub bars_nested : (marks : List Mark) → AreInOrder marks → AreNested (bars_of marks)
bars_nested marks ordered =
    pairs_at (bars_of marks) (all_pairs [] 0 marks (in_order marks 0 ordered (λ i m there. omega arith)) tt)
