-- How many holds of an arm are open, as holds are taken and given back.
use Rattle.std.proofs.Common.{◌≡◌, ℕ, suc, ◌+◌, ◌<◌, ◌≤◌, ◌&&◌, Bool, true, false, cond, List, [], ◌∷◌, ◌++◌, drop, get_or, length}
use Rattle.std.proofs.Common.{Option, Some, None, refl, sym, ap, ◌∙◌, subst, append_assoc, drop-cons, arith}
use Rattle.std.proofs.lemmas.List.{append-nil}
use Rattle.std.proofs.lemmas.Bool.{le-ltb, ltb-false}
use Rattle.std.specs.Prelude.{IfSome}
use Rattle.pb_base.specs.declared.event.Event.TheVariants.{Granted, Returned, Printed, Faulted, Finished}
use Rattle.pb_base.specs.declared.pick.Pick.{Pick}
use Rattle.pb_draw.specs.Bars.{bar_for, bars_from, bars_of, given_back, is_before, is_open, open_holds}
use Rattle.pb_draw.specs.declared.drawing.Bar.{Bar}
use Rattle.pb_draw.specs.declared.drawing.Happening.{Happening}
use Rattle.pb_draw.specs.declared.drawing.Happening.TheVariants as happening
use Rattle.pb_draw.specs.declared.drawing.Mark.{Mark}
use Rattle.pb_history.specs.Entries.{are_same}

-- 1 if it is so, else 0
abbrev pub one_if : Bool → ℕ
one_if b = cond b 1 0

-- from an item on a list is that item and what is behind it
drop_there : {X : Type 0} (xs : List X) (i : ℕ) (x : X) → i < length xs → x ≡ get_or xs i x → drop i xs ≡ x ∷ drop (i + 1) xs
drop_there xs i x lt is =
    drop-cons xs i x lt
    ∙ (ap (λ y. y ∷ drop (suc i) xs) (sym is)
    ∙ ap (λ n. x ∷ drop n xs) (let e : suc i ≡ i + 1 = omega arith in e))

pub holds_append : (arm : Pick) (t : ℕ) (a b : List Bar) → open_holds arm t (a ++ b) ≡ open_holds arm t a + open_holds arm t b
holds_append arm t [] b = omega arith
holds_append arm t (x ∷ a) b =
    let rest : open_holds arm t (a ++ b) ≡ open_holds arm t a + open_holds arm t b = holds_append arm t a b in
    omega (arith, rest)

-- one hold more is counted
pub holds_next : (arm : Pick) (t : ℕ) (bars : List Bar) (i : ℕ) (x : Bar) (holds next : ℕ) → i < length bars → x ≡ get_or bars i x
    → open_holds arm t bars ≡ holds + open_holds arm t (drop i bars) → next ≡ holds + cond (is_open arm t x) 1 0
    → open_holds arm t bars ≡ next + open_holds arm t (drop (i + 1) bars)
holds_next arm t bars i x holds next lt is before more =
    let here : open_holds arm t (drop i bars) ≡ cond (is_open arm t x) 1 0 + open_holds arm t (drop (i + 1) bars) =
    ap (open_holds arm t) (drop_there bars i x lt is) in
    omega (arith, before, more, here)

-- what is given back up to a pick is not open later
closed_later : (at t : ℕ) (returned : Option ℕ) → is_before at returned ≡ false → at ≤ t → is_before t returned ≡ false
closed_later at t None e le = e
closed_later at t (Some r) e le = let past : r ≤ at = ltb-false at r e in le-ltb t r (omega (arith, past, le))

not_open : (arm : Pick) (t : ℕ) (x : Bar) → is_before t x.returned ≡ false → one_if (is_open arm t x) ≡ 0
not_open arm t x e = ap (λ (b : Bool). one_if (are_same x.pick arm && b)) e ∙ never (are_same x.pick arm)
  where
    never : (b : Bool) → one_if (b && false) ≡ 0
    never true = refl
    never false = refl

-- a hold that is still open is kept
still_kept : (arm : Pick) (t : ℕ) (held : List Bar) (i : ℕ) (x : Bar) (still next : List Bar) → i < length held → x ≡ get_or held i x
    → open_holds arm t held ≡ open_holds arm t still + open_holds arm t (drop i held) → next ≡ still ++ x ∷ []
    → open_holds arm t held ≡ open_holds arm t next + open_holds arm t (drop (i + 1) held)
still_kept arm t held i x still next lt is before more =
    let here : open_holds arm t (drop i held) ≡ cond (is_open arm t x) 1 0 + open_holds arm t (drop (i + 1) held) =
    ap (open_holds arm t) (drop_there held i x lt is) in
    let now : open_holds arm t next ≡ open_holds arm t still + (cond (is_open arm t x) 1 0 + 0) =
    ap (open_holds arm t) more ∙ holds_append arm t still (x ∷ []) in
    omega (arith, before, here, now)

-- one that is given back is left out
still_left : (arm : Pick) (at t : ℕ) (held : List Bar) (i : ℕ) (x : Bar) (still : List Bar) → i < length held → x ≡ get_or held i x
    → open_holds arm t held ≡ open_holds arm t still + open_holds arm t (drop i held) → is_before at x.returned ≡ false → at ≤ t
    → open_holds arm t held ≡ open_holds arm t still + open_holds arm t (drop (i + 1) held)
still_left arm at t held i x still lt is before closed le =
    let here : open_holds arm t (drop i held) ≡ cond (is_open arm t x) 1 0 + open_holds arm t (drop (i + 1) held) =
    ap (open_holds arm t) (drop_there held i x lt is) in
    let none : one_if (is_open arm t x) ≡ 0 = not_open arm t x (closed_later at t x.returned closed le) in
    omega (arith, before, here, none)

-- one of both
pub still_next : (arm : Pick) (at t : ℕ) (held : List Bar) (i : ℕ) (x : Bar) (still next : List Bar) (b : Bool) → i < length held
    → x ≡ get_or held i x → open_holds arm t held ≡ open_holds arm t still + open_holds arm t (drop i held) → at ≤ t
    → b ≡ is_before at x.returned → next ≡ still ++ cond b (x ∷ []) []
    → open_holds arm t held ≡ open_holds arm t next + open_holds arm t (drop (i + 1) held)
still_next arm at t held i x still next true lt is before le same more = still_kept arm t held i x still next lt is before more
still_next arm at t held i x still next false lt is before le same more =
    subst (λ (bars : List Bar). open_holds arm t held ≡ open_holds arm t bars + open_holds arm t (drop (i + 1) held))
    (sym (more ∙ append-nil still)) (still_left arm at t held i x still lt is before (sym same) le)

-- a bar is the same in holds of which as many are open
pub same_bar : (held bars : List Bar) (at : ℕ) (what : Happening) (later : List Mark)
    → ((arm : Pick) → open_holds arm at held ≡ open_holds arm at bars) → bar_for held at what later ≡ bar_for bars at what later
same_bar held bars at (happening.Did (Granted pick bundle)) later same =
    let bar_at : ℕ → Bar = λ n. record { pick = pick; bundle = bundle; taken = at; returned = given_back pick 0 later; depth = n } in
    ap (λ (n : ℕ). bar_at n ∷ []) (same pick)
same_bar held bars at (happening.Did (Returned pick bundle)) later same = refl
same_bar held bars at (happening.Did (Printed pick value)) later same = refl
same_bar held bars at (happening.Did (Faulted pick kind)) later same = refl
same_bar held bars at (happening.Did (Finished process)) later same = refl
same_bar held bars at (happening.Read x value) later same = refl
same_bar held bars at (happening.Assigned x value) later same = refl

-- the bars of one mark more
pub bars_next : (marks : List Mark) (i : ℕ) (m : Mark) (bars made next : List Bar) → i < length marks → m ≡ get_or marks i m
    → bars_of marks ≡ bars ++ bars_from bars (drop i marks) → made ≡ bar_for bars m.at m.what (drop (i + 1) marks)
    → next ≡ bars ++ made → bars_of marks ≡ next ++ bars_from next (drop (i + 1) marks)
bars_next marks i m bars made next lt is before same more =
    let rest = drop (i + 1) marks in
    before
    ∙ (ap (λ (ms : List Mark). bars ++ bars_from bars ms) (drop_there marks i m lt is)
    ∙ (ap (λ (x : List Bar). bars ++ (x ++ bars_from (bars ++ x) rest)) (sym same)
    ∙ (sym (append_assoc bars made (bars_from (bars ++ made) rest)) ∙ ap (λ (x : List Bar). x ++ bars_from x rest) (sym more))))

-- a bar that is taken with a pick is taken up to a later one
pub taken_by : (bar : Option Bar) (at t : ℕ) → IfSome bar (λ b. b.taken ≡ at) → at ≤ t → IfSome bar (λ b. b.taken ≤ t)
taken_by None at t h le = tt
taken_by (Some b) at t h le = omega (arith, h, le)
