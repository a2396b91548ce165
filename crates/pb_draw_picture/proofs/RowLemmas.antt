-- Rows that are made one after another, and how they are seen.
use Rattle.std.proofs.Common.{◌≡◌, ◌≢◌, ℕ, zero, suc, ◌+◌, ◌<◌, ◌≤◌, ◌&&◌, ◌||◌, Bool, true, false, cond, List, [], ◌∷◌, ◌++◌, map}
use Rattle.std.proofs.Common.{Some, refl, sym, ap, ◌∙◌, subst, arith}
use Rattle.std.specs.Prelude.{◌==◌, min, slice_get}
use Rattle.std.proofs.Math.Nat.{min-le_right}
use Rattle.std.proofs.lemmas.Bool.{eqb-true, eq-eqb}
use Rattle.pb_base.proofs.Lists.{some_same}
use Rattle.pb_base.specs.declared.pick.Pick.{Pick}
use Rattle.pb_draw.specs.Arms.{AreDifferent}
use Rattle.pb_draw.specs.declared.drawing.Bar.{Bar}
use Rattle.pb_draw.specs.declared.drawing.Lane.{Lane}
use Rattle.pb_draw_picture.specs.Lanes.{is_ever_live}
use Rattle.pb_draw_picture.specs.Places.{Places, is_arm, track_in, track_of}
use Rattle.pb_draw_picture.specs.Rows.{AreRowsOf, AreStacked, AreWithin, IsPile, IsRowOf, has_lane, height_for, height_in, height_of, room_for, room_of}
use Rattle.pb_draw_picture.specs.declared.row.Row.{Row}
use Rattle.pb_draw_picture.specs.declared.sizes.TheConstants.{ABOVE, LOWEST}

-- ---- one row more

module _ (bars : List Bar) where
  pub rows_push : (lanes : List Lane) (rows : List Row) (lane : Lane) (row : Row) → AreRowsOf lanes bars rows
      → IsRowOf lane bars row → AreRowsOf (lanes ++ lane ∷ []) bars (rows ++ row ∷ [])
  rows_push [] [] lane row h is = (is, tt)
  rows_push [] (r ∷ rows) lane row h is = absurd h
  rows_push (l ∷ lanes) [] lane row h is = absurd h
  rows_push (l ∷ lanes) (r ∷ rows) lane row h is = (h.0, rows_push lanes rows lane row h.1 is)

pub pile_push : (rows : List Row) (row : Row) (top foot foot' : ℕ) → IsPile top rows foot → row.y ≡ foot
    → foot' ≡ min (foot + height_in row) LOWEST → IsPile top (rows ++ row ∷ []) foot'
pile_push [] row top foot foot' h at is = (at ∙ sym h, ap (λ (t : ℕ). min (t + height_in row) LOWEST) h ∙ sym is)
pile_push (r ∷ rows) row top foot foot' h at is = (h.0, pile_push rows row (min (top + height_in r) LOWEST) foot foot' h.1 at is)

-- ---- what is found

same_arm : (a : Pick) → is_arm a a ≡ true
same_arm a = rw (eq-eqb a.process a.process refl, eq-eqb a.arm a.arm refl) refl

pub other_arm : (a b : Pick) → a ≢ b → is_arm a b ≡ false
other_arm a b apart = go (a.process == b.process) (a.arm == b.arm) refl refl
  where
    go : (x y : Bool) → (a.process == b.process) ≡ x → (a.arm == b.arm) ≡ y → (x && y) ≡ false
    go false y e f = refl
    go true false e f = refl
    go true true e f =
        let with_process : ℕ → Pick = λ n. record { process = n; arm = a.arm } in
        let with_arm : ℕ → Pick = λ n. record { process = b.process; arm = n } in
        absurd (apart (ap with_process (eqb-true a.process b.process e) ∙ ap with_arm (eqb-true a.arm b.arm f)))

later_apart : (arm : Pick) (arms : List Pick) → AreDifferent (arm ∷ arms) → AreDifferent arms
later_apart arm arms apart = λ i j a b lt one two. apart (suc i) (suc j) a b (omega (arith, lt)) one two

mapped_at : (rows : List Row) (i : ℕ) (row : Row) → slice_get rows i ≡ Some row → slice_get (map (λ (r : Row). r.pick) rows) i ≡ Some row.pick
mapped_at [] i row h = cc
mapped_at (r ∷ rows) zero row h = ap Some (ap (λ (x : Row). x.pick) (some_same h))
mapped_at (r ∷ rows) (suc i) row h = mapped_at rows i row h

-- the line of an arm is that of its row
found : (rows : List Row) → AreDifferent (map (λ (r : Row). r.pick) rows) → (i : ℕ) (row : Row) → slice_get rows i ≡ Some row
    → track_of rows row.pick ≡ track_in row
found [] apart i row h = cc
found (r ∷ rows) apart zero row h =
    let e : r ≡ row = some_same h in
    let same : is_arm r.pick row.pick ≡ true = subst (λ (x : Row). is_arm x.pick row.pick ≡ true) (sym e) (same_arm row.pick) in
    ap (λ (b : Bool). cond b (track_in r) (track_of rows row.pick)) same ∙ ap track_in e
found (r ∷ rows) apart (suc i) row h =
    let other : is_arm r.pick row.pick ≡ false =
    other_arm r.pick row.pick (apart 0 (suc i) r.pick row.pick (omega arith) refl (mapped_at rows i row h)) in
    ap (λ (b : Bool). cond b (track_in r) (track_of rows row.pick)) other
    ∙ found rows (later_apart r.pick (map (λ (x : Row). x.pick) rows) apart) i row h

-- ---- rows that are one below the other

below : (n most foot : ℕ) → min n most ≤ foot → foot < most → min n most ≡ n
below n most foot le lt = grind arith

pile_grows : (rows : List Row) (top foot : ℕ) → IsPile top rows foot → top ≤ LOWEST → top ≤ foot
pile_grows [] top foot h low = omega (arith, h)
pile_grows (row ∷ rows) top foot h low = go (pile_grows rows (min (top + height_in row) LOWEST) foot h.1 (min-le_right _ _))
  where
    go : min (top + height_in row) LOWEST ≤ foot → top ≤ foot
    go le = let within : top ≤ min (top + height_in row) LOWEST = grind arith in omega (arith, le, within)

module _ (bars : List Bar) where
  pub same_arms : (lanes : List Lane) (rows : List Row) → AreRowsOf lanes bars rows
      → map (λ (l : Lane). l.pick) lanes ≡ map (λ (r : Row). r.pick) rows
  same_arms [] [] h = refl
  same_arms [] (r ∷ rows) h = absurd h
  same_arms (l ∷ lanes) [] h = absurd h
  same_arms (l ∷ lanes) (r ∷ rows) h =
      ap (λ (x : Pick). x ∷ map (λ (l : Lane). l.pick) lanes) (sym h.0.arm)
      ∙ ap (λ (ps : List Pick). r.pick ∷ ps) (same_arms lanes rows h.1)

  pub stacked : (places : Places) (lanes : List Lane) (rows : List Row) (top foot : ℕ) → AreRowsOf lanes bars rows
      → IsPile top rows foot → top ≤ LOWEST → foot < LOWEST
      → ((i : ℕ) (row : Row) → slice_get rows i ≡ Some row → places.line row.pick ≡ track_in row)
      → AreStacked places bars top lanes foot
  stacked places [] [] top foot of pile low high finds = pile
  stacked places [] (r ∷ rows) top foot of pile low high finds = absurd of
  stacked places (l ∷ lanes) [] top foot of pile low high finds = absurd of
  stacked places (l ∷ lanes) (r ∷ rows) top foot of pile low high finds =
      let line : places.line l.pick ≡ top + ABOVE =
      ap places.line (sym of.0.arm) ∙ (finds 0 r refl ∙ ap (λ (y : ℕ). y + ABOVE) pile.0) in
      let height : height_in r ≡ height_of bars l =
      ap (λ (b : Bool). cond b (height_for r.deepest) 0) of.0.shown
      ∙ ap (λ (n : ℕ). cond (is_ever_live l) (height_for n) 0) of.0.room in
      let grows : min (top + height_in r) LOWEST ≤ foot =
      pile_grows rows (min (top + height_in r) LOWEST) foot pile.1 (min-le_right (top + height_in r) LOWEST) in
      let e : min (top + height_in r) LOWEST ≡ top + height_of bars l =
      below (top + height_in r) LOWEST foot grows high ∙ ap (λ (n : ℕ). top + n) height in
      let lower : top + height_of bars l ≤ LOWEST = subst (λ (t : ℕ). t ≤ LOWEST) e (min-le_right (top + height_in r) LOWEST) in (
        line,
        stacked places lanes rows (top + height_of bars l) foot of.1 (subst (λ (t : ℕ). IsPile t rows foot) e pile.1) lower high
            (λ i row there. finds (suc i) row there),
      )

  pub rows_stacked : (places : Places) (lanes : List Lane) (rows : List Row) (top foot : ℕ) → places.line ≡ track_of rows
      → AreRowsOf lanes bars rows → IsPile top rows foot → top ≤ LOWEST → foot < LOWEST
      → AreDifferent (map (λ (l : Lane). l.pick) lanes) → AreStacked places bars top lanes foot
  rows_stacked places lanes rows top foot line of pile low high apart =
      let different = subst AreDifferent (same_arms lanes rows of) apart in
      stacked places lanes rows top foot of pile low high (λ i row there.
      ap (λ (f : Pick → ℕ). f row.pick) line ∙ found rows different i row there)

  -- an arm that has no lane has no row
  pub no_line : (lanes : List Lane) (rows : List Row) → AreRowsOf lanes bars rows → (arm : Pick) → has_lane arm lanes ≡ false
      → track_of rows arm ≡ 0
  no_line lanes [] of arm none = refl
  no_line [] (r ∷ rows) of arm none = absurd of
  no_line (l ∷ lanes) (r ∷ rows) of arm none = go (λ rest. no_line lanes rows of.1 arm rest) (is_arm l.pick arm) refl
    where
      go : (has_lane arm lanes ≡ false → track_of rows arm ≡ 0) → (b : Bool) → is_arm l.pick arm ≡ b → track_of (r ∷ rows) arm ≡ 0
      go later true e = let some : true ≡ false = subst (λ (b : Bool). (b || has_lane arm lanes) ≡ false) e none in absurd cc
      go later false e =
          let rest : has_lane arm lanes ≡ false = subst (λ (b : Bool). (b || has_lane arm lanes) ≡ false) e none in
          let other : is_arm r.pick arm ≡ false = subst (λ (p : Pick). is_arm p arm ≡ false) (sym of.0.arm) e in
          ap (λ (b : Bool). cond b (track_in r) (track_of rows arm)) other ∙ later rest

-- each hold is within the row of its arm
deep_enough : (arm : Pick) (bars : List Bar) (k : ℕ) (bar : Bar) → slice_get bars k ≡ Some bar → is_arm arm bar.pick ≡ true
    → bar.depth < room_for arm bars
deep_enough arm [] k bar there is = cc
deep_enough arm (b ∷ bars) zero bar there is =
    let same : b ≡ bar = some_same there in
    let room : room_of arm b ≡ bar.depth + 1 =
    ap (room_of arm) same ∙ ap (λ (x : Bool). cond x (bar.depth + 1) 0) is in
    grind arith
deep_enough arm (b ∷ bars) (suc k) bar there is =
    let rest : bar.depth < room_for arm bars = deep_enough arm bars k bar there is in grind arith

pub all_within : (bars : List Bar) → AreWithin bars
all_within bars = λ k bar there. deep_enough bar.pick bars k bar there (same_arm bar.pick)
