-- The events of an axis are those of its marks.
use Rattle.std.proofs.Common.{◌≡◌, ◌<◌, ◌≤◌, ℕ, zero, suc, ◌+◌, ◌-◌, max, List, [], ◌∷◌, ◌++◌, length, refl, sym, ap, ◌∙◌, subst, drop, Some, append_assoc, arith}
use Rattle.std.specs.Prelude.{slice_get}
use Rattle.pb_base.specs.Lines.{NameTable}
use Rattle.pb_code.specs.Whole.{ProcessLabels}
use Rattle.pb_draw.specs.declared.drawing.Mark.{Mark}
use Rattle.pb_draw_picture.specs.Axis.{AreKnots, AreKnotsFrom, last, one_more, same, squeezed, width_of}
use Rattle.pb_draw_picture.specs.declared.knot.Knot.{Knot}

-- after the first i marks: with the events of the others these are those of all
abbrev pub KnotsSoFar : NameTable → List ProcessLabels → (picks left : ℕ) → List Mark → (i position x width : ℕ) → List Knot → Type 0
KnotsSoFar names labels picks left marks i position x width knots =
    (rest : List Knot) → AreKnotsFrom names labels picks position x width (drop i marks) rest
    → AreKnots names labels picks left marks (knots ++ rest)

drop_suc : {X : Type 0} (xs : List X) (i : ℕ) (x : X) → slice_get xs i ≡ Some x → drop i xs ≡ x ∷ drop (suc i) xs
drop_suc [] i x there = cc
drop_suc (y ∷ xs) zero x there = let e : Some y ≡ Some x = there in let same : y ≡ x = cc in ap (λ (z : _). z ∷ xs) same
drop_suc (y ∷ xs) (suc i) x there = drop_suc xs i x there

drop_at : {X : Type 0} (xs : List X) (i : ℕ) (x : X) → slice_get xs i ≡ Some x → drop i xs ≡ x ∷ drop (i + 1) xs
drop_at xs i x there =
    let e : suc i ≡ i + 1 = omega arith in subst (λ (k : ℕ). drop i xs ≡ x ∷ drop k xs) e (drop_suc xs i x there)

drop_all : {X : Type 0} (xs : List X) (i : ℕ) → length xs ≤ i → drop i xs ≡ []
drop_all [] zero few = refl
drop_all [] (suc i) few = refl
drop_all (x ∷ xs) zero few = absurd (omega (arith, few))
drop_all (x ∷ xs) (suc i) few = drop_all xs i (omega (arith, few))

module _ (names : NameTable) (labels : List ProcessLabels) (picks left : ℕ) (marks : List Mark) where
  pub knots_start : (position x width : ℕ) → position ≡ 0 → x ≡ left → width ≡ 48
      → KnotsSoFar names labels picks left marks 0 position x width []
  knots_start position x width at from wide rest are =
      subst (λ (p : ℕ). AreKnotsFrom names labels picks p left 48 marks rest) at
      (subst (λ (f : ℕ). AreKnotsFrom names labels picks position f 48 marks rest) from
      (subst (λ (w : ℕ). AreKnotsFrom names labels picks position x w marks rest) wide are))

  pub knots_push : (i position x width next x' width' : ℕ) (knots knots' : List Knot) (mark : Mark) (knot : Knot)
      → KnotsSoFar names labels picks left marks i position x width knots → slice_get marks i ≡ Some mark
      → next ≡ mark.at + 1 → position < next
      → knot.position ≡ position → knot.x ≡ x → knot.width ≡ width → knot.silent ≡ next - position - 1
      → x' ≡ knot.x + knot.width + squeezed knot.silent knot.silent → width' ≡ width_of names labels mark
      → knots' ≡ knots ++ knot ∷ [] → KnotsSoFar names labels picks left marks (i + 1) next x' width' knots'
  knots_push i position x width next x' width' knots knots' mark knot h there is lt at from wide silent to wide' items rest are =
      let on =
      subst (λ (p : ℕ). AreKnotsFrom names labels picks p (knot.x + knot.width + squeezed knot.silent knot.silent) (width_of names labels mark) (drop (i + 1) marks) rest) is
      (subst (λ (f : ℕ). AreKnotsFrom names labels picks next f (width_of names labels mark) (drop (i + 1) marks) rest) to
      (subst (λ (w : ℕ). AreKnotsFrom names labels picks next x' w (drop (i + 1) marks) rest) wide' are)) in
      let all : AreKnotsFrom names labels picks position x width (mark ∷ drop (i + 1) marks) (knot ∷ rest) =
      one_more position x width mark (drop (i + 1) marks) knot rest (omega (arith, is, lt))
      (record { position_is = at; x_is = from; width_is = wide; silent_is = omega (arith, silent, is) }) on in
      subst (λ (ks : List Knot). AreKnots names labels picks left marks ks)
      (sym (ap (λ (ks : List Knot). ks ++ rest) items ∙ append_assoc knots (knot ∷ []) rest))
      (h (knot ∷ rest) (subst (λ (ms : List Mark). AreKnotsFrom names labels picks position x width ms (knot ∷ rest)) (sym (drop_at marks i mark there)) all))

  pub knots_skip : (i position x width next x' width' : ℕ) (knots knots' : List Knot) (mark : Mark)
      → KnotsSoFar names labels picks left marks i position x width knots → slice_get marks i ≡ Some mark → mark.at + 1 ≤ position
      → next ≡ position → x' ≡ x → width' ≡ width → knots' ≡ knots → KnotsSoFar names labels picks left marks (i + 1) next x' width' knots'
  knots_skip i position x width next x' width' knots knots' mark h there le at from wide items rest are =
      let on =
      subst (λ (p : ℕ). AreKnotsFrom names labels picks p x width (drop (i + 1) marks) rest) at
      (subst (λ (f : ℕ). AreKnotsFrom names labels picks next f width (drop (i + 1) marks) rest) from
      (subst (λ (w : ℕ). AreKnotsFrom names labels picks next x' w (drop (i + 1) marks) rest) wide are)) in
      subst (λ (ks : List Knot). AreKnots names labels picks left marks (ks ++ rest)) (sym items)
      (h rest (subst (λ (ms : List Mark). AreKnotsFrom names labels picks position x width ms rest) (sym (drop_at marks i mark there))
      (same position x width mark (drop (i + 1) marks) rest le on)))

  pub knots_end : (i position x width : ℕ) (knots knots' : List Knot) (knot : Knot)
      → KnotsSoFar names labels picks left marks i position x width knots → length marks ≤ i
      → knot.position ≡ position → knot.x ≡ x → knot.width ≡ width → knot.silent ≡ max picks position + 1 - position - 1
      → knots' ≡ knots ++ knot ∷ [] → AreKnots names labels picks left marks knots'
  knots_end i position x width knots knots' knot h all at from wide silent items =
      subst (λ (ks : List Knot). AreKnots names labels picks left marks ks) (sym items)
      (h (knot ∷ []) (subst (λ (ms : List Mark). AreKnotsFrom names labels picks position x width ms (knot ∷ [])) (sym (drop_all marks i all))
      (last position x width knot (record { position_is = at; x_is = from; width_is = wide; silent_is = silent }))))
