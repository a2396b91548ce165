-- Marks from left to right.
use Rattle.std.proofs.Common.{◌≡◌, ◌<◌, ◌≤◌, ◌+◌, ℕ, List, Option, refl, sym, ap, ◌∙◌, arith}
use Rattle.pb_base.proofs.Lists.{get_mapped}
use Rattle.pb_base.specs.Lines.{NameTable}
use Rattle.pb_base.specs.declared.pick.Pick.{Pick}
use Rattle.pb_code.specs.Whole.{ProcessLabels}
use Rattle.pb_draw.specs.Marks.{AreInOrder}
use Rattle.pb_draw.specs.declared.drawing.Happening.{Happening}
use Rattle.pb_draw.specs.declared.drawing.Happening.TheVariants as happening
use Rattle.pb_draw.specs.declared.drawing.Mark.{Mark}
use Rattle.pb_draw_picture.specs.Axis.{IsAxis}
use Rattle.pb_draw_picture.specs.Marks.{AreFromLeft, sign_for, signs}
use Rattle.pb_draw_picture.specs.Places.{Places}
use Rattle.pb_draw_picture.specs.Shapes.{Sign}
use Rattle.pb_draw_picture.specs.declared.sizes.TheConstants.{MIDDLE}

-- each is at its place
sign_x : (names : NameTable) (labels : List ProcessLabels) (x y : ℕ) (pick : Pick) (source : Option ℕ) (what : Happening)
    → (sign_for names labels x y pick source what).x ≡ x
sign_x names labels x y pick source (happening.Did event) = refl
sign_x names labels x y pick source (happening.Read integer value) = refl
sign_x names labels x y pick source (happening.Assigned integer value) = refl

pub signs_rise : (names : NameTable) (labels : List ProcessLabels) (places : Places) (marks : List Mark) → IsAxis marks places.x
    → AreInOrder marks → AreFromLeft (signs names labels places marks)
signs_rise names labels places marks axis ordered = λ i j s t lt one two.
    let f : Mark → Sign =
    λ m. sign_for names labels (places.x (m.at + 1)) (places.line m.pick + MIDDLE) m.pick m.line m.what in
    let at : (m : Mark) → places.x (m.at + 1) ≡ (f m).x =
    λ m. sym (sign_x names labels (places.x (m.at + 1)) (places.line m.pick + MIDDLE) m.pick m.line m.what) in
    let first = get_mapped f marks i s one in
    let second = get_mapped f marks j t two in
    let before : first.0.at < second.0.at = ordered i j first.0 second.0 lt first.1 second.1 in
    let apart : places.x (first.0.at + 1) + 16 ≤ places.x (second.0.at + 1) =
    axis.apart ordered i (second.0.at + 1) first.0 first.1 (omega (arith, before)) in
    let a : places.x (first.0.at + 1) ≡ s.x = at first.0 ∙ ap (λ (x : Sign). x.x) first.2 in
    let b : places.x (second.0.at + 1) ≡ t.x = at second.0 ∙ ap (λ (x : Sign). x.x) second.2 in
    omega (arith, apart, a, b)
