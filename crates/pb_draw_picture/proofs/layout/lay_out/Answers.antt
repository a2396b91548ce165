use Rattle.std.proofs.Common.{◌≡◌, ℕ, List, map, ap, refl, sym, ◌∙◌, subst, arith}
use Rattle.std.proofs.lemmas.Grind.{common_steps}
use Rattle.pb_base.specs.Lines.{names_view}
use Rattle.pb_code.specs.View.{labels_view}
use Rattle.pb_draw_picture.specs.Axis.{x_at}
use Rattle.pb_draw_picture.specs.Heads.{head_of, width_for}
use Rattle.pb_draw_picture.specs.Marks.{AreFromLeft, signs}
use Rattle.pb_draw_picture.specs.Pictures.{AreTexts}
use Rattle.pb_draw_picture.specs.Shapes.{sign_of, text_of}
use Rattle.pb_draw_picture.specs.Waits.{waits}
use Rattle.pb_draw_picture.proofs.MarkPlaces.{signs_rise}
use Rattle.pb_draw_picture.proofs.RowLemmas.{all_within}
use Rattle.pb_draw_picture.specs.Places.{places_of}
use Rattle.pb_draw_picture.proofs.layout.lay_out.Goals as goal

pub returns : goal.returns
returns c =
    let names = names_view c.args.names.now in
    let labels = labels_view c.args.labels.now in
    let places = places_of c.in_ok-grid.grid in
    let marks = c.args.drawing.now.marks.items in
    let are : map sign_of c.in_ok-ticks.ticks.items ≡ signs names labels places marks =
    c.in_ok-ticks.ensures ∙ ap (signs names labels places) c.deref-2.ensures.value in
    let head : c.in_ok-head.head.items ≡ head_of names c.args.deadlock c.args.circle.now = c.in_ok-head.ensures in
    record {
      places = places_of c.in_ok-grid.grid;
      knots = c.in_ok-grid.grid.knots.items;
      events = c.in_ok-grid.ensures.knots;
      at = refl;
      axis = c.in_ok-grid.ensures.axis;
      right = ap (x_at c.in_ok-grid.grid.knots.items) c.in_ok-grid.ensures.end;
      rows = c.in_ok-grid.ensures.rows;
      others = c.in_ok-grid.ensures.others;
      within = all_within c.args.drawing.now.bars.items;
      rising = λ ordered. subst AreFromLeft (sym are) (signs_rise names labels places marks c.in_ok-grid.ensures.axis ordered);
      rects = c.in_ok-rects.ensures;
      waits = c.in_ok-waits.ensures ∙ ap (waits names places) c.deref.ensures.value;
      texts =
          subst (λ (said : List ℕ). AreTexts names c.args.capital.now c.args.drawing.now said places c.in_ok-grid.grid.knots.items
          (map text_of c.in_ok-texts.texts.items)) head c.in_ok-texts.ensures;
      marks = are;
      wide = c.width_for-width.ensures.width
          ∙ (ap (λ (x : ℕ). width_for x c.as_slice.result.now) c.right.ensures.x ∙ ap (width_for places.right) (c.as_slice.ensures.value ∙ head));
      high = grind (arith, common_steps);
    }
