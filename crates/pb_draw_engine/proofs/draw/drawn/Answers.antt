use Rattle.std.proofs.Common.{arith, Bool, List, length, sym, ap, ◌∙◌, subst}
use Rattle.std.specs.Prelude.{All}
use Rattle.pb_base.specs.Lines.{NameTable}
use Rattle.pb_circles.specs.declared.link.Link.{Link}
use Rattle.pb_code.specs.View.{labels_view}
use Rattle.pb_draw.specs.Marks.{IsNamed}
use Rattle.pb_code.specs.Whole.{Code}
use Rattle.pb_draw_picture.specs.Pictures.{IsLayout}
use Rattle.pb_draw.specs.declared.drawing.Mark.{Mark}
use Rattle.pb_verifier.specs.declared.fault.VerifyFault.TheVariants.{OutOfLimits}
use Rattle.pb_draw_engine.specs.Draws.{is_stuck}
use Rattle.pb_machine.specs.Views.{machine_view}
use Rattle.pb_draw_engine.proofs.draw.drawn.Goals as goal

pub lay_out-requires-clause-named : goal.lay_out-requires-clause-named
lay_out-requires-clause-named c =
    subst (λ (n : NameTable). All (λ (m : Mark). IsNamed n m.what) c.in_ok-drawing.drawing.marks.items)
    (sym (ap (λ (x : Code). x.names) c.code-code.ensures.code)) c.in_ok-drawing.ensures.named

pub lay_out-requires-clause-curves : goal.lay_out-requires-clause-curves
lay_out-requires-clause-curves c =
    c.in_ok-drawing.ensures.curves ∙ sym (ap (λ (x : Code). length x.capital) c.code-code.ensures.code)

pub lay_out-requires-clause-resources : goal.lay_out-requires-clause-resources
lay_out-requires-clause-resources c =
    let limits = c.code-code.ensures.verified.faultless OutOfLimits in
    ap (λ (x : Code). length x.names.resources) c.code-code.ensures.code
    ∙ (limits.resource_names.all ∙ sym (ap (λ (x : Code). length x.capital) c.code-code.ensures.code))

pub returns : goal.returns
returns c =
    let drawing = c.in_ok-drawing.drawing in
    let picture = c.in_ok-picture.picture in
    let code = c.args.verified.now.code in
    let circle = c.in_ok-circle.circle.items in
    let laid_out : IsLayout code.names (labels_view c.args.labels.now) code.capital drawing (is_stuck c.ending_of-ending.result) circle picture =
    subst (λ (b : Bool). IsLayout code.names (labels_view c.args.labels.now) code.capital drawing b circle picture) c.is_stuck.ensures
    (subst (λ (links : List Link). IsLayout code.names (labels_view c.args.labels.now) code.capital drawing c.is_stuck.result links picture)
    c.as_slice.ensures.value
    (subst (λ (x : Code). IsLayout x.names (labels_view c.args.labels.now) x.capital drawing c.is_stuck.result c.as_slice.result.now picture)
    c.code-code.ensures.code c.in_ok-picture.ensures)) in
    let few = c.in_ok-drawing.ensures.rows in
    record {
      ending = c.ending_of-ending.result;
      ends = c.ending_of-ending.ensures c.args.lending c.requires.machine;
      picture = record {
        circle = circle;
        waits = c.in_ok-circle.ensures;
        drawing = drawing;
        picture = picture;
        drawn = c.in_ok-drawing.ensures.drawing;
        laid_out = laid_out;
        stacked = laid_out.rows c.in_ok-drawing.ensures.different (omega (arith, few));
        nested = c.in_ok-drawing.ensures.nested;
        rising = laid_out.rising c.in_ok-drawing.ensures.ordered;
        written = c.in_ok-text.ensures;
      };
      told = c.end_status.ensures.status (machine_view c.args.machine.now) c.status_at-faulted.ensures.status;
    }
