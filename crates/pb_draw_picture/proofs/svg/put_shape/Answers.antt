use Rattle.std.proofs.Common.{append_assoc}
use Rattle.pb_draw_picture.specs.Svg.{rect_shape}
use Rattle.pb_draw_picture.proofs.svg.put_shape.Goals as goal

pub returns : goal.returns
unfolding rect_shape
returns c =
    rw (
      c.in_ok-put-3.ensures,
      c.in_ok-put_number-4.ensures,
      c.in_ok-put_number-3.ensures,
      c.in_ok-put_number-2.ensures,
      c.in_ok-put_number.ensures,
      c.in_ok-put_colour.ensures,
      c.in_ok-put-2.ensures,
      c.rect_word-word.ensures,
      c.in_ok-put.ensures,
    ) (simp append_assoc)
