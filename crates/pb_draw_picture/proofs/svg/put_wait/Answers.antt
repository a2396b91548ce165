use Rattle.std.proofs.Common.{append_assoc}
use Rattle.pb_draw_picture.specs.Svg.{wait_text}
use Rattle.pb_draw_picture.proofs.svg.put_wait.Goals as goal

pub returns : goal.returns
unfolding wait_text
returns c =
    rw (
      c.in_ok-put-6.ensures,
      c.in_ok-put-5.ensures,
      c.as_slice-label.ensures.value,
      c.in_ok-put-4.ensures,
      c.in_ok-put_number-2.ensures,
      c.in_ok-put_number.ensures,
      c.in_ok-put_shape.ensures,
      c.in_ok-put-3.ensures,
      c.in_ok-put-2.ensures,
      c.as_slice-why.ensures.value,
      c.in_ok-put.ensures,
    ) (simp append_assoc)
