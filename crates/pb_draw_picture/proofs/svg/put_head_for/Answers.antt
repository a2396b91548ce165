use Rattle.std.proofs.Common.{append_assoc}
use Rattle.pb_draw_picture.specs.Svg.{head_for}
use Rattle.pb_draw_picture.proofs.svg.put_head_for.Goals as goal

pub returns : goal.returns
unfolding head_for
returns c =
    rw (
      c.in_ok-put.ensures,
      c.style-looks.ensures,
      c.in_ok-put_number-2.ensures,
      c.in_ok-put_number.ensures,
      c.in_ok-put_wide-2.ensures,
      c.in_ok-put_wide.ensures,
    ) (simp append_assoc)
