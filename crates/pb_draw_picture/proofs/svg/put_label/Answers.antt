use Rattle.std.proofs.Common.{append_assoc}
use Rattle.pb_draw_picture.specs.Svg.{label_text}
use Rattle.pb_draw_picture.proofs.svg.put_label.Goals as goal

pub returns : goal.returns
unfolding label_text
returns c =
    rw (
      c.in_ok-put-5.ensures,
      c.in_ok-put-4.ensures,
      c.as_slice-said.ensures.value,
      c.in_ok-put-3.ensures,
      c.in_ok-put_number-2.ensures,
      c.in_ok-put_number.ensures,
      c.in_ok-put-2.ensures,
      c.label_word-word.ensures,
      c.in_ok-put.ensures,
    ) (simp append_assoc)
