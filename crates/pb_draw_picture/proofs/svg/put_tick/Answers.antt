use Rattle.std.proofs.Common.{append_assoc}
use Rattle.pb_draw_picture.specs.Svg.{tick_text}
use Rattle.pb_draw_picture.proofs.svg.put_tick.Goals as goal

pub returns : goal.returns
unfolding tick_text
returns c =
    rw (
      c.in_ok-put-8.ensures,
      c.in_ok-put-7.ensures,
      c.as_slice-label.ensures.value,
      c.in_ok-put-6.ensures,
      c.in_ok-put_number-4.ensures,
      c.in_ok-put_number-3.ensures,
      c.in_ok-put-5.ensures,
      c.outline-path.ensures,
      c.in_ok-put_number-2.ensures,
      c.in_ok-put_number.ensures,
      c.in_ok-put-4.ensures,
      c.as_slice-title.ensures.value,
      c.in_ok-put-3.ensures,
      c.in_ok-put-2.ensures,
      c.tick_word-word.ensures,
      c.in_ok-put.ensures,
    ) (simp append_assoc)
