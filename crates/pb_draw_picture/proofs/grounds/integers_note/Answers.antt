use Rattle.std.proofs.Common.{refl}
use Rattle.pb_draw_picture.specs.Grounds.{integers_note}
use Rattle.pb_draw_picture.proofs.grounds.integers_note.Goals as goal

pub returns : goal.returns
unfolding integers_note
returns c = refl
