use Rattle.std.proofs.Common.{refl}
use Rattle.pb_draw_picture.specs.Grounds.{time_note}
use Rattle.pb_draw_picture.proofs.grounds.time_note.Goals as goal

pub returns : goal.returns
unfolding time_note
returns c = refl
