use Rattle.std.proofs.Common.{refl}
use Rattle.pb_draw_picture.specs.Grounds.{mark_note}
use Rattle.pb_draw_picture.proofs.grounds.mark_note.Goals as goal

pub returns : goal.returns
unfolding mark_note
returns c = refl
