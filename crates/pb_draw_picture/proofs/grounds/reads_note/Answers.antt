use Rattle.std.proofs.Common.{refl}
use Rattle.pb_draw_picture.specs.Grounds.{reads_note}
use Rattle.pb_draw_picture.proofs.grounds.reads_note.Goals as goal

pub returns : goal.returns
unfolding reads_note
returns c = refl
